-- What happens besides settings leaves a slave alike: what it takes and what it refuses stays the same.
use Rattle.std.proofs.Common.{◌≡◌, ◌≢◌, ℕ, ◌+◌, ◌<◌, Bool, true, false, cond, List, [], ◌∷◌, length, refl, ap, sym, ◌∙◌, subst, arith, Option, Some, None, ℤ}
use Rattle.std.specs.Prelude.{◌==◌, ◌&&◌, ◌||◌, not, nat_lt, nat_le, slice_set, is_some, is_none, if◌then◌else◌}
use Rattle.std.specs.List.{cons_option, filter_map, list_all}
use Rattle.std.proofs.lemmas.Bool.Decides.{nat_tests}
use Rattle.dcp_types.specs.declared.addresses.Address.{Address}
use Rattle.dcp_types.specs.declared.states.State.{State}
use Rattle.dcp_types.specs.declared.states.State.TheVariants.{Configuration}
use Rattle.dcp_types.specs.declared.error_codes.ErrorCode.{ErrorCode}
use Rattle.dcp_types.specs.declared.error_codes.ErrorCode.TheVariants.{NotSupported, Position}
use Rattle.dcp_types.specs.Codes.{type_code}
use Rattle.pdu_layout.specs.declared.messages.Cfg.{Cfg}
use Rattle.pdu_layout.specs.declared.messages.Cfg.TheVariants as cfg
use Rattle.pdu_layout.specs.declared.messages.Stc.{Stc}
use Rattle.pdu_layout.specs.declared.messages.Stc.TheVariants as stc
use Rattle.pdu_layout.specs.declared.messages.Inf.{Inf}
use Rattle.pdu_layout.specs.declared.messages.Inf.TheVariants as inf
use Rattle.fixed_models.specs.Kinds.{takes}
use Rattle.slave_desc.specs.declared.descriptions.SlaveDesc.{SlaveDesc}
use Rattle.slave_spec.specs.Changes.{Change, Set, Restart, newest_change, ascending, input, output, vr_for, entries, has_id, ids, source, source_given, target, target_given, time_given, complete}
use Rattle.slave_spec.specs.Refusals as wiring
use Rattle.slave_spec.specs.Refusals.{refused_unless, is_transport, port_with, is_input_of, is_wired, input_refusal, output_refusal}
use Rattle.slave_spec.specs.Payloads.{WiringState, brought, is_wanted}
use Rattle.slave_spec.specs.declared.words.Asked.{Asked}
use Rattle.slave_spec.specs.declared.words.Asked.TheVariants as asked
use Rattle.slave_spec.specs.declared.words.SlaveSetup.{SlaveSetup}
use Rattle.slave_spec.specs.Plants.{Plant}
use Rattle.slave_spec.specs.Requests.{refusal, accepted, answered_plant, body_refusal, changed_to, asked_of}
use Rattle.slave_spec.specs.Turns.{Act, Stay, Wait, Fault, Step, Pass, act, turned, is_listening}
use Rattle.plan_laws.specs.Taking.{IsTakenByPart, TakesAll, plant_after_all}
use Rattle.plan_laws.specs.Runs.{Happening, Turn, Data, Move, Ask, met, met_all, TakesAmid, after_amid}
use Rattle.plan_laws.proofs.Lists.{by_test}
use Rattle.plan_laws.proofs.Told.{is_told, id_of}
use Rattle.plan_laws.proofs.Machines.{judged}

-- ---- what happens between

-- the changes but the restarts
abbrev settled : List Change → List Change
settled [] = []
settled (Set body ∷ changes) = Set body ∷ settled changes
settled (Restart steps ∷ changes) = settled changes

-- two machines with models of one kind with the same parameters, and with the same changes but for restarts
pub record AreAlike (p q : Plant) : Type 0 where
  pub kind : q.model.kind ≡ p.model.kind
  pub parameters : q.model.parameters ≡ p.model.parameters
  pub changes : settled q.wires.changes ≡ settled p.wires.changes

then_alike : (p q r : Plant) → AreAlike p q → AreAlike q r → AreAlike p r
then_alike p q r a b = record { kind = b.kind ∙ a.kind; parameters = b.parameters ∙ a.parameters; changes = b.changes ∙ a.changes }

turned_alike : (x : SlaveSetup) (p : Plant) (a : Act) → AreAlike p (turned x p a).after
turned_alike x p Stay = record { kind = refl; parameters = refl; changes = refl }
turned_alike x p (Wait left) = record { kind = refl; parameters = refl; changes = refl }
turned_alike x p (Fault code) = record { kind = refl; parameters = refl; changes = refl }
turned_alike x p (Step state) = record { kind = refl; parameters = refl; changes = refl }
turned_alike x p Pass = record { kind = refl; parameters = refl; changes = refl }

moved_alike : (x : SlaveSetup) (p : Plant) (request : Stc) (state : State) → AreAlike p (changed_to x p request state)
moved_alike x p stc.Reset state = record { kind = refl; parameters = refl; changes = refl }
moved_alike x p (stc.DoStep steps) state = record { kind = refl; parameters = refl; changes = refl }
moved_alike x p _ state = record { kind = refl; parameters = refl; changes = refl }

asked_alike : (p : Plant) (question : Inf) → AreAlike p (asked_of p question)
asked_alike p inf.State = record { kind = refl; parameters = refl; changes = refl }
asked_alike p inf.Error = record { kind = refl; parameters = refl; changes = refl }
asked_alike p (inf.Log category most) = record { kind = refl; parameters = refl; changes = refl }

answered_alike : (x : SlaveSetup) (p : Plant) (request : Asked) (refused : Option ErrorCode) → AreAlike p (accepted x p request) → AreAlike p (answered_plant x p request refused).after
answered_alike x p request None k = record { kind = k.kind; parameters = k.parameters; changes = k.changes }
answered_alike x p request (Some code) k = record { kind = refl; parameters = refl; changes = refl }

move_alike : (x : SlaveSetup) (p : Plant) (named : State) (request : Stc) → AreAlike p (accepted x p (asked.Change named request))
unfolding accepted
move_alike x p named request = moved_alike x p request _

ask_alike : (x : SlaveSetup) (p : Plant) (question : Inf) → AreAlike p (accepted x p (asked.Question question))
unfolding accepted
ask_alike x p question = asked_alike p question

brought_changes : (d : SlaveDesc) (w : WiringState) (from : Address) (number id : ℕ) (payload : List ℕ) (steps : ℕ) → (brought d w from number id payload steps).changes ≡ w.changes
brought_changes d w from number id payload steps = by_test (is_wanted d w from number id payload steps) (λ e. rw e refl) (λ e. rw e refl)

data_alike : (p : Plant) (w : WiringState) (b : Bool) → w.changes ≡ p.wires.changes → AreAlike p (cond b (record p { wires = w }) p)
data_alike p w true e = record { kind = refl; parameters = refl; changes = ap settled e }
data_alike p w false e = record { kind = refl; parameters = refl; changes = refl }

met_alike : (x : SlaveSetup) (p : Plant) (h : Happening) → AreAlike p (met x p h)
met_alike x p (Turn quiet) = turned_alike x p (act x quiet p)
met_alike x p (Data from number id payload) =
    data_alike p (brought x.desc p.wires from number id payload p.steps) (is_listening p.state) (brought_changes x.desc p.wires from number id payload p.steps)
met_alike x p (Move named request) = answered_alike x p (asked.Change named request) (refusal x p (asked.Change named request)) (move_alike x p named request)
met_alike x p (Ask question) = answered_alike x p (asked.Question question) (refusal x p (asked.Question question)) (ask_alike x p question)

all_alike : (x : SlaveSetup) (p : Plant) (hs : List Happening) → AreAlike p (met_all x p hs)
all_alike x p [] = record { kind = refl; parameters = refl; changes = refl }
all_alike x p (h ∷ hs) = then_alike p (met x p h) (met_all x (met x p h) hs) (met_alike x p h) (all_alike x (met x p h) hs)

-- ---- settings at machines that are alike

not_restarted : {A : Type 0} (f : Change → Option A) → ((steps : ℕ) → f (Restart steps) ≡ None) → (changes : List Change) → filter_map f changes ≡ filter_map f (settled changes)
not_restarted f none [] = refl
not_restarted f none (Set body ∷ changes) = ap (cons_option (f (Set body))) (not_restarted f none changes)
not_restarted f none (Restart steps ∷ changes) = rw (none steps) (not_restarted f none changes)

same_entries : (id : ℕ) (changes : List Change) → (entries input id changes ≡ entries input id (settled changes)) × (entries output id changes ≡ entries output id (settled changes))
same_entries id changes = (not_restarted (λ change. vr_for id (input change)) (λ steps. refl) changes, not_restarted (λ change. vr_for id (output change)) (λ steps. refl) changes)

same_source : (id : ℕ) (changes : List Change) → source id changes ≡ source id (settled changes)
same_source id changes = ap newest_change (not_restarted (source_given id) (λ steps. refl) changes)

same_target : (id : ℕ) (changes : List Change) → target id changes ≡ target id (settled changes)
same_target id changes = ap newest_change (not_restarted (target_given id) (λ steps. refl) changes)

same_inputs : (changes : List Change) → ids input changes ≡ ids input (settled changes)
same_inputs changes = ap ascending (not_restarted (id_of input) (λ steps. refl) changes)

same_outputs : (changes : List Change) → ids output changes ≡ ids output (settled changes)
same_outputs changes = ap ascending (not_restarted (id_of output) (λ steps. refl) changes)

same_wired : (vr : ℕ) (changes : List Change) → is_wired vr changes ≡ is_wired vr (settled changes)
same_wired vr [] = refl
same_wired vr (Set body ∷ changes) = ap (λ b. is_input_of vr (Set body) || b) (same_wired vr changes)
same_wired vr (Restart steps ∷ changes) = same_wired vr changes

-- what is refused does not hang on restarts
same_refusal : (d : SlaveDesc) (changes : List Change) (body : Cfg) → wiring.refusal_of_setting d changes body ≡ wiring.refusal_of_setting d (settled changes) body
unfolding wiring.refusal_of_setting
same_refusal d changes (cfg.Steps id q) =
    ap (λ (xs : List ℕ). refused_unless (nat_le 1 q && nat_le q 1000 && (nat_lt 0 (length xs) || has_id output id changes)) NotSupported) (same_entries id changes).0
    ∙ ap (λ (xs : List ℕ). refused_unless (nat_le 1 q && nat_le q 1000 && (has_id input id (settled changes) || nat_lt 0 (length xs))) NotSupported) (same_entries id changes).1
same_refusal d changes (cfg.Input id i vr kind) =
    ap (λ (xs : List ℕ). input_refusal (port_with vr d.inputs) kind ((i == length xs) && not (is_wired vr changes))) (same_entries id changes).0
    ∙ ap (λ (b : Bool). input_refusal (port_with vr d.inputs) kind ((i == length (entries input id (settled changes))) && not b)) (same_wired vr changes)
same_refusal d changes (cfg.Output id i vr) =
    ap (λ (xs : List ℕ). if (not (nat_lt 0 (length xs)) && nat_le 17 (length (ids output changes))) then Some NotSupported else output_refusal (port_with vr d.outputs) ((i == length xs) && nat_lt i 8)) (same_entries id changes).1
    ∙ ap (λ (xs : List ℕ). if (not (has_id output id (settled changes)) && nat_le 17 (length xs)) then Some NotSupported else output_refusal (port_with vr d.outputs) ((i == length (entries output id (settled changes))) && nat_lt i 8)) (same_outputs changes)
same_refusal d changes (cfg.Source net) =
    ap (λ (xs : List ℕ). if is_transport net.protocol then refused_unless (nat_lt 0 (length xs) && is_none (source net.data_id changes)) Position else Some NotSupported) (same_entries net.data_id changes).0
    ∙ ap (λ (o : Option Address). if is_transport net.protocol then refused_unless (has_id input net.data_id (settled changes) && is_none o) Position else Some NotSupported) (same_source net.data_id changes)
same_refusal d changes (cfg.Target net) =
    ap (λ (xs : List ℕ). if is_transport net.protocol then refused_unless (nat_lt 0 (length xs) && is_none (target net.data_id changes)) Position else Some NotSupported) (same_entries net.data_id changes).1
    ∙ ap (λ (o : Option Address). if is_transport net.protocol then refused_unless (has_id output net.data_id (settled changes) && is_none o) Position else Some NotSupported) (same_target net.data_id changes)
same_refusal d changes _ = refl

all_same : {X : Type 0} (p q : X → Bool) (xs : List X) → ((x : X) → p x ≡ q x) → list_all p xs ≡ list_all q xs
all_same p q [] same = refl
all_same p q (x ∷ xs) same = let e = same x in let r = all_same p q xs same in cc

pub same_complete : (changes : List Change) → complete changes ≡ complete (settled changes)
same_complete changes =
    let a : nat_lt 0 (length (filter_map time_given changes)) ≡ nat_lt 0 (length (filter_map time_given (settled changes))) = ap (λ (xs : List ℕ). nat_lt 0 (length xs)) (not_restarted time_given (λ steps. refl) changes) in
    let b : list_all (λ id. is_some (source id changes)) (ids input changes) ≡ list_all (λ id. is_some (source id (settled changes))) (ids input (settled changes)) =
    all_same (λ id. is_some (source id changes)) (λ id. is_some (source id (settled changes))) (ids input changes) (λ id. ap is_some (same_source id changes)) ∙ ap (list_all (λ id. is_some (source id (settled changes)))) (same_inputs changes) in
    let c : list_all (λ id. is_some (target id changes)) (ids output changes) ≡ list_all (λ id. is_some (target id (settled changes))) (ids output (settled changes)) =
    all_same (λ id. is_some (target id changes)) (λ id. is_some (target id (settled changes))) (ids output changes) (λ id. ap is_some (same_target id changes)) ∙ ap (list_all (λ id. is_some (target id (settled changes)))) (same_outputs changes) in
    cc

unrefused_alike : (x : SlaveSetup) (p q : Plant) (body : Cfg) → AreAlike p q → wiring.refusal_of_setting x.desc p.wires.changes body ≡ None → wiring.refusal_of_setting x.desc q.wires.changes body ≡ None
unrefused_alike x p q body a h = same_refusal x.desc q.wires.changes body ∙ ap (λ c. wiring.refusal_of_setting x.desc c body) a.changes ∙ sym (same_refusal x.desc p.wires.changes body) ∙ h

part_alike : (x : SlaveSetup) (p q : Plant) (body : Cfg) → AreAlike p q → IsTakenByPart x p body → IsTakenByPart x q body
part_alike x p q (cfg.Parameter vr kind value) a h = (
  subst (λ (ps : List ℤ). vr < length ps) (sym a.parameters) h.0,
  h.1,
  h.2,
  ap (λ k. takes k (slice_set q.model.parameters vr value)) a.kind ∙ ap (λ (ps : List ℤ). takes p.model.kind (slice_set ps vr value)) a.parameters ∙ h.3,
)
part_alike x p q body alike h = unrefused_alike x p q body alike h

not_of_wiring : (d : SlaveDesc) (changes : List Change) (body : Cfg) → is_told body ≡ false → body ≢ cfg.Clear → wiring.refusal_of_setting d changes body ≢ None
unfolding wiring.refusal_of_setting
not_of_wiring d changes (cfg.Parameter vr kind value) told other h = absurd cc
not_of_wiring d changes (cfg.Tunable id i vr kind) told other h = absurd cc
not_of_wiring d changes (cfg.ParamNet id protocol port ip) told other h = absurd cc
not_of_wiring d changes (cfg.Logging category level mode) told other h = absurd cc
not_of_wiring d changes (cfg.Scope id scope) told other h = absurd cc
not_of_wiring d changes cfg.Clear told other h = other refl
not_of_wiring d changes _ told other h = absurd cc

pub part_unrefused : (x : SlaveSetup) (p : Plant) (body : Cfg) → p.state ≡ Configuration → IsTakenByPart x p body → refusal x p (asked.Setting body) ≡ None
part_unrefused x p (cfg.Parameter vr kind value) here h =
    let l : nat_lt vr (length p.model.parameters) ≡ true = (let k = h.0 in grind (arith, nat_tests, k)) in
    let code : type_code kind ≡ 7 = ap type_code h.1 in
    let t : (type_code kind == 7) ≡ true = grind (arith, nat_tests, code) in
    let fine : body_refusal x p (cfg.Parameter vr kind value) ≡ None = rw (l, t, h.2, h.3) refl in
    judged x p (cfg.Parameter vr kind value) here refl fine
part_unrefused x p cfg.Clear here h = judged x p cfg.Clear here refl h
part_unrefused x p (cfg.TimeRes a b) here h = judged x p (cfg.TimeRes a b) here refl h
part_unrefused x p (cfg.Steps id q) here h = judged x p (cfg.Steps id q) here refl h
part_unrefused x p (cfg.Input id i vr kind) here h = judged x p (cfg.Input id i vr kind) here refl h
part_unrefused x p (cfg.Output id i vr) here h = judged x p (cfg.Output id i vr) here refl h
part_unrefused x p (cfg.Source net) here h = judged x p (cfg.Source net) here refl h
part_unrefused x p (cfg.Target net) here h = judged x p (cfg.Target net) here refl h
part_unrefused x p (cfg.Tunable id i vr kind) here h = absurd (not_of_wiring x.desc p.wires.changes (cfg.Tunable id i vr kind) refl (λ e. absurd cc) h)
part_unrefused x p (cfg.ParamNet id protocol port ip) here h = absurd (not_of_wiring x.desc p.wires.changes (cfg.ParamNet id protocol port ip) refl (λ e. absurd cc) h)
part_unrefused x p (cfg.Logging category level mode) here h = absurd (not_of_wiring x.desc p.wires.changes (cfg.Logging category level mode) refl (λ e. absurd cc) h)
part_unrefused x p (cfg.Scope id scope) here h = absurd (not_of_wiring x.desc p.wires.changes (cfg.Scope id scope) refl (λ e. absurd cc) h)

accepted_alike : (x : SlaveSetup) (p q : Plant) (body : Cfg) → AreAlike p q → AreAlike (accepted x p (asked.Setting body)) (accepted x q (asked.Setting body))
unfolding accepted
accepted_alike x p q (cfg.Parameter vr kind value) a = record { kind = a.kind; parameters = ap (λ (ps : List ℤ). slice_set ps vr value) a.parameters; changes = a.changes }
accepted_alike x p q (cfg.Logging category level mode) a = record { kind = a.kind; parameters = a.parameters; changes = a.changes }
accepted_alike x p q cfg.Clear a = record { kind = refl; parameters = refl; changes = refl }
accepted_alike x p q body a = record { kind = a.kind; parameters = a.parameters; changes = ap (λ (c : List Change). Set body ∷ c) a.changes }

-- what is taken one after the other is taken with things between
pub amid_taken : (x : SlaveSetup) (p q : Plant) (happened : ℕ → List Happening) (i : ℕ) (bodies : List Cfg) → AreAlike p q → TakesAll x p bodies → TakesAmid x q happened i bodies
amid_taken x p q happened i [] a h = tt
amid_taken x p q happened i (body ∷ bodies) a h = λ here.
    let place : Plant = met_all x q (happened i) in
    let b : AreAlike p place = then_alike p q place a (all_alike x q (happened i)) in
    let part : IsTakenByPart x place body = part_alike x p place body b h.1 in (
      part_unrefused x place body here part,
      part,
      amid_taken x (accepted x p (asked.Setting body)) (accepted x place (asked.Setting body)) happened (i + 1) bodies (accepted_alike x p place body b) h.2,
    )

pub amid_alike : (x : SlaveSetup) (p q : Plant) (happened : ℕ → List Happening) (i : ℕ) (bodies : List Cfg) → AreAlike p q → AreAlike (plant_after_all x p bodies) (after_amid x q happened i bodies)
amid_alike x p q happened i [] a = a
amid_alike x p q happened i (body ∷ bodies) a =
    let place : Plant = met_all x q (happened i) in
    amid_alike x (accepted x p (asked.Setting body)) (accepted x place (asked.Setting body)) happened (i + 1) bodies (accepted_alike x p place body (then_alike p q place a (all_alike x q (happened i))))
