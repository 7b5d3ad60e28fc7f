-- While a step is computed all inputs that it takes are there.
use Rattle.std.proofs.Common.{◌≡◌, ℕ, ◌-◌, ◌^◌, ◌%◌, ◌==◌, ◌&&◌, not, nat_lt, Bool, true, false, if◌then◌else◌, List, [], ◌∷◌, length, Option, Some, None, Result, Ok, Err, refl, sym, ap, ◌∙◌, subst, arith}
use Rattle.std.specs.Prelude.{option_map, sum_by}
use Rattle.std.specs.List.{list_all, filter_map, cons_option}
use Rattle.std.proofs.lemmas.Bool.{and_parts, eqb-true}
use Rattle.dcp_types.specs.declared.addresses.Address.{Address}
use Rattle.dcp_types.specs.declared.states.State.{State}
use Rattle.dcp_types.specs.declared.states.State.TheVariants.{Configuration, Computing}
use Rattle.dcp_types.specs.declared.error_codes.ErrorCode.{ErrorCode}
use Rattle.dcp_types.specs.declared.error_codes.ErrorCode.TheVariants.{BadSteps, InputsMissing, InErrorState, NotSupported, WrongState}
use Rattle.pdu_layout.specs.declared.messages.Stc.{Stc}
use Rattle.pdu_layout.specs.declared.messages.Stc.TheVariants as stc
use Rattle.pdu_layout.specs.declared.messages.Cfg.{Cfg}
use Rattle.pdu_layout.specs.declared.messages.Cfg.TheVariants as cfg
use Rattle.pdu_layout.specs.declared.messages.Inf.TheVariants as inf
use Rattle.dcp_types.specs.Values.{width}
use Rattle.slave_desc.specs.declared.descriptions.SlaveDesc.{SlaveDesc}
use Rattle.slave_states.specs.Transitions.{transition_row, next_on, next_on_turn, is_same}
use Rattle.slave_spec.specs.Changes.{Change as WiringChange, Entry, Side, input, vr_for, entries, has_id, put_ascending, ascending, ids, source, ordinal, steps_in_run}
use Rattle.slave_spec.specs.Payloads.{WiringState, is_here, is_address, is_wanted, brought, ready, input_types}
use Rattle.slave_spec.specs.declared.words.SlaveSetup.{SlaveSetup}
use Rattle.slave_spec.specs.declared.words.Asked.{Asked}
use Rattle.slave_spec.specs.declared.words.Asked.TheVariants.{Change, Setting, Question}
use Rattle.slave_spec.specs.Transport.{SlaveState}
use Rattle.slave_spec.specs.Plants.{Plant}
use Rattle.slave_spec.specs.Requests.{first_true, change_refusal, moved_refusal, setting_refusal, is_in_error, is_left_out, body_refusal, refusal, changed_to, set_to, accepted, answered_plant}
use Rattle.slave_spec.specs.Turns.{Act, Stay, Wait, Fault, Step, Pass, act, turned, is_listening, brings}
use Rattle.slave_spec.specs.Slaves.{machine}
use Rattle.slave_spec.proofs.Lasting.{Keeps, lasting}
use Rattle.slave_laws.specs.Talk.Desks.{events_of_slave}
use Rattle.slave_laws.proofs.Talk.Meets.{slave_is}
use Rattle.slave_laws.proofs.Talk.Plants.{no_refusal, row_of_next, state_is}
use Rattle.slave_laws.specs.Model.Models.{InputsAreThere}

-- ---- an id with an entry is among the ids
put_all : (t : ℕ → Bool) (n : ℕ) (xs : List ℕ) → list_all t (put_ascending n xs) ≡ true → (t n ≡ true) × (list_all t xs ≡ true)
put_all t n [] h = ((and_parts (t n) true h).0, refl)
put_all t n (x ∷ xs) h = by (λ k. put_all t n xs k) (nat_lt n x) (n == x) refl h
  where
    by : (list_all t (put_ascending n xs) ≡ true → (t n ≡ true) × (list_all t xs ≡ true)) → (b c : Bool) → (n == x) ≡ c → list_all t (if b then n ∷ x ∷ xs else (if c then x ∷ xs else x ∷ put_ascending n xs)) ≡ true → (t n ≡ true) × (list_all t (x ∷ xs) ≡ true)
    by f true c e k = and_parts (t n) (list_all t (x ∷ xs)) k
    by f false true e k = (ap t (eqb-true n x e) ∙ (and_parts (t x) (list_all t xs) k).0, k)
    by f false false e k =
        let a = and_parts (t x) (list_all t (put_ascending n xs)) k in
        let g = f a.1 in
        (g.0, both (t x) (list_all t xs) a.0 g.1)
      where
        both : (b c : Bool) → b ≡ true → c ≡ true → (b && c) ≡ true
        both true true e f = refl
        both true false e f = f
        both false c e f = e

module _ (side : Side) (id : ℕ) (t : ℕ → Bool) where
  among_by : (o : Option Entry) (rest : List ℕ) (more : List ℕ) → (list_all t (ascending rest) ≡ true → nat_lt 0 (length more) ≡ true → t id ≡ true)
      → list_all t (ascending (cons_option (option_map (λ (e : Entry). e.id) o) rest)) ≡ true → nat_lt 0 (length (cons_option (vr_for id o) more)) ≡ true → t id ≡ true
  among_by None rest more f h k = f h k
  among_by (Some e) rest more f h k = by (e.id == id) refl k
    where
      a : (t e.id ≡ true) × (list_all t (ascending rest) ≡ true)
      a = put_all t e.id (ascending rest) h

      by : (b : Bool) → (e.id == id) ≡ b → nat_lt 0 (length (cons_option (if b then Some e.vr else None) more)) ≡ true → t id ≡ true
      by true g l = ap t (sym (eqb-true e.id id g)) ∙ a.0
      by false g l = f a.1 l

  pub among : (changes : List WiringChange) → list_all t (ids side changes) ≡ true → has_id side id changes ≡ true → t id ≡ true
  among [] h k = absurd cc
  among (c ∷ changes) h k = among_by (side c) (filter_map (λ change. option_map (λ e. e.id) (side change)) changes) (entries side id changes) (λ a b. among changes a b) h k

-- ---- what is there is not brought again
ends_of : (a b c d e : Bool) → (a && b && c && d && e) ≡ true → (a ≡ true) × (e ≡ true)
ends_of a b c d e h = grind arith

not_wanted : (d : SlaveDesc) (w : WiringState) (from : Address) (number id : ℕ) (payload : List ℕ) (steps : ℕ) → ready w steps ≡ true → is_wanted d w from number id payload steps ≡ true → ⊥
not_wanted d w from number id payload steps r h =
    let e = ends_of (has_id input id w.changes) (is_address (source id w.changes) from) (length payload == sum_by width (input_types d id w.changes)) (number == ordinal input id w.changes steps % 65536) (not (is_here w steps id)) h in
    by (is_here w steps id) (among input id (is_here w steps) w.changes r e.0) e.1
  where
    by : (b : Bool) → b ≡ true → not b ≡ true → ⊥
    by true e f = absurd cc
    by false e f = absurd cc

brought_ready : (d : SlaveDesc) (w : WiringState) (from : Address) (number id : ℕ) (payload : List ℕ) (steps : ℕ) → ready w steps ≡ true → ready (brought d w from number id payload steps) steps ≡ true
brought_ready d w from number id payload steps r = by (is_wanted d w from number id payload steps) refl
  where
    by : (b : Bool) → is_wanted d w from number id payload steps ≡ b → ready (if b then record w { kept = record { id = id; ordinal = steps_in_run input id w.changes steps; payload = payload } ∷ w.kept } else w) steps ≡ true
    by true e = absurd (not_wanted d w from number id payload steps r e)
    by false e = r

-- ---- a machine that computes has its inputs
abbrev HasInputs : Plant → Type 0
HasInputs p = p.state ≡ Computing → ready p.wires p.steps ≡ true

computing_by : (request : Stc) (state : State) (sent : Bool) → transition_row request state sent ≡ Some Computing → (n : ℕ) × (request ≡ stc.DoStep n)
computing_by (stc.DoStep n) state sent h = (n, refl)
computing_by (stc.Register a b c d) state sent h = absurd (grind arith)
computing_by stc.Deregister state sent h = absurd (grind arith)
computing_by stc.Prepare state sent h = absurd (grind arith)
computing_by stc.Configure state sent h = absurd (grind arith)
computing_by stc.Initialize state sent h = absurd (grind arith)
computing_by (stc.Run t) state sent h = absurd (grind arith)
computing_by stc.SendOutputs state sent h = absurd (grind arith)
computing_by stc.Stop state sent h = absurd (grind arith)
computing_by stc.Reset state sent h = absurd (grind arith)

step_ready : (p : Plant) (n : ℕ) → change_refusal p (stc.DoStep n) ≡ None → ready p.wires p.steps ≡ true
step_ready p n h = by ((n == 1) && nat_lt p.steps (2 ^ 32 - 1)) (ready p.wires p.steps) h
  where
    by : (b c : Bool) → first_true ((not b, BadSteps) ∷ (not c, InputsMissing) ∷ []) ≡ None → c ≡ true
    by true true e = refl
    by true false e = absurd cc
    by false c e = absurd cc

change_allowed : (p : Plant) (request : Stc) (r : Result State ErrorCode) → moved_refusal p request r ≡ None → change_refusal p request ≡ None
change_allowed p request (Ok state) h = h
change_allowed p request (Err code) h = absurd cc

module _ (s : SlaveSetup) where
  -- an accepted change leads into computing by a step alone
  changed_has : (p : Plant) (request : Stc) (state : State) → transition_row request p.state p.outputs_sent ≡ Some state → change_refusal p request ≡ None → HasInputs (changed_to s p request state)
  changed_has p (stc.DoStep n) state r c e = step_ready p n c
  changed_has p (stc.Register a b c' d) state r c e = absurd (no' (computing_by (stc.Register a b c' d) p.state p.outputs_sent (r ∙ ap (λ (z : State). Some z) e)))
    where
      no' : (n : ℕ) × (stc.Register a b c' d ≡ stc.DoStep n) → ⊥
      no' h = let k = h.1 in cc
  changed_has p stc.Deregister state r c e = let k = (computing_by stc.Deregister p.state p.outputs_sent (r ∙ ap (λ (z : State). Some z) e)).1 in absurd cc
  changed_has p stc.Prepare state r c e = let k = (computing_by stc.Prepare p.state p.outputs_sent (r ∙ ap (λ (z : State). Some z) e)).1 in absurd cc
  changed_has p stc.Configure state r c e = let k = (computing_by stc.Configure p.state p.outputs_sent (r ∙ ap (λ (z : State). Some z) e)).1 in absurd cc
  changed_has p stc.Initialize state r c e = let k = (computing_by stc.Initialize p.state p.outputs_sent (r ∙ ap (λ (z : State). Some z) e)).1 in absurd cc
  changed_has p (stc.Run t) state r c e = let k = (computing_by (stc.Run t) p.state p.outputs_sent (r ∙ ap (λ (z : State). Some z) e)).1 in absurd cc
  changed_has p stc.SendOutputs state r c e = let k = (computing_by stc.SendOutputs p.state p.outputs_sent (r ∙ ap (λ (z : State). Some z) e)).1 in absurd cc
  changed_has p stc.Stop state r c e = let k = (computing_by stc.Stop p.state p.outputs_sent (r ∙ ap (λ (z : State). Some z) e)).1 in absurd cc
  changed_has p stc.Reset state r c e = let k = (computing_by stc.Reset p.state p.outputs_sent (r ∙ ap (λ (z : State). Some z) e)).1 in absurd cc

  -- a setting is accepted in CONFIGURATION alone
  pub set_where : (p : Plant) (body : Cfg) → setting_refusal s p body ≡ None → p.state ≡ Configuration
  set_where p body h = by (is_in_error p.state) (is_left_out body) (is_same p.state Configuration) refl h
    where
      by : (a b c : Bool) → is_same p.state Configuration ≡ c → (if a then Some InErrorState else (if b then Some NotSupported else (if c then body_refusal s p body else Some WrongState))) ≡ None → p.state ≡ Configuration
      by true b c f e = absurd cc
      by false true c f e = absurd cc
      by false false true f e = same_state p.state f
        where
          same_state : (t : State) → is_same t Configuration ≡ true → t ≡ Configuration
          same_state t g = grind arith
      by false false false f e = absurd cc

  set_state : (p : Plant) (body : Cfg) → (set_to s p body).state ≡ p.state
  set_state p (cfg.Parameter vr kind value) = refl
  set_state p (cfg.Logging category level mode) = refl
  set_state p cfg.Clear = refl
  set_state p (cfg.TimeRes a b) = refl
  set_state p (cfg.Steps a b) = refl
  set_state p (cfg.Input a b c d) = refl
  set_state p (cfg.Output a b c) = refl
  set_state p (cfg.Target a) = refl
  set_state p (cfg.Source a) = refl
  set_state p (cfg.Tunable a b c d) = refl
  set_state p (cfg.ParamNet a b c d) = refl
  set_state p (cfg.Scope a b) = refl

  not_computing : (t : State) → t ≡ Configuration → t ≡ Computing → ⊥
  not_computing t e f = absurd cc

  accepted_has : (p : Plant) (asked : Asked) → refusal s p asked ≡ None → HasInputs p → HasInputs (accepted s p asked)
  unfolding accepted refusal
  accepted_has p (Change named request) r h =
      let o = no_refusal p request (next_on p.state request named p.outputs_sent) r in
      let q = row_of_next p.state o.0 request named p.outputs_sent o.1 in
      let P : State → Type 0 = λ t. HasInputs (changed_to s p request t) in
      subst P (sym (state_is p.state o.0 (next_on p.state request named p.outputs_sent) o.1)) (changed_has p request o.0 q (change_allowed p request (next_on p.state request named p.outputs_sent) r))
  accepted_has p (Setting body) r h = λ e. absurd (not_computing (set_to s p body).state (set_state p body ∙ set_where p body r) e)
  accepted_has p (Question inf.State) r h = h
  accepted_has p (Question inf.Error) r h = h
  accepted_has p (Question (inf.Log category most)) r h = h

  answered_has : (p : Plant) (asked : Asked) (o : Option ErrorCode) → refusal s p asked ≡ o → HasInputs p → HasInputs (answered_plant s p asked o).after
  answered_has p asked (Some code) r h = h
  answered_has p asked None r h = accepted_has p asked r h

  next_computing : (t : State) → next_on_turn t 0 ≡ Computing → ⊥
  unfolding next_on_turn
  next_computing t h = grind arith

  turned_has : (p : Plant) (a : Act) → HasInputs p → HasInputs (turned s p a).after
  turned_has p Stay h = h
  turned_has p (Wait left) h = h
  turned_has p (Fault code) h = λ e. absurd cc
  turned_has p (Step x) h = λ e. absurd cc
  turned_has p Pass h = λ e. absurd (next_computing p.state e)

  brings_has : (from : Address) (number id : ℕ) (payload : List ℕ) (p : Plant) → HasInputs p → HasInputs (brings s from number id payload p)
  brings_has from number id payload p h = by (is_listening p.state)
    where
      by : (b : Bool) → HasInputs (if b then record p { wires = brought s.desc p.wires from number id payload p.steps } else p)
      by true = λ e. brought_ready s.desc p.wires from number id payload p.steps (h e)
      by false = h

  has_keeps : Keeps (machine s) HasInputs
  has_keeps = record {
    start = λ e. absurd cc;
    answers = λ asked p h. answered_has p asked (refusal s p asked) refl h;
    turns = λ quiet p h. turned_has p (act s quiet p) h;
    brings = λ from number id payload p h. brings_has from number id payload p h;
  }

pub are_there : InputsAreThere
are_there s w n log = let P : SlaveState Plant → Type 0 = λ x. HasInputs x.inner in subst P (sym (slave_is (machine s) w n log)) (lasting (machine s) HasInputs (has_keeps s) (events_of_slave w n log))
