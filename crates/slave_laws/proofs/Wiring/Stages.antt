-- A slave that is asked in order takes the settings of the plan, run by run.
use Rattle.std.proofs.Common.{◌≡◌, ℕ, suc, ◌+◌, ◌-◌, Bool, true, false, if◌then◌else◌, List, [], ◌∷◌, ◌++◌, reverse, length, Option, Some, None, refl, sym, ap, ◌∙◌, subst, arith, ℤ}
use Rattle.std.proofs.lemmas.List.{append-nil, append_assoc, append_cancel_left, reverse-append, reverse-reverse}
use Rattle.dcp_types.specs.declared.addresses.Address.{Address}
use Rattle.dcp_types.specs.declared.error_codes.ErrorCode.{ErrorCode}
use Rattle.dcp_types.specs.declared.states.State.{State}
use Rattle.dcp_types.specs.declared.states.State.TheVariants.{Configuration, Computing}
use Rattle.pdu_layout.specs.declared.messages.Stc.{Stc}
use Rattle.pdu_layout.specs.declared.messages.Stc.TheVariants as stc
use Rattle.pdu_layout.specs.declared.messages.Cfg.{Cfg}
use Rattle.pdu_layout.specs.declared.messages.Cfg.TheVariants as cfg
use Rattle.pdu_layout.specs.declared.messages.Inf.TheVariants as inf
use Rattle.scenario.specs.declared.scenarios.Scenario.{Scenario}
use Rattle.plan_laws.specs.Runs.{lists_until}
use Rattle.log_spec.specs.Messages.{Note}
use Rattle.log_spec.specs.Log.{DecidedRequest}
use Rattle.slave_states.specs.Transitions.{transition_row, next_on}
use Rattle.slave_spec.specs.Changes as wiring
use Rattle.slave_spec.specs.Changes.{Change as WiringChange}
use Rattle.slave_spec.specs.Payloads.{brought, WiringState}
use Rattle.slave_spec.specs.declared.words.SlaveSetup.{SlaveSetup}
use Rattle.slave_spec.specs.declared.words.SlaveRequest as req
use Rattle.slave_spec.specs.declared.words.Asked as ask
use Rattle.slave_spec.specs.declared.words.Asked.TheVariants.{Change, Setting, Question}
use Rattle.slave_spec.specs.Heard as spec
use Rattle.slave_spec.specs.Transport as transport
use Rattle.slave_spec.specs.Plants.{Plant}
use Rattle.slave_spec.specs.Requests.{refusal, changed_to, set_to, accepted, answer, answered_plant, answers}
use Rattle.slave_spec.specs.Turns as turns
use Rattle.slave_spec.specs.Turns.{Act, Stay, Wait, Fault, Step, Pass, act, turned, is_listening, brings}
use Rattle.slave_laws.specs.Talk.Desks.{answer_note}
use Rattle.slave_laws.proofs.Talk.Plants.{act_step, no_refusal, row_of_next, state_is}
use Rattle.slave_laws.proofs.Model.Inputs.{set_where}
use Rattle.slave_laws.proofs.Model.Along.{exchanged}
use Rattle.plan_laws.specs.Course.Taken.{asked_heard, asked_in, is_acknowledged, setting_taken, settings_taken, reset_taken, resets_taken, same_settings}
use Rattle.plan_laws.specs.Course.Courses.{tuned, may_set}
use Rattle.slave_laws.proofs.Model.Alike.{settings_are}
use Rattle.slave_laws.proofs.Model.Parameters.{acknowledges, acknowledged}
use Rattle.slave_laws.specs.Wiring.Wired.{changes_with, changes_after, planned_changes, changes_restarted, is_past}
use Rattle.slave_laws.proofs.Wiring.Lists.{lists_before, list_at, changes_before, joined, after_more, settled}
use Rattle.slave_laws.proofs.Wiring.Staged.{past_reset, past_register, past_deregister, past_configure, past_initialize, past_run, past_step, past_outputs, past_stop, past_turn}

never : {A : Type 0} → false ≡ true → A
never e = absurd cc

module _ (sc : Scenario) (n : ℕ) (s : SlaveSetup) where
  abbrev C : List WiringChange
  C = planned_changes sc n s.desc

  -- the settings that were taken since the newest reset; past the configuration they are those of the plan
  pub record IsStaged (p : Plant) (settings : List Cfg) (resets : ℕ) : Type 0 where
    pub new : List Cfg
    pub many : resets ≡ length p.earlier
    pub taken : reverse settings ≡ lists_before sc n s.desc (length p.earlier) ++ new
    pub changes : p.wires.changes ≡ changes_after (changes_before sc.steps C (length p.earlier)) new
    pub past : is_past p.state ≡ true → new ≡ list_at sc n s.desc (length p.earlier)

  -- past its configuration it has the wiring of the plan
  pub past_wired : (p : Plant) (settings : List Cfg) (resets : ℕ) → IsStaged p settings resets → is_past p.state ≡ true → p.wires.changes ≡ changes_restarted sc.steps C (length p.earlier)
  past_wired p settings resets h e = h.changes ∙ ap (changes_after (changes_before sc.steps C (length p.earlier))) (h.past e) ∙ settled sc n s.desc sc.steps (length p.earlier)

  past_taken : (p : Plant) (settings : List Cfg) (resets : ℕ) → IsStaged p settings resets → is_past p.state ≡ true → reverse settings ≡ lists_until sc n s.desc (length p.earlier)
  past_taken p settings resets h e = h.taken ∙ ap (λ l. lists_before sc n s.desc (length p.earlier) ++ l) (h.past e) ∙ joined sc n s.desc (length p.earlier)

  -- the same, but for the log
  pub same_staged : (p q : Plant) (settings : List Cfg) (resets : ℕ) → q.earlier ≡ p.earlier → q.wires.changes ≡ p.wires.changes → (is_past q.state ≡ true → is_past p.state ≡ true) → IsStaged p settings resets → IsStaged q settings resets
  same_staged p q settings resets e f g h =
      let k : length q.earlier ≡ length p.earlier = ap length e in
      record {
        new = h.new;
        many = h.many ∙ sym k;
        taken = h.taken ∙ ap (λ r. lists_before sc n s.desc r ++ h.new) (sym k);
        changes = f ∙ h.changes ∙ ap (λ r. changes_after (changes_before sc.steps C r) h.new) (sym k);
        past = λ z. h.past (g z) ∙ ap (list_at sc n s.desc) (sym k);
      }

  -- ---- a setting
  set_changes : (p : Plant) (body : Cfg) → (set_to s p body).wires.changes ≡ changes_with body p.wires.changes
  set_changes p (cfg.Parameter vr kind value) = refl
  set_changes p (cfg.Logging category level mode) = refl
  set_changes p cfg.Clear = refl
  set_changes p (cfg.TimeRes a b) = refl
  set_changes p (cfg.Steps a b) = refl
  set_changes p (cfg.Input a b c d) = refl
  set_changes p (cfg.Output a b c) = refl
  set_changes p (cfg.Target a) = refl
  set_changes p (cfg.Source a) = refl
  set_changes p (cfg.Tunable a b c d) = refl
  set_changes p (cfg.ParamNet a b c d) = refl
  set_changes p (cfg.Scope a b) = refl

  set_rest : (p : Plant) (body : Cfg) → ((set_to s p body).state ≡ p.state) × ((set_to s p body).earlier ≡ p.earlier)
  set_rest p (cfg.Parameter vr kind value) = (refl, refl)
  set_rest p (cfg.Logging category level mode) = (refl, refl)
  set_rest p cfg.Clear = (refl, refl)
  set_rest p (cfg.TimeRes a b) = (refl, refl)
  set_rest p (cfg.Steps a b) = (refl, refl)
  set_rest p (cfg.Input a b c d) = (refl, refl)
  set_rest p (cfg.Output a b c) = (refl, refl)
  set_rest p (cfg.Target a) = (refl, refl)
  set_rest p (cfg.Source a) = (refl, refl)
  set_rest p (cfg.Tunable a b c d) = (refl, refl)
  set_rest p (cfg.ParamNet a b c d) = (refl, refl)
  set_rest p (cfg.Scope a b) = (refl, refl)

  configuration_new : (t : State) → t ≡ Configuration → is_past t ≡ true → ⊥
  configuration_new t e h = never (sym (ap is_past e) ∙ h)

  set_staged : (p : Plant) (body : Cfg) (settings : List Cfg) (resets : ℕ) → p.state ≡ Configuration → IsStaged p settings resets → IsStaged (set_to s p body) (body ∷ settings) resets
  set_staged p body settings resets home h =
      let r = set_rest p body in
      let k : length (set_to s p body).earlier ≡ length p.earlier = ap length r.1 in
      record {
        new = h.new ++ body ∷ [];
        many = h.many ∙ sym k;
        taken = reverse-append (body ∷ []) settings ∙ ap (λ l. l ++ body ∷ []) h.taken ∙ append_assoc (lists_before sc n s.desc (length p.earlier)) h.new (body ∷ []) ∙ ap (λ c. lists_before sc n s.desc c ++ (h.new ++ body ∷ [])) (sym k);
        changes = set_changes p body ∙ ap (changes_with body) h.changes ∙ sym (after_more (changes_before sc.steps C (length p.earlier)) h.new body) ∙ ap (λ c. changes_after (changes_before sc.steps C c) (h.new ++ body ∷ [])) (sym k);
        past = λ z. absurd (configuration_new (set_to s p body).state (r.0 ∙ home) z);
      }

  -- ---- a reset after all steps of a run
  reset_staged : (p : Plant) (t : State) (settings : List Cfg) (resets : ℕ) → is_past p.state ≡ true → is_past t ≡ false → p.steps ≡ sc.steps → IsStaged p settings resets → IsStaged (changed_to s p stc.Reset t) settings (resets + 1)
  reset_staged p t settings resets e f all h =
      let k : length (p.steps ∷ p.earlier) ≡ suc (length p.earlier) = refl in
      record {
        new = [];
        many = ap (λ c. c + 1) h.many ∙ omega arith;
        taken = past_taken p settings resets h e ∙ sym (append-nil (lists_until sc n s.desc (length p.earlier)));
        changes = ap (λ c. wiring.Restart p.steps ∷ c) (past_wired p settings resets h e) ∙ ap (λ c. wiring.Restart c ∷ changes_restarted sc.steps C (length p.earlier)) all;
        past = λ z. never (sym f ∙ z);
      }

  -- ---- to be prepared
  prepare_new : (p : Plant) (es : List DecidedRequest) → IsStaged p (settings_taken es) (resets_taken es) → tuned sc n s.desc (resets_taken es + 1) es ≡ true → (h : IsStaged p (settings_taken es) (resets_taken es)) → h.new ≡ list_at sc n s.desc (length p.earlier)
  prepare_new p es g t h =
      let r = length p.earlier in
      let run : resets_taken es + 1 - 1 ≡ r = omega (arith, h.many) in
      let P : ℕ → Type 0 = λ k. same_settings (settings_taken es) (reverse (lists_until sc n s.desc k)) ≡ true in
      let same : settings_taken es ≡ reverse (lists_until sc n s.desc r) = settings_are (settings_taken es) (reverse (lists_until sc n s.desc r)) (subst P run t) in
      let whole : lists_before sc n s.desc r ++ h.new ≡ lists_before sc n s.desc r ++ list_at sc n s.desc r = sym h.taken ∙ ap reverse same ∙ reverse-reverse (lists_until sc n s.desc r) ∙ sym (joined sc n s.desc r) in
      append_cancel_left (lists_before sc n s.desc r) h.new (list_at sc n s.desc r) whole

  prepare_staged : (p q : Plant) (es : List DecidedRequest) → tuned sc n s.desc (resets_taken es + 1) es ≡ true → q.earlier ≡ p.earlier → q.wires.changes ≡ p.wires.changes → IsStaged p (settings_taken es) (resets_taken es) → IsStaged q (settings_taken es) (resets_taken es)
  prepare_staged p q es t e f h =
      let k : length q.earlier ≡ length p.earlier = ap length e in
      record {
        new = h.new;
        many = h.many ∙ sym k;
        taken = h.taken ∙ ap (λ r. lists_before sc n s.desc r ++ h.new) (sym k);
        changes = f ∙ h.changes ∙ ap (λ r. changes_after (changes_before sc.steps C r) h.new) (sym k);
        past = λ z. prepare_new p es h t h ∙ ap (list_at sc n s.desc) (sym k);
      }

  -- ---- a change of state that is accepted
  change_staged : (p : Plant) (named : State) (request : Stc) (t : State) (es : List DecidedRequest) → transition_row request p.state p.outputs_sent ≡ Some t → (request ≡ stc.Reset → p.steps ≡ sc.steps) → may_set sc n s.desc es (Some (Change named request)) ≡ true
      → IsStaged p (settings_taken es) (resets_taken es) → IsStaged (changed_to s p request t) (settings_taken es) (reset_taken (Some (Change named request)) true (resets_taken es))
  change_staged p named stc.Reset t es r all m h = let q = past_reset p.state t p.outputs_sent r in reset_staged p t (settings_taken es) (resets_taken es) q.0 q.1 (all refl) h
  change_staged p named stc.Prepare t es r all m h = prepare_staged p (changed_to s p stc.Prepare t) es m refl refl h
  change_staged p named (stc.Register a b c d) t es r all m h = same_staged p (changed_to s p (stc.Register a b c d) t) (settings_taken es) (resets_taken es) refl refl (past_register a b c d p.state t p.outputs_sent r) h
  change_staged p named stc.Deregister t es r all m h = same_staged p (changed_to s p stc.Deregister t) (settings_taken es) (resets_taken es) refl refl (past_deregister p.state t p.outputs_sent r) h
  change_staged p named stc.Configure t es r all m h = same_staged p (changed_to s p stc.Configure t) (settings_taken es) (resets_taken es) refl refl (past_configure p.state t p.outputs_sent r) h
  change_staged p named stc.Initialize t es r all m h = same_staged p (changed_to s p stc.Initialize t) (settings_taken es) (resets_taken es) refl refl (past_initialize p.state t p.outputs_sent r) h
  change_staged p named (stc.Run x) t es r all m h = same_staged p (changed_to s p (stc.Run x) t) (settings_taken es) (resets_taken es) refl refl (past_run x p.state t p.outputs_sent r) h
  change_staged p named (stc.DoStep k) t es r all m h = same_staged p (changed_to s p (stc.DoStep k) t) (settings_taken es) (resets_taken es) refl refl (past_step k p.state t p.outputs_sent r) h
  change_staged p named stc.SendOutputs t es r all m h = same_staged p (changed_to s p stc.SendOutputs t) (settings_taken es) (resets_taken es) refl refl (past_outputs p.state t p.outputs_sent r) h
  change_staged p named stc.Stop t es r all m h = same_staged p (changed_to s p stc.Stop t) (settings_taken es) (resets_taken es) refl refl (past_stop p.state t p.outputs_sent r) h

  -- ---- a request that is taken
  not_set : (asked : ask.Asked) (settings : List Cfg) → setting_taken (Some asked) false settings ≡ settings
  not_set (Change named request) settings = refl
  not_set (Setting body) settings = refl
  not_set (Question q) settings = refl

  not_reset : (asked : ask.Asked) (k : ℕ) → reset_taken (Some asked) false k ≡ k
  not_reset (Change named (stc.Register a b c d)) k = refl
  not_reset (Change named stc.Deregister) k = refl
  not_reset (Change named stc.Prepare) k = refl
  not_reset (Change named stc.Configure) k = refl
  not_reset (Change named stc.Initialize) k = refl
  not_reset (Change named (stc.Run x)) k = refl
  not_reset (Change named (stc.DoStep n)) k = refl
  not_reset (Change named stc.SendOutputs) k = refl
  not_reset (Change named stc.Stop) k = refl
  not_reset (Change named stc.Reset) k = refl
  not_reset (Setting body) k = refl
  not_reset (Question q) k = refl

  abbrev Staged : Plant → ask.Asked → transport.SlaveAnswer → List DecidedRequest → Type 0
  Staged q asked a es = IsStaged q (setting_taken (Some asked) (acknowledges a) (settings_taken es)) (reset_taken (Some asked) (acknowledges a) (resets_taken es))

  accepted_staged : (p : Plant) (asked : ask.Asked) (es : List DecidedRequest) → refusal s p asked ≡ None → ((named : State) → asked ≡ Change named stc.Reset → p.steps ≡ sc.steps) → may_set sc n s.desc es (Some asked) ≡ true
      → IsStaged p (settings_taken es) (resets_taken es) → Staged (accepted s p asked) asked (answer p asked) es
  unfolding accepted answer refusal
  accepted_staged p (Change named request) es r all m h =
      let o = no_refusal p request (next_on p.state request named p.outputs_sent) r in
      let q = row_of_next p.state o.0 request named p.outputs_sent o.1 in
      let P : State → Type 0 = λ t. IsStaged (changed_to s p request t) (settings_taken es) (reset_taken (Some (Change named request)) true (resets_taken es)) in
      subst P (sym (state_is p.state o.0 (next_on p.state request named p.outputs_sent) o.1)) (change_staged p named request o.0 es q (λ e. all named (ap (λ z. Change named z) e)) m h)
  accepted_staged p (Setting body) es r all m h = set_staged p body (settings_taken es) (resets_taken es) (set_where s p body r) h
  accepted_staged p (Question inf.State) es r all m h = h
  accepted_staged p (Question inf.Error) es r all m h = h
  accepted_staged p (Question (inf.Log category most)) es r all m h = same_staged p (accepted s p (Question (inf.Log category most))) (settings_taken es) (resets_taken es) refl refl (λ z. z) h

  answered_staged : (p : Plant) (asked : ask.Asked) (es : List DecidedRequest) (o : Option ErrorCode) → refusal s p asked ≡ o → ((named : State) → asked ≡ Change named stc.Reset → o ≡ None → p.steps ≡ sc.steps) → may_set sc n s.desc es (Some asked) ≡ true
      → IsStaged p (settings_taken es) (resets_taken es) → Staged (answered_plant s p asked o).after asked (answered_plant s p asked o).answer es
  answered_staged p asked es (Some code) r all m h =
      let P : List Cfg → ℕ → Type 0 = λ settings resets. IsStaged (answered_plant s p asked (Some code)).after settings resets in
      subst (λ l. P l (reset_taken (Some asked) false (resets_taken es))) (sym (not_set asked (settings_taken es))) (subst (λ k. P (settings_taken es) k) (sym (not_reset asked (resets_taken es)))
      (same_staged p (answered_plant s p asked (Some code)).after (settings_taken es) (resets_taken es) refl refl (λ z. z) h))
  answered_staged p asked es None r all m h =
      let a = accepted_staged p asked es r (λ named e. all named e refl) m h in
      same_staged (accepted s p asked) (answered_plant s p asked None).after (setting_taken (Some asked) (acknowledges (answer p asked)) (settings_taken es)) (reset_taken (Some asked) (acknowledges (answer p asked)) (resets_taken es)) refl refl (λ z. z) a

  pub exchanged_staged : (p : Plant) (es : List DecidedRequest) (r : req.SlaveRequest) (k : Note) (next' : ℕ) → spec.heard_as (Some k.message) ≡ spec.Asks r → ((named : State) → r.asked ≡ Change named stc.Reset → refusal s p r.asked ≡ None → p.steps ≡ sc.steps) → may_set sc n s.desc es (asked_in k) ≡ true
      → IsStaged p (settings_taken es) (resets_taken es) → IsStaged (answers s r.asked p).after (settings_taken (exchanged s p r k next' ∷ es)) (resets_taken (exchanged s p r k next' ∷ es))
  exchanged_staged p es r k next' h all m st =
      let a = (answers s r.asked p).answer in
      let asks : asked_in k ≡ Some r.asked = ap asked_heard h in
      let acks = acknowledged r next' a in
      let M : Option ask.Asked → Type 0 = λ o. may_set sc n s.desc es o ≡ true in
      let g = answered_staged p r.asked es (refusal s p r.asked) refl all (subst M asks m) st in
      let P : Option ask.Asked → Bool → Type 0 = λ o b. IsStaged (answers s r.asked p).after (setting_taken o b (settings_taken es)) (reset_taken o b (resets_taken es)) in
      subst (λ o. P o (is_acknowledged (answer_note r next' a))) (sym asks) (subst (λ b. P (Some r.asked) b) (sym acks) g)

  -- ---- turns and data
  computing_past : (t : State) → t ≡ Computing → is_past t ≡ true
  computing_past t e = ap is_past e

  turned_staged : (p : Plant) (a : Act) (settings : List Cfg) (resets : ℕ) → ((x : List ℤ) → a ≡ Step x → p.state ≡ Computing) → IsStaged p settings resets → IsStaged (turned s p a).after settings resets
  turned_staged p Stay settings resets f h = h
  turned_staged p (Wait left) settings resets f h = same_staged p (turned s p (Wait left)).after settings resets refl refl (λ z. z) h
  turned_staged p (Fault code) settings resets f h = same_staged p (turned s p (Fault code)).after settings resets refl refl (λ z. never z) h
  turned_staged p (Step x) settings resets f h = same_staged p (turned s p (Step x)).after settings resets refl refl (λ z. computing_past p.state (f x refl)) h
  turned_staged p Pass settings resets f h = same_staged p (turned s p Pass).after settings resets refl refl (λ z. past_turn p.state z) h

  pub turns_staged : (quiet : ℕ) (p : Plant) (settings : List Cfg) (resets : ℕ) → IsStaged p settings resets → IsStaged (turns.turns s quiet p).after settings resets
  turns_staged quiet p settings resets h = turned_staged p (act s quiet p) settings resets (act_step s quiet p) h

  brought_same : (w y : WiringState) (b : Bool) → y.changes ≡ w.changes → (if b then y else w).changes ≡ w.changes
  brought_same w y true e = e
  brought_same w y false e = refl

  pub brings_staged : (from : Address) (number id : ℕ) (payload : List ℕ) (p : Plant) (settings : List Cfg) (resets : ℕ) → IsStaged p settings resets → IsStaged (brings s from number id payload p) settings resets
  brings_staged from number id payload p settings resets h = by (is_listening p.state)
    where
      by : (b : Bool) → IsStaged (if b then record p { wires = brought s.desc p.wires from number id payload p.steps } else p) settings resets
      by true = same_staged p (record p { wires = brought s.desc p.wires from number id payload p.steps }) settings resets refl (brought_same p.wires _ _ refl) (λ z. z) h
      by false = h
