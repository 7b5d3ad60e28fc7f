-- When a fault of the model came, and that nothing moved since.
use Rattle.std.proofs.Common.{◌≡◌, ℕ, Bool, true, false, if◌then◌else◌, ◌⊎◌, inl, inr, Option, Some, None, List, [], ◌∷◌, ◌++◌, refl, sym, ap, ◌∙◌, subst}
use Rattle.std.specs.Prelude.{◌==◌, is_some}
use Rattle.dcp_types.specs.Codes.{state_code}
use Rattle.dcp_types.specs.declared.addresses.Address.{Address}
use Rattle.dcp_types.specs.declared.fault_codes.FaultCode.{FaultCode}
use Rattle.dcp_types.specs.declared.fault_codes.FaultCode.TheVariants.{HeartbeatMissed}
use Rattle.dcp_types.specs.declared.error_codes.ErrorCode.{ErrorCode}
use Rattle.dcp_ends.specs.declared.entries.LogEntry.{LogEntry}
use Rattle.pdu_layout.specs.declared.messages.Cfg.{Cfg}
use Rattle.pdu_layout.specs.declared.messages.Cfg.TheVariants as cfg
use Rattle.pdu_layout.specs.declared.messages.Inf.TheVariants as inf
use Rattle.log_spec.specs.Log.{Parties, DecidedRequest}
use Rattle.log_spec.specs.Moves.{move}
use Rattle.slave_states.specs.Transitions.{next_on}
use Rattle.slave_spec.specs.Payloads.{brought}
use Rattle.slave_spec.specs.declared.words.SlaveSetup.{SlaveSetup}
use Rattle.slave_spec.specs.declared.words.Asked.{Asked}
use Rattle.slave_spec.specs.declared.words.Asked.TheVariants.{Change, Setting, Question}
use Rattle.slave_spec.specs.declared.words.Session.{Session}
use Rattle.slave_spec.specs.declared.words.Session.TheVariants.{Before}
use Rattle.slave_spec.specs.Transport as transport
use Rattle.slave_spec.specs.Transport.{SlaveState, is_open}
use Rattle.slave_spec.specs.Plants.{Plant, start_plant}
use Rattle.slave_spec.specs.Begun.{IsRegularIn}
use Rattle.slave_spec.specs.Requests.{is_in_error, refusal, set_to, accepted, answer, answered_plant, answers}
use Rattle.slave_spec.specs.Turns as turns
use Rattle.slave_spec.specs.Turns.{Act, act, turned, is_missed, is_listening}
use Rattle.slave_spec.specs.Slaves.{machine}
use Rattle.slave_laws.specs.Talk.Desks.{Both, at}
use Rattle.slave_laws.proofs.Talk.Plants.{act_step, no_refusal}
use Rattle.slave_laws.specs.Talk.Sends.{ReadsMessages}
use Rattle.slave_laws.proofs.Model.Along.{exchanged}
use Rattle.slave_laws.specs.Model.Tuned.{served_at}
use Rattle.slave_laws.specs.Model.Stages.{SlaveStage, reached_by_turns, stage_told, stage_by}
use Rattle.completeness_laws.proofs.Causes.Goings.{Takes, Turns_on, Goes, stays, takes, brings, turns_on, goes}
use Rattle.completeness_laws.proofs.Causes.Quiet.{IsOfModel, ModelFaults, act_faults, answered_fault, brought_fault}
use Rattle.completeness_laws.proofs.Causes.Faults.{known, regular_at, stage_is, refused_stage, after, error_ends, ends_here, still_open}

clash : {A : Type 0} → true ≡ false → A
clash e = absurd cc

module _ (s : SlaveSetup) where
  -- ---- the count of steps and of runs
  abbrev SameCount : Plant → Plant → Type 0
  SameCount p q = (q.steps ≡ p.steps) × (q.earlier ≡ p.earlier)

  set_count : (p : Plant) (body : Cfg) → SameCount p (set_to s p body)
  set_count p (cfg.Parameter vr kind value) = (refl, refl)
  set_count p (cfg.Logging category level mode) = (refl, refl)
  set_count p cfg.Clear = (refl, refl)
  set_count p (cfg.TimeRes x y) = (refl, refl)
  set_count p (cfg.Steps x y) = (refl, refl)
  set_count p (cfg.Input x y z v) = (refl, refl)
  set_count p (cfg.Output x y z) = (refl, refl)
  set_count p (cfg.Target x) = (refl, refl)
  set_count p (cfg.Source x) = (refl, refl)
  set_count p (cfg.Tunable x y z v) = (refl, refl)
  set_count p (cfg.ParamNet x y z v) = (refl, refl)
  set_count p (cfg.Scope x y) = (refl, refl)

  accepted_count : (p : Plant) (asked : Asked) → is_in_error p.state ≡ true → transport.is_last asked (answer p asked) ≡ false → refusal s p asked ≡ None → SameCount p (accepted s p asked)
  unfolding accepted answer refusal
  accepted_count p (Change named request) e l r =
      let o = no_refusal p request (next_on p.state request named p.outputs_sent) r in
      clash (sym (ends_here s named request transport.Ack (error_ends p.state request named p.outputs_sent o.0 e o.1) refl) ∙ l)
  accepted_count p (Setting body) e l r = set_count p body
  accepted_count p (Question inf.State) e l r = (refl, refl)
  accepted_count p (Question inf.Error) e l r = (refl, refl)
  accepted_count p (Question (inf.Log category most)) e l r = (refl, refl)

  answered_count : (p : Plant) (asked : Asked) → is_in_error p.state ≡ true → transport.is_last asked (answers s asked p).answer ≡ false → SameCount p (answers s asked p).after
  answered_count p asked e l = by (refusal s p asked) refl l
    where
      by : (o : Option ErrorCode) → refusal s p asked ≡ o → transport.is_last asked (answered_plant s p asked o).answer ≡ false → SameCount p (answered_plant s p asked o).after
      by (Some code) r l = (refl, refl)
      by None r l = accepted_count p asked e l r

  -- what it has entered stays too
  told_entered : (o : Option ℕ) (g : SlaveStage) → (stage_told o g).entered ≡ g.entered
  told_entered None g = refl
  told_entered (Some code) g = by (code == state_code (reached_by_turns g.entered))
    where
      by : (b : Bool) → (if b then record { entered = g.entered; rested = true } else g).entered ≡ g.entered
      by true = refl
      by false = refl

  accepted_stage : (p : Plant) (asked : Asked) (g : SlaveStage) → is_in_error p.state ≡ true → transport.is_last asked (answer p asked) ≡ false → refusal s p asked ≡ None → (after s asked (answer p asked) g).entered ≡ g.entered
  unfolding answer refusal
  accepted_stage p (Change named request) g e l r =
      let o = no_refusal p request (next_on p.state request named p.outputs_sent) r in
      clash (sym (ends_here s named request transport.Ack (error_ends p.state request named p.outputs_sent o.0 e o.1) refl) ∙ l)
  accepted_stage p (Setting body) g e l r = refl
  accepted_stage p (Question inf.State) g e l r = told_entered (Some (state_code p.state)) g
  accepted_stage p (Question inf.Error) g e l r = refl
  accepted_stage p (Question (inf.Log category most)) g e l r = refl

  answered_stage : (p : Plant) (asked : Asked) (g : SlaveStage) → is_in_error p.state ≡ true → transport.is_last asked (answers s asked p).answer ≡ false → (after s asked (answers s asked p).answer g).entered ≡ g.entered
  answered_stage p asked g e l = by (refusal s p asked) refl l
    where
      by : (o : Option ErrorCode) → refusal s p asked ≡ o → transport.is_last asked (answered_plant s p asked o).answer ≡ false → (after s asked (answered_plant s p asked o).answer g).entered ≡ g.entered
      by (Some code) r l = ap (λ (z : SlaveStage). z.entered) (refused_stage s asked code g)
      by None r l = accepted_stage p asked g e l r

  brought_count : (from : Address) (number id : ℕ) (payload : List ℕ) (p : Plant) → SameCount p (turns.brings s from number id payload p)
  brought_count from number id payload p = by (is_listening p.state)
    where
      by : (b : Bool) → SameCount p (if b then record p { wires = brought s.desc p.wires from number id payload p.steps } else p)
      by true = (refl, refl)
      by false = (refl, refl)

  module _ (w : Parties) (n : ℕ) (rd : ReadsMessages w) where
    abbrev x : List LogEntry → Both Plant
    x log = at (machine s) w n log

    abbrev p : List LogEntry → Plant
    p log = (x log).slave.inner

    -- ---- the fault came at a turn, and the count stands still since
    pub record FaultCame (log : List LogEntry) (c : FaultCode) : Type 0 where
      pub later : List LogEntry
      pub entry : LogEntry
      pub earlier : List LogEntry
      pub is : log ≡ later ++ entry ∷ earlier
      pub opened : is_open (x earlier).slave.session ≡ true
      pub faults : ModelFaults s (p earlier) c
      pub steps : (p log).steps ≡ (p earlier).steps
      pub runs : (p log).earlier ≡ (p earlier).earlier
      pub kept : (stage_by (x log).desk.served).entered ≡ (stage_by (x earlier).desk.served).entered

    abbrev SameEntered : List LogEntry → List LogEntry → Type 0
    SameEntered log more = (stage_by (x more).desk.served).entered ≡ (stage_by (x log).desk.served).entered

    same_entered : (log more : List LogEntry) → (x more).desk.served ≡ (x log).desk.served → SameEntered log more
    same_entered log more v = ap (λ (es : List DecidedRequest). (stage_by es).entered) v

    later_came : (e : LogEntry) (log : List LogEntry) (c : FaultCode) → SameCount (p log) (p (e ∷ log)) → SameEntered log (e ∷ log) → FaultCame log c → FaultCame (e ∷ log) c
    later_came e log c m g k = record { later = e ∷ k.later; entry = k.entry; earlier = k.earlier; is = ap (λ (l : List LogEntry). e ∷ l) k.is; opened = k.opened; faults = k.faults; steps = m.0 ∙ k.steps; runs = m.1 ∙ k.runs; kept = g ∙ k.kept }

    same_count : (q r : Plant) (v : Plant) → r ≡ v → SameCount q v → SameCount q r
    same_count q r v e m = (ap (λ (z : Plant). z.steps) e ∙ m.0, ap (λ (z : Plant). z.earlier) e ∙ m.1)

    some_code : (a b : FaultCode) → Some a ≡ Some b → a ≡ b
    some_code a b e = cc

    pub came : (log : List LogEntry) → is_open (x log).slave.session ≡ true → (c : FaultCode) → (p log).fault ≡ Some c → IsOfModel c → FaultCame log c
    came [] o c f m = absurd cc
    came (e ∷ log) o c f m = by (goes s w n rd e log) (λ o f. came log o c f m)
      where
        Before' : Type 0
        Before' = is_open (x log).slave.session ≡ true → (p log).fault ≡ Some c → FaultCame log c

        turned_came : Turns_on s (x log) (x (e ∷ log)) → Before' → FaultCame (e ∷ log) c
        turned_came t g = two (act s quiet (p log)) refl (sym (ap (λ z. z.inner.fault) t.slave) ∙ f)
          where
            quiet : ℕ
            quiet = transport.quieter (x log).slave.quiet

            new : p (e ∷ log) ≡ (turns.turns s quiet (p log)).after
            new = ap (λ z. z.inner) t.slave

            now : (a : Act) → act s quiet (p log) ≡ a → SameCount (p log) (turned s (p log) a).after → SameCount (p log) (p (e ∷ log))
            now a h m = same_count (p log) (p (e ∷ log)) (turned s (p log) a).after (new ∙ ap (λ z. (turned s (p log) z).after) h) m

            here : (code : FaultCode) → act s quiet (p log) ≡ turns.Fault code → code ≡ c → ((is_missed s.desc (p log).state quiet ≡ true) × (code ≡ HeartbeatMissed)) ⊎ ModelFaults s (p log) code → FaultCame (e ∷ log) c
            here code h z (inl y) = absurd (subst IsOfModel (sym z ∙ y.1) m)
            here code h z (inr y) =
                let P : FaultCode → Type 0 = ModelFaults s (p log) in
                let count = now (turns.Fault code) h (refl, refl) in
                record { later = []; entry = e; earlier = log; is = refl; opened = t.opened; faults = subst P z y; steps = count.0; runs = count.1; kept = same_entered log (e ∷ log) t.served }

            two : (a : Act) → act s quiet (p log) ≡ a → (turned s (p log) a).after.fault ≡ Some c → FaultCame (e ∷ log) c
            two turns.Stay h q = later_came e log c (now turns.Stay h (refl, refl)) (same_entered log (e ∷ log) t.served) (g t.opened q)
            two (turns.Wait left) h q = later_came e log c (now (turns.Wait left) h (refl, refl)) (same_entered log (e ∷ log) t.served) (g t.opened q)
            two turns.Pass h q = later_came e log c (now turns.Pass h (refl, refl)) (same_entered log (e ∷ log) t.served) (g t.opened q)
            two (turns.Step state) h q = clash (sym ((known s w n rd log t.opened).error (ap is_some q)) ∙ ap is_in_error (act_step s quiet (p log) state h))
            two (turns.Fault code) h q = here code h (some_code code c q) (act_faults s quiet (p log) code h)

        takes_came : Takes s (x log) (x (e ∷ log)) → Before' → FaultCame (e ∷ log) c
        takes_came t g = two t.when
          where
            before : (p log).fault ≡ Some c
            before = sym (answered_fault s (p log) t.request.asked) ∙ sym (ap (λ z. z.inner.fault) t.slave) ∙ f

            stage_now : is_in_error (p log).state ≡ true → transport.is_last t.request.asked (answers s t.request.asked (p log)).answer ≡ false → SameEntered log (e ∷ log)
            stage_now q l = ap (λ (es : List DecidedRequest). (stage_by es).entered) t.served ∙ ap (λ (z : SlaveStage). z.entered) (stage_is s (p log) (x log).desk.served t.request t.note t.next' t.heard) ∙ answered_stage (p log) t.request.asked (stage_by (x log).desk.served) q l

            opened : is_open (transport.session_after (x log).slave.session t.from t.request (answers s t.request.asked (p log)).answer) ≡ true
            opened = sym (ap (λ z. is_open z.session) t.slave) ∙ o

            two : (((x log).slave.session ≡ Before) × (transport.is_register t.request.asked ≡ true)) ⊎ (is_open (x log).slave.session ≡ true) → FaultCame (e ∷ log) c
            two (inl h) =
                let start : p log ≡ start_plant s = (let S : Session → Type 0 = λ z. IsRegularIn s z (p log) in subst S h.0 (regular_at s w n rd log)) in
                let z : None ≡ Some c = sym (ap (λ q. q.fault) start) ∙ before in absurd cc
            two (inr h) =
                let lasts = still_open s w n rd (x log).slave.session t.from t.request (answers s t.request.asked (p log)).answer h opened in
                let m = answered_count (p log) t.request.asked ((known s w n rd log h).error (ap is_some before)) lasts in
                later_came e log c (same_count (p log) (p (e ∷ log)) (answers s t.request.asked (p log)).after (ap (λ z. z.inner) t.slave) m) (stage_now ((known s w n rd log h).error (ap is_some before)) lasts) (g h before)

        by : Goes s (move w n e) (x log) (x (e ∷ log)) → Before' → FaultCame (e ∷ log) c
        by (stays h v) g = later_came e log c (ap (λ z. z.inner.steps) h, ap (λ z. z.inner.earlier) h) (same_entered log (e ∷ log) v) (g (sym (ap (λ z. is_open z.session) h) ∙ o) (sym (ap (λ z. z.inner.fault) h) ∙ f))
        by (brings t) g =
            later_came e log c (same_count (p log) (p (e ∷ log)) (turns.brings s t.from t.number t.id t.payload (p log)) (ap (λ z. z.inner) t.slave) (brought_count t.from t.number t.id t.payload (p log)))
            (same_entered log (e ∷ log) t.served)
            (g t.opened (sym (brought_fault s t.from t.number t.id t.payload (p log)) ∙ sym (ap (λ z. z.inner.fault) t.slave) ∙ f))
        by (turns_on mv t) g = turned_came t g
        by (takes t) g = takes_came t g

    -- ---- what was taken stays
    pub served_grows : (later log : List LogEntry) → (more : List DecidedRequest) × (served_at s w n (later ++ log) ≡ more ++ served_at s w n log)
    served_grows [] log = ([], refl)
    served_grows (e ∷ later) log = by (goes s w n rd e (later ++ log)) (served_grows later log)
      where
        Grown : List LogEntry → Type 0
        Grown l = (more : List DecidedRequest) × (served_at s w n l ≡ more ++ served_at s w n log)

        by : Goes s (move w n e) (x (later ++ log)) (x (e ∷ (later ++ log))) → Grown (later ++ log) → Grown (e ∷ (later ++ log))
        by (stays h v) g = (g.0, v ∙ g.1)
        by (brings t) g = (g.0, t.served ∙ g.1)
        by (turns_on mv t) g = (g.0, t.served ∙ g.1)
        by (takes t) g = (exchanged s (p (later ++ log)) t.request t.note t.next' ∷ g.0, t.served ∙ ap (λ (es : List DecidedRequest). exchanged s (p (later ++ log)) t.request t.note t.next' ∷ es) g.1)
