-- Where a fault is reported there is one, and if it is the model's it is the one that ends the reference.
use Rattle.std.proofs.Common.{◌≡◌, ◌≢◌, ℕ, true, false, ◌⊎◌, inl, inr, Option, Some, None, List, [], ◌∷◌, ◌++◌, reverse, refl, sym, ap, ◌∙◌, subst, arith, ℤ}
use Rattle.std.specs.Prelude.{is_some}
use Rattle.std.proofs.lemmas.List.{append_assoc}
use Rattle.dcp_types.specs.declared.fault_codes.FaultCode.{FaultCode}
use Rattle.dcp_types.specs.declared.fault_codes.FaultCode.TheVariants.{HeartbeatMissed}
use Rattle.dcp_types.specs.Codes.{fault_code, state_code}
use Rattle.dcp_ends.specs.declared.entries.LogEntry.{LogEntry}
use Rattle.scenario.specs.declared.scenarios.Scenario.{Scenario}
use Rattle.scenario.specs.Sound.{IsScenario}
use Rattle.slave_desc.specs.declared.descriptions.SlaveDesc.{SlaveDesc}
use Rattle.lockstep.specs.declared.references.RefFault.{RefFault}
use Rattle.lockstep.specs.Lockstep.{IsReference}
use Rattle.log_spec.specs.Log.{Parties, IsSlaveOf}
use Rattle.slave_spec.specs.declared.words.SlaveSetup.{SlaveSetup}
use Rattle.slave_spec.specs.declared.words.SlaveRequest.{SlaveRequest}
use Rattle.slave_spec.specs.declared.words.Asked as words
use Rattle.slave_spec.specs.declared.words.Session.TheVariants.{Before}
use Rattle.slave_spec.specs.Transport as transport
use Rattle.slave_spec.specs.Transport.{is_open}
use Rattle.slave_spec.specs.Plants.{Plant}
use Rattle.slave_spec.specs.Slaves.{machine}
use Rattle.slave_spec.specs.Requests.{is_in_error, refusal, answer, answers, code_or_zero}
use Rattle.slave_laws.specs.Talk.Desks.{at}
use Rattle.slave_laws.proofs.Model.Standing.{slaves_stand}
use Rattle.plan_laws.specs.Course.Taken.{asked_heard, asked_in}
use Rattle.pdu_layout.specs.declared.messages.Inf.TheVariants as inf
use Rattle.dcp_types.specs.declared.states.State.{State}
use Rattle.log_spec.specs.Log as logs
use Rattle.master_spec.specs.declared.requests.Request.TheVariants.{AskState}
use Rattle.master_spec.specs.declared.requests.Answer.TheVariants.{StateAck}
use Rattle.master_spec.specs.Conversation.{is_error}
use Rattle.master_spec.specs.Requests.{Asking}
use Rattle.master_laws.specs.Hears.Laws.{AreDecisions}
use Rattle.master_log_laws.specs.Index.Index.{askings_told}
use Rattle.master_log_laws.proofs.Phases.Now.{past}
use Rattle.master_laws.proofs.PlanOrder.Hearing.{asked_for}
use Rattle.completeness_laws.proofs.Causes.Exchanges.{heard_answer, newest_exchange, note_heard}
use Rattle.completeness_laws.proofs.Causes.History.{was_taken}
use Rattle.completeness_laws.proofs.Causes.Faults.{fault_stays}
use Rattle.slave_laws.specs.Model.Models.{plant_at}
use Rattle.master_spec.specs.declared.causes.Cause.{Cause}
use Rattle.master_spec.specs.declared.causes.Cause.TheVariants as causes
use Rattle.master_spec.specs.declared.reports.Report.TheVariants as reports
use Rattle.master_spec.specs.Setup.{setup_from}
use Rattle.master_log_laws.specs.Index.Runs.{course_at}
use Rattle.run_laws.specs.Laws.{parties, slave_setup_of, IsRunOf}
use Rattle.completeness_laws.specs.AnswerCauses.{IsOfReference, FaultsAreOfTheReference}
use Rattle.completeness_laws.specs.Reasons.{IsFaultOf}
use Rattle.completeness_laws.proofs.Causes.Unexpected.{ended}
use Rattle.completeness_laws.proofs.Causes.Quiet.{model_or_not, IsOfModel}
use Rattle.completeness_laws.proofs.Causes.Taken.{reads, fault_told}
use Rattle.completeness_laws.proofs.Causes.Located.{asked_fault, told_error}
use Rattle.slave_spec.specs.declared.words.Asked.TheVariants.{Question}
use Rattle.completeness_laws.proofs.Causes.Faulted.{is_of_reference}

-- ---- there is a fault
state_told : (s : SlaveSetup) (p : Plant) → (answers s (Question inf.State) p).answer ≡ transport.StateAck p.state
unfolding refusal answer
state_told s p = refl

state_code_is : (a b : ℕ) → StateAck a ≡ StateAck b → a ≡ b
state_code_is a b e = cc

error_is : (state : State) → is_error (state_code state) ≡ true → is_in_error state ≡ true
error_is state e = grind (arith, e)

some_same : (a b : words.Asked) → Some a ≡ Some b → a ≡ b
some_same a b e = cc

is_there : (o : Option FaultCode) → is_some o ≡ true → (code : FaultCode) × (o ≡ Some code)
is_there None e = absurd cc
is_there (Some code) e = (code, refl)

clash : {A : Type 0} → true ≡ false → A
clash e = absurd cc

module _ (sc : Scenario) (other : SlaveDesc) (ok : IsScenario sc) (log : List LogEntry) (run : IsRunOf sc other log) (later sofar : List LogEntry) (front : reverse log ≡ later ++ sofar) (id phase : ℕ) (q c : ℕ)
    (reported : (course_at (setup_from sc) sofar).report ≡ Some (reports.Failed id phase (causes.Faulted q c))) where
  abbrev w : Parties
  w = parties sc other

  abbrev s : SlaveSetup
  s = slave_setup_of sc other id

  abbrev early : List LogEntry
  early = (asked_fault sc other ok log run later sofar front id phase q c reported).taken.earlier

  pub has_fault : (code : FaultCode) × ((plant_at s w id early).fault ≡ Some code)
  has_fault =
      let t = asked_fault sc other ok log run later sofar front id phase q c reported in
      let e = told_error sc other ok log run later sofar front id phase q c reported in
      let old = askings_told (past (ended sc other ok log run later sofar front id phase (causes.Faulted q c) reported).older) in
      let P : List Asking → Type 0 = λ bs. AreDecisions id (bs ++ old) t.others in
      let x = newest_exchange id AskState (StateAck e.state) e.question (e.rest ++ old) t.others e.of e.decided (subst P e.is t.told) in
      let k = was_taken s w id (reads sc other) early [] x.others x.newest (t.taken.before ∙ x.is) in
      let n = k.takes_it in
      let p = plant_at s w id k.earlier in
      let note : asked_in x.newest.request ≡ Some n.request.asked = ap (λ (z : logs.DecidedRequest). asked_in z.request) k.exchange ∙ ap asked_heard n.heard in
      let asked : n.request.asked ≡ asked_for AskState = some_same n.request.asked (asked_for AskState) (sym note ∙ x.asked) in
      let said : StateAck e.state ≡ heard_answer (answers s n.request.asked p).answer = note_heard id x.newest.answer (StateAck e.state) n.request n.next' (answers s n.request.asked p).answer (ap (λ (z : logs.DecidedRequest). z.answer) k.exchange) x.heard in
      let state : e.state ≡ state_code p.state = state_code_is e.state (state_code p.state) (said ∙ ap (λ (z : words.Asked). heard_answer (answers s z p).answer) asked ∙ ap heard_answer (state_told s p)) in
      let stands = slaves_stand s w id (reads sc other) k.earlier (opened k.earlier n.request n.when asked) in
      let f = is_there p.fault (stands.fault (error_is p.state (sym (ap is_error state) ∙ e.error))) in
      let whole : early ≡ (k.later ++ k.entry ∷ []) ++ k.earlier = k.is ∙ sym (append_assoc k.later (k.entry ∷ []) k.earlier) in
      (f.0, ap (λ (z : List LogEntry). (plant_at s w id z).fault) whole ∙ fault_stays s w id (reads sc other) (k.later ++ k.entry ∷ []) k.earlier f.0 f.1)
    where
      opened : (l : List LogEntry) (r : SlaveRequest) → (((at (machine s) w id l).slave.session ≡ Before) × (transport.is_register r.asked ≡ true)) ⊎ (is_open (at (machine s) w id l).slave.session ≡ true) → r.asked ≡ asked_for AskState → is_open (at (machine s) w id l).slave.session ≡ true
      opened l r (inr h) a = h
      opened l r (inl h) a = clash (sym h.1 ∙ ap transport.is_register a)

  pub faulted : c ≢ 35 → (rows : List (List ℤ)) (fault : Option RefFault) → IsReference sc rows fault → IsFaultOf sc fault id phase c
  faulted no' rows fault ref = by (model_or_not f.0)
    where
      f : (code : FaultCode) × ((plant_at s w id early).fault ≡ Some code)
      f = has_fault

      told : c ≡ fault_code f.0
      told = fault_told s (plant_at s w id early) c (asked_fault sc other ok log run later sofar front id phase q c reported).answered ∙ ap code_or_zero f.1

      by : IsOfModel f.0 ⊎ (f.0 ≡ HeartbeatMissed) → IsFaultOf sc fault id phase c
      by (inl m) = is_of_reference sc other ok log run later sofar front id phase q c reported f.0 f.1 m told rows fault ref
      by (inr e) = absurd (no' (told ∙ ap fault_code e))

pub faults_of_reference : FaultsAreOfTheReference
faults_of_reference sc other ok log run later sofar front id phase cause reported = by cause reported
  where
    by : (cause : Cause) → (course_at (setup_from sc) sofar).report ≡ Some (reports.Failed id phase cause) → IsOfReference sc id phase cause
    by (causes.Faulted q c) h = λ no' rows fault ref. faulted sc other ok log run later sofar front id phase q c h no' rows fault ref
    by (causes.Unexpected q y t) h = tt
    by (causes.NoAnswer q) h = tt
    by (causes.Refused q c) h = tt
    by (causes.InputsMissing q i) h = tt
    by (causes.DataMissing i) h = tt
    by (causes.Stuck q i) h = tt
