-- The reference shows the fault where it came, and has all rows before.
use Rattle.std.proofs.Common.{◌≡◌, ℕ, suc, ◌+◌, ◌-◌, ◌*◌, ◌≤◌, Bool, true, false, if◌then◌else◌, inl, inr, Option, Some, List, [], ◌∷◌, ◌++◌, reverse, length, sym, ap, ◌∙◌, subst, arith, ℤ, Err}
use Rattle.dcp_types.specs.declared.fault_codes.FaultCode.{FaultCode}
use Rattle.dcp_types.specs.declared.states.State.{State}
use Rattle.dcp_types.specs.declared.states.State.TheVariants.{Initializing, Computing}
use Rattle.dcp_ends.specs.declared.entries.LogEntry.{LogEntry}
use Rattle.scenario.specs.declared.scenarios.Scenario.{Scenario}
use Rattle.scenario.specs.Sound.{IsScenario}
use Rattle.slave_desc.specs.declared.descriptions.SlaveDesc.{SlaveDesc}
use Rattle.lockstep.specs.declared.references.RefFault.{RefFault}
use Rattle.lockstep.specs.Lockstep.{row_index, shown, IsReference}
use Rattle.log_spec.specs.Log.{Parties}
use Rattle.log_spec.specs.Log as logs
use Rattle.log_spec.specs.Moves.{decided_exchanges}
use Rattle.lockstep_laws.specs.Steps.{shown_after, BenchProgress, events_counted, view}
use Rattle.lockstep_laws.specs.Runs.{Behaves}
use Rattle.lockstep_laws.proofs.Conversation.{drop_later}
use Rattle.slave_spec.specs.declared.words.SlaveSetup.{SlaveSetup}
use Rattle.slave_spec.specs.Plants.{Plant}
use Rattle.slave_spec.specs.Slaves.{machine}
use Rattle.slave_laws.specs.Talk.Desks.{at}
use Rattle.slave_laws.specs.Model.Models.{plant_at}
use Rattle.slave_laws.specs.Wiring.Wired.{is_past, is_during}
use Rattle.slave_laws.specs.Data.Whole.{slaves_asked}
use Rattle.lockstep_laws.specs.Models.Scenarios.{slave_numbered}
use Rattle.master_spec.specs.declared.causes.Cause.TheVariants as causes
use Rattle.master_spec.specs.declared.reports.Report.TheVariants as reports
use Rattle.master_spec.specs.declared.requests.Request.TheVariants.{AskError}
use Rattle.master_spec.specs.declared.requests.Answer.TheVariants.{ErrorAck}
use Rattle.master_spec.specs.Requests.{Asking}
use Rattle.master_spec.specs.Setup.{setup_from}
use Rattle.master_log_laws.specs.Index.Runs.{course_at}
use Rattle.master_log_laws.specs.Index.Index.{askings_told}
use Rattle.master_log_laws.proofs.Phases.Now.{past}
use Rattle.master_laws.proofs.PlanOrder.Taken.{events_by, events_are}
use Rattle.master_laws.proofs.Rows.Views.{viewed}
use Rattle.run_laws.specs.Laws.{parties, slave_setup_of, IsRunOf}
use Rattle.run_laws.proofs.Headline.Moments.{so_far}
use Rattle.run_laws.proofs.Headline.Behaving.{are_slaves}
use Rattle.completeness_laws.proofs.Causes.Goings.{open_during}
use Rattle.completeness_laws.proofs.Causes.Ended.{IsEndedBy, IsEndedByAnswer}
use Rattle.completeness_laws.proofs.Causes.Unexpected.{ended, last, last_answer, IsLastAnswer}
use Rattle.completeness_laws.proofs.Causes.Heartbeat.{mark_is}
use Rattle.completeness_laws.proofs.Causes.Quiet.{IsOfModel, ModelFaults, out_of_range, step_faults}
use Rattle.completeness_laws.proofs.Causes.Moments.{FaultCame}
use Rattle.completeness_laws.proofs.Causes.Taken.{reads}
use Rattle.completeness_laws.proofs.Causes.Timed.{seen_more}
use Rattle.completeness_laws.proofs.Causes.Own.{locked, step_faults_there, first_faults_there}
use Rattle.completeness_laws.proofs.Causes.Located.{asked_fault, is_slave, fault_came, behaves_there, IsAtStep, IsLocated, located}

not_both : {A : Type 0} (t : State) → t ≡ Initializing → t ≡ Computing → A
not_both t a b = let z : Initializing ≡ Computing = sym a ∙ b in absurd cc

counted_done : (v : BenchProgress) → events_counted v ≤ v.done + 1
counted_done v = by v.waiting
  where
    by : (b : Bool) → (if b then v.done + 1 else v.done) ≤ v.done + 1
    by true = omega arith
    by false = omega arith

module _ (sc : Scenario) (other : SlaveDesc) (ok : IsScenario sc) (log : List LogEntry) (run : IsRunOf sc other log) (later sofar : List LogEntry) (front : reverse log ≡ later ++ sofar) (id phase : ℕ) (q c : ℕ)
    (reported : (course_at (setup_from sc) sofar).report ≡ Some (reports.Failed id phase (causes.Faulted q c))) (code : FaultCode)
    (fault : (plant_at (slave_setup_of sc other id) (parties sc other) id (asked_fault sc other ok log run later sofar front id phase q c reported).taken.earlier).fault ≡ Some code) (model : IsOfModel code)
    (rows : List (List ℤ)) (last_fault : Option RefFault) (ref : IsReference sc rows last_fault) where
  abbrev w : Parties
  w = parties sc other

  abbrev s : SlaveSetup
  s = slave_setup_of sc other id

  abbrev f : FaultCame s w id (reads sc other) (asked_fault sc other ok log run later sofar front id phase q c reported).taken.earlier code
  f = fault_came sc other ok log run later sofar front id phase q c reported code fault model

  abbrev pub place : IsLocated sc other ok log run later sofar front id phase q c reported code fault model
  place = located sc other ok log run later sofar front id phase q c reported code fault model

  abbrev p : Plant
  p = plant_at s w id f.earlier

  abbrev d : SlaveDesc
  d = slave_numbered sc other id

  -- ---- its own fault
  pub shows_fault : shown sc rows id d (place.m + 1) place.i ≡ Err code
  shows_fault = by place.at_step f.faults
    where
      there : Behaves w (slaves_asked sc other) f.earlier
      there = behaves_there sc other ok log run later sofar front id phase q c reported code fault model

      during : is_during (at (machine s) w id f.earlier).slave.session ≡ true
      during = open_during (at (machine s) w id f.earlier).slave.session f.opened

      P : ℕ → ℕ → Type 0
      P r i = shown sc rows id d (r + 1) i ≡ Err code

      moved : (i : ℕ) → P (length p.earlier) i → i ≡ place.i → P place.m place.i
      moved i h e = subst (λ r. P r place.i) place.resets (subst (λ j. P (length p.earlier) j) e h)

      by : IsAtStep p place.i → ModelFaults s p code → P place.m place.i
      by (inl z) (out_of_range e g h) = moved 0 (first_faults_there sc other ok f.earlier there rows last_fault ref id (is_slave sc other ok log run later sofar front id phase q c reported) during (ap is_past e) (z.1).0 g ∙ ap (λ (y : FaultCode). Err y) (sym h)) (sym z.0)
      by (inl z) (step_faults e g) = not_both p.state (z.1).1 e
      by (inr z) (out_of_range e g h) = not_both p.state e z.1
      by (inr z) (step_faults e g) =
          let n : suc p.steps ≡ place.i = (let k = z.0 in omega (arith, k)) in
          moved (suc p.steps) (step_faults_there sc other ok f.earlier there rows last_fault ref id (is_slave sc other ok log run later sofar front id phase q c reported) during e code g) n

  -- ---- the rows before
  abbrev k : IsEndedBy (setup_from sc) sofar id phase (causes.Faulted q c)
  k = ended sc other ok log run later sofar front id phase (causes.Faulted q c) reported

  abbrev l : IsEndedByAnswer (setup_from sc) sofar k.slave k.job k.older AskError (ErrorAck c)
  l = last sc other ok log run later sofar front id phase (causes.Faulted q c) reported AskError (ErrorAck c) (mark_is sc other ok log run later sofar front id phase q c reported)

  abbrev asked : List Asking
  asked = l.phase ++ askings_told (past k.older)

  pub behaves_so_far : Behaves w (slaves_asked sc other) sofar
  behaves_so_far = drop_later w (slaves_asked sc other) (are_slaves sc other ok) later sofar (so_far sc other ok log run later sofar front)

  pub rows_before : row_index sc.steps (place.m + 1) place.i ≤ length rows
  rows_before =
      let la : IsLastAnswer sc other sofar id AskError (ErrorAck c) asked = last_answer sc other ok log run later sofar front id phase (causes.Faulted q c) reported AskError (ErrorAck c) (mark_is sc other ok log run later sofar front id phase q c reported) in
      let e = la.exchange in
      let ds = decided_exchanges w id sofar in
      let told : shown_after (view ds).done ≤ length rows = ((locked sc other ok sofar behaves_so_far rows last_fault ref).rows').told id la.is in
      let counted : events_counted (view e.others) ≡ events_by asked = ap events_counted (viewed id asked e.others e.told) ∙ events_are asked in
      let more = seen_more (e.newest ∷ []) e.others in
      let whole : events_counted (view ds) ≡ events_counted (view (e.newest ∷ e.others)) = ap (λ (z : List logs.DecidedRequest). events_counted (view z)) e.is in
      let near = counted_done (view ds) in
      let many = place.counted in
      let one : place.m + 1 - 1 ≡ place.m = omega arith in
      let index : row_index sc.steps (place.m + 1) place.i ≡ place.m * (sc.steps + 1) + place.i = ap (λ (a : ℕ). a * (sc.steps + 1) + place.i) one in
      let done : 2 * (place.m * (sc.steps + 1) + place.i) ≤ (view ds).done + 1 = omega (arith, counted, more, whole, near, many) in
      let half : place.m * (sc.steps + 1) + place.i ≤ shown_after (view ds).done = omega (arith, done) in
      omega (arith, index, half, told)
