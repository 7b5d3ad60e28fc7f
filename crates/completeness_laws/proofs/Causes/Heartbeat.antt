-- A reported heartbeat was missed.
use Rattle.std.proofs.Common.{◌≡◌, ℕ, Some, List, ◌∷◌, ◌++◌, reverse, refl, sym, ap, ◌∙◌}
use Rattle.dcp_ends.specs.declared.entries.LogEntry.{LogEntry}
use Rattle.scenario.specs.declared.scenarios.Scenario.{Scenario}
use Rattle.scenario.specs.Sound.{IsScenario}
use Rattle.slave_desc.specs.declared.descriptions.SlaveDesc.{SlaveDesc}
use Rattle.slave_spec.specs.Requests.{code_or_zero}
use Rattle.slave_laws.specs.Model.Models.{plant_at}
use Rattle.master_spec.specs.declared.causes.Cause.{Cause}
use Rattle.master_spec.specs.declared.causes.Cause.TheVariants as causes
use Rattle.master_spec.specs.declared.reports.Report.TheVariants as reports
use Rattle.master_spec.specs.declared.requests.Request.{Request}
use Rattle.master_spec.specs.declared.requests.Request.TheVariants.{AskError}
use Rattle.master_spec.specs.declared.requests.Answer.{Answer}
use Rattle.master_spec.specs.declared.requests.Answer.TheVariants.{ErrorAck}
use Rattle.master_spec.specs.Marks.{Mark, Begun, Asked, Again, Answered, Hinted, Brought, Turned, Ended}
use Rattle.master_spec.specs.Setup.{setup_from}
use Rattle.master_log_laws.specs.Index.Runs.{course_at}
use Rattle.master_log_laws.specs.Index.Index.{marks_of, askings_told}
use Rattle.master_log_laws.specs.Failures.Because.{BecauseOf}
use Rattle.master_log_laws.proofs.Phases.Now.{past}
use Rattle.run_laws.specs.Laws.{parties, slave_setup_of, IsRunOf}
use Rattle.completeness_laws.specs.AnswerCauses.{IsOfHeartbeat, MissedHeartbeatsAreTrue}
use Rattle.completeness_laws.specs.Reasons.{HeartbeatWasMissed}
use Rattle.completeness_laws.proofs.Causes.Ended.{IsEndedBy}
use Rattle.completeness_laws.proofs.Causes.Missed.{missed_before}
use Rattle.completeness_laws.proofs.Causes.Taken.{taken_answer, fault_told, heartbeat_code}
use Rattle.completeness_laws.proofs.Causes.Unexpected.{ended, last, last_answer}

module _ (sc : Scenario) (other : SlaveDesc) (ok : IsScenario sc) (log : List LogEntry) (run : IsRunOf sc other log) (later sofar : List LogEntry) (front : reverse log ≡ later ++ sofar) (id phase : ℕ) (q c : ℕ)
    (reported : (course_at (setup_from sc) sofar).report ≡ Some (reports.Failed id phase (causes.Faulted q c))) where
  abbrev k : IsEndedBy (setup_from sc) sofar id phase (causes.Faulted q c)
  k = ended sc other ok log run later sofar front id phase (causes.Faulted q c) reported

  -- the question for the fault, and its answer
  pub answer_is : (m : Mark) → k.mark ≡ m → BecauseOf (setup_from sc).limits k.job m (marks_of k.older) (m ∷ marks_of k.older) (causes.Faulted q c) → k.mark ≡ Answered AskError (ErrorAck c)
  answer_is (Answered r a) e b = e ∙ ap (λ (x : Request). Answered x a) (b.1).0 ∙ ap (λ (x : Answer). Answered AskError x) (b.1).1
  answer_is (Turned settled) e b = absurd b
  answer_is (Begun j) e b = absurd b
  answer_is (Asked r) e b = absurd b
  answer_is Again e b = absurd b
  answer_is Hinted e b = absurd b
  answer_is (Brought n p) e b = absurd b
  answer_is (Ended x) e b = absurd b

  pub mark_is : k.mark ≡ Answered AskError (ErrorAck c)
  mark_is = answer_is k.mark refl k.why

  pub missed : c ≡ 35 → HeartbeatWasMissed sc other id sofar
  missed e =
      let l = last sc other ok log run later sofar front id phase (causes.Faulted q c) reported AskError (ErrorAck c) mark_is in
      let t = taken_answer sc other sofar id AskError (ErrorAck c) (l.phase ++ askings_told (past k.older)) (last_answer sc other ok log run later sofar front id phase (causes.Faulted q c) reported AskError (ErrorAck c) mark_is) in
      let p = plant_at (slave_setup_of sc other id) (parties sc other) id t.taken.earlier in
      let told : c ≡ code_or_zero p.fault = fault_told (slave_setup_of sc other id) p c t.answered in
      missed_before sc other id sofar t.newest t.others t.taken (heartbeat_code p.fault (sym told ∙ e))

pub missed_heartbeats : MissedHeartbeatsAreTrue
missed_heartbeats sc other ok log run later sofar front id phase cause reported = by cause reported
  where
    by : (cause : Cause) → (course_at (setup_from sc) sofar).report ≡ Some (reports.Failed id phase cause) → IsOfHeartbeat sc other sofar id cause
    by (causes.Faulted q c) h = λ e. missed sc other ok log run later sofar front id phase q c h e
    by (causes.Unexpected q y t) h = tt
    by (causes.NoAnswer q) h = tt
    by (causes.Refused q c) h = tt
    by (causes.InputsMissing q i) h = tt
    by (causes.DataMissing i) h = tt
    by (causes.Stuck q i) h = tt
