-- The reason of every cause that a master reports, over an honest network, be it as slow and lossy as it may. Logs have their newest entry first, but for the log of a run.
use Rattle.std.specs.Prelude.{◌≡◌, ℕ, ◌+◌, ◌≤◌, Some, List, ◌∷◌, reverse}
use Rattle.dcp_ends.specs.declared.entries.LogEntry.{LogEntry}
use Rattle.slave_desc.specs.declared.descriptions.SlaveDesc.{SlaveDesc}
use Rattle.scenario.specs.declared.scenarios.Scenario.{Scenario}
use Rattle.scenario.specs.Sound.{IsScenario}
use Rattle.master_spec.specs.declared.causes.Cause.{Cause}
use Rattle.master_spec.specs.declared.causes.Cause.TheVariants as causes
use Rattle.master_spec.specs.declared.reports.Report.TheVariants as reports
use Rattle.master_spec.specs.declared.setups.Slave.{Slave}
use Rattle.master_spec.specs.Exchanged.{IsIn}
use Rattle.master_spec.specs.Setup.{setup_from}
use Rattle.master_spec.specs.Shown.{Shown}
use Rattle.master_log_laws.specs.Index.Runs.{course_at}
use Rattle.lockstep_laws.specs.Models.Scenarios.{slave_numbered}
use Rattle.run_laws.specs.Laws.{parties, IsRunInRounds}
use Rattle.completeness_laws.specs.AnswerCauses.{IsOfHeartbeat, IsOfReference, IsRefusedInError}
use Rattle.completeness_laws.specs.Inputs.{InputsWereSent}
use Rattle.completeness_laws.specs.Undelivered.{EndedInPhase}
use Rattle.completeness_laws.specs.Unheard.{IsUnheard}
use Rattle.completeness_laws.specs.Unshown.{AreOutputsUnshown}

-- the log shows that slave s refused step k for want of inputs until the master gave it up, and some of the inputs were on their way
pub record AreInputsMissing (sc : Scenario) (other : SlaveDesc) (log : List LogEntry) (s phase q k : ℕ) : Type 0 where
  pub slave : Slave
  pub is_in : IsIn (setup_from sc) slave
  pub id_is : slave.id ≡ s
  pub shown : Shown (setup_from sc) log slave phase (causes.InputsMissing q k)
  pub sent : InputsWereSent sc other log slave phase q k shown

-- The reason of the cause with which the conversation with slave s ended in this phase. It ended with entry e, after what was so far; the log is the one at the report.
--   Unexpected             never
--   NoAnswer               the request had not come to the slave, or an answer of the slave to it had not come to the master
--   Refused                the code is 14, and the slave's fault is a heartbeat that was missed
--   DataMissing, step k    the outputs after step k had been sent to the master, and had not come in as many turns as it waits for data
--   Stuck                  the steps of the slave last, with two turns more, as long as the limit for a state
--   Faulted, code 35       the slave had as many turns in a row as its heartbeat without taking a request
--   Faulted, other codes   the reference ends with this fault of this slave, at what the phase is for
--   InputsMissing, step k  over a wire to the slave the data that it wants for step k had been sent before any refusal of the step came, and had not come when the slave sent the last refusal
abbrev pub HasHonestReason : (sc : Scenario) (other : SlaveDesc) (log sofar : List LogEntry) → LogEntry → (s phase : ℕ) → Cause → Type 0
HasHonestReason sc other log sofar e s phase (causes.Unexpected q y t) = ⊥
HasHonestReason sc other log sofar e s phase (causes.NoAnswer q) = IsUnheard (parties sc other) s q sofar
HasHonestReason sc other log sofar e s phase (causes.Refused q c) = IsRefusedInError sc other log s c
HasHonestReason sc other log sofar e s phase (causes.InputsMissing q k) = AreInputsMissing sc other log s phase q k
HasHonestReason sc other log sofar e s phase (causes.DataMissing k) = AreOutputsUnshown sc other s k (e ∷ sofar)
HasHonestReason sc other log sofar e s phase (causes.Stuck q t) = sc.limits.state_limit ≤ (slave_numbered sc other s).busy + 2
HasHonestReason sc other log sofar e s phase (causes.Faulted q c) = IsOfHeartbeat sc other log s (causes.Faulted q c) × IsOfReference sc s phase (causes.Faulted q c)

-- the conversation with the slave ended with this cause, for its reason
pub record IsHonestFailure (sc : Scenario) (other : SlaveDesc) (log : List LogEntry) (s phase : ℕ) (cause : Cause) : Type 0 where
  pub ended : EndedInPhase sc other log s phase cause
  pub reason : HasHonestReason sc other (reverse log) ended.sofar ended.entry s phase cause

-- whatever the master reports, it has its reason
abbrev pub CausesAreHonest : Type 0
CausesAreHonest = (sc : Scenario) (other : SlaveDesc) → IsScenario sc → (log : List LogEntry) → IsRunInRounds sc other log → (id phase : ℕ) (cause : Cause)
    → (course_at (setup_from sc) (reverse log)).report ≡ Some (reports.Failed id phase cause) → IsHonestFailure sc other log id phase cause
