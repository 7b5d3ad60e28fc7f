-- Why a conversation of a run ended: what was sent and had not come. The log has its oldest entry first, and what was so far its newest.
use Rattle.std.specs.Prelude.{◌≡◌, ℕ, ◌+◌, ◌≤◌, Some, List, ◌∷◌, ◌++◌, reverse}
use Rattle.dcp_ends.specs.declared.entries.LogEntry.{LogEntry}
use Rattle.slave_desc.specs.declared.descriptions.SlaveDesc.{SlaveDesc}
use Rattle.scenario.specs.declared.scenarios.Scenario.{Scenario}
use Rattle.scenario.specs.Sound.{IsScenario}
use Rattle.log_spec.specs.Log.{IsSlaveOf}
use Rattle.master_spec.specs.declared.causes.Cause.{Cause}
use Rattle.master_spec.specs.declared.causes.Cause.TheVariants as causes
use Rattle.master_spec.specs.declared.reports.Report.TheVariants as reports
use Rattle.master_spec.specs.Setup.{setup_from}
use Rattle.master_spec.specs.Rules.{MasterRun}
use Rattle.master_log_laws.specs.Index.Runs.{course_at}
use Rattle.lockstep_laws.specs.Models.Scenarios.{slave_numbered}
use Rattle.master_log_laws.specs.Scenarios.Laws.{course_after}
use Rattle.run_laws.specs.Laws.{parties, IsRunInRounds}
use Rattle.completeness_laws.specs.Moments.{EndsHere}
use Rattle.completeness_laws.specs.Unheard.{IsUnheard}
use Rattle.completeness_laws.specs.Unshown.{AreOutputsUnshown}

-- at some entry the conversation with this slave ended, in this phase, with this cause
pub record EndedInPhase (sc : Scenario) (other : SlaveDesc) (log : List LogEntry) (s phase : ℕ) (cause : Cause) : Type 0 where
  pub is : IsSlaveOf (parties sc other) s
  pub later : List LogEntry
  pub sofar : List LogEntry
  pub entry : LogEntry
  pub split : reverse log ≡ later ++ entry ∷ sofar
  pub ends : EndsHere sc s cause entry sofar
  pub phase_is : (course_at (setup_from sc) sofar).phase ≡ phase

-- the slave that a report names ended in the phase and with the cause that it names
abbrev pub ReportedEnded : Type 0
ReportedEnded = (sc : Scenario) (other : SlaveDesc) → IsScenario sc → (log : List LogEntry) → MasterRun sc log → (id phase : ℕ) (cause : Cause) → (course_after sc log).report ≡ Some (reports.Failed id phase cause) → EndedInPhase sc other log id phase cause

-- where the master gave up waiting for an answer, the request had not come to the slave, or an answer to it had not come to the master
abbrev pub UnansweredWereUnheard : Type 0
UnansweredWereUnheard = (sc : Scenario) (other : SlaveDesc) → IsScenario sc → (log : List LogEntry) → IsRunInRounds sc other log → (s : ℕ) → IsSlaveOf (parties sc other) s → (q : ℕ) → (later sofar : List LogEntry) (e : LogEntry) → reverse log ≡ later ++ e ∷ sofar
    → EndsHere sc s (causes.NoAnswer q) e sofar → IsUnheard (parties sc other) s q sofar

-- where it gave up waiting for the outputs after a step, the slave had sent them, and they had not come to the master in all the turns that it waits for data
abbrev pub OutputsWereUnshown : Type 0
OutputsWereUnshown = (sc : Scenario) (other : SlaveDesc) → IsScenario sc → (log : List LogEntry) → IsRunInRounds sc other log → (s : ℕ) → IsSlaveOf (parties sc other) s → (k : ℕ) → (later sofar : List LogEntry) (e : LogEntry) → reverse log ≡ later ++ e ∷ sofar
    → EndsHere sc s (causes.DataMissing k) e sofar → AreOutputsUnshown sc other s k (e ∷ sofar)

-- where it gave up a slave that did not leave a state, the steps of the slave last so long
abbrev pub StuckWereBusy : Type 0
StuckWereBusy = (sc : Scenario) (other : SlaveDesc) → IsScenario sc → (log : List LogEntry) → IsRunInRounds sc other log → (s : ℕ) → IsSlaveOf (parties sc other) s → (q t : ℕ) → (later sofar : List LogEntry) (e : LogEntry) → reverse log ≡ later ++ e ∷ sofar
    → EndsHere sc s (causes.Stuck q t) e sofar → sc.limits.state_limit ≤ (slave_numbered sc other s).busy + 2
