-- Where nothing is lost or late, a run reports what the reference gives. The log has its oldest entry first.
use Rattle.std.specs.Prelude.{◌≡◌, ℕ, ◌+◌, ◌*◌, ◌≤◌, Option, Some, None, List, length, reverse, slice_get, ℤ}
use Rattle.dcp_types.specs.Codes.{fault_code}
use Rattle.dcp_ends.specs.declared.entries.LogEntry.{LogEntry}
use Rattle.slave_desc.specs.declared.descriptions.SlaveDesc.{SlaveDesc}
use Rattle.scenario.specs.declared.scenarios.Scenario.{Scenario}
use Rattle.scenario.specs.Sound.{IsScenario}
use Rattle.lockstep.specs.declared.references.RefFault.{RefFault}
use Rattle.lockstep.specs.Lockstep.{IsReference, row_index}
use Rattle.log_spec.specs.Log.{IsSlaveOf}
use Rattle.master_spec.specs.declared.causes.Cause.TheVariants as causes
use Rattle.master_spec.specs.declared.reports.Report.{Report}
use Rattle.master_spec.specs.declared.reports.Report.TheVariants as reports
use Rattle.master_spec.specs.declared.setups.Slave.{Slave}
use Rattle.master_spec.specs.declared.setups.Setup.{Setup}
use Rattle.master_spec.specs.Setup.{setup_from}
use Rattle.master_spec.specs.Exchanged.{IsIn}
use Rattle.master_log_laws.specs.Index.Runs.{course_at, IsRun}
use Rattle.master_log_laws.specs.Failures.Laws.{IsSetup}
use Rattle.run_laws.specs.Laws.{parties, IsRunInRounds}
use Rattle.completeness_laws.specs.Timely.{longest_wait, Roomy, Timely}
use Rattle.completeness_laws.specs.Reasons.{RetriesWait, WasQuiet}
use Rattle.completeness_laws.specs.StepPhases.{phase_of_step}

-- the run finished where the reference has no fault, and failed by the reference's fault, in the phase of its step, where it has one
abbrev pub ReportsEnd : Scenario → Option RefFault → Option Report → Type 0
ReportsEnd sc None report = report ≡ Some (reports.Finished sc.steps)
ReportsEnd sc (Some f) report = (q : ℕ) × (report ≡ Some (reports.Failed f.slave (phase_of_step sc.steps f.run f.step) (causes.Faulted q (fault_code f.code))))

pub record ReportsReference (sc : Scenario) (rows : List (List ℤ)) (fault : Option RefFault) (log : List LogEntry) : Type 0 where
  pub ends : ReportsEnd sc fault (course_at (setup_from sc) (reverse log)).report
  pub whole : (course_at (setup_from sc) (reverse log)).rows ≡ rows

-- a timely run of a roomy scenario reports what the reference gives
abbrev pub TimelyReportsReference : Type 0
TimelyReportsReference = (sc : Scenario) (other : SlaveDesc) → IsScenario sc → Roomy sc → (rows : List (List ℤ)) (fault : Option RefFault) → IsReference sc rows fault
    → (log : List LogEntry) → IsRunInRounds sc other log → Timely (setup_from sc) (reverse log) → ReportsReference sc rows fault log

-- ---- the rows at a failure

-- when the phase of a fault of the reference has begun, the rows before it are counted, and no more, on every network
abbrev pub RowsBeforeFault : Type 0
RowsBeforeFault = (setup : Setup) → 1 ≤ setup.runs → (slave : Slave) → slice_get setup.slaves 0 ≡ Some slave → (run step : ℕ) → 1 ≤ run → run ≤ setup.runs → step ≤ setup.steps → (log : List LogEntry)
    → (course_at setup log).phase ≡ phase_of_step setup.steps run step → length (course_at setup log).rows ≡ row_index setup.steps run step

-- ---- steps that are asked again

-- at the end of each run that has a report, on every network
abbrev pub StepsWait : Type 0
StepsWait = (setup : Setup) → IsSetup setup → (log : List LogEntry) → IsRun setup log → (report : Report) → (course_at setup log).report ≡ Some report → (slave : Slave) → IsIn setup slave → RetriesWait setup log slave

-- ---- slaves that are left alone

-- in a timely run in whole rounds, a slave that is asked again was left alone for no longer than the waits of the master
abbrev pub HeartsAreKept : Type 0
HeartsAreKept = (sc : Scenario) (other : SlaveDesc) → IsScenario sc → (log : List LogEntry) → IsRunInRounds sc other log → Timely (setup_from sc) (reverse log)
    → (s turns : ℕ) → IsSlaveOf (parties sc other) s → WasQuiet sc other s turns (reverse log) → turns ≤ longest_wait sc.limits + 3 * sc.limits.turn_limit + 4
