-- What is said of the runs. Their logs have the oldest entry first.
use Rattle.std.specs.Prelude.{◌≡◌, ℕ, ◌≤◌, Option, Some, List, reverse, length, slice_get, ℤ}
use Rattle.dcp_ends.specs.declared.entries.LogEntry.{LogEntry}
use Rattle.slave_desc.specs.declared.descriptions.SlaveDesc.{SlaveDesc}
use Rattle.scenario.specs.declared.scenarios.Scenario.{Scenario}
use Rattle.lockstep.specs.declared.references.RefFault.{RefFault}
use Rattle.master_spec.specs.declared.reports.Report.{Report}
use Rattle.master_spec.specs.declared.setups.Slave.{Slave}
use Rattle.master_spec.specs.Setup.{setup_from}
use Rattle.master_spec.specs.Requests.{Asking, asks}
use Rattle.master_spec.specs.Exchanged.{IsIn}
use Rattle.master_log_laws.specs.Index.Runs.{course_at}
use Rattle.run_laws.specs.Laws.{IsRunInRounds}
use Rattle.completeness_laws.specs.Timely.{Timely}

-- all ends keep to their rules in whole rounds, and the network is honest; whatever stands for slaves that are not there
abbrev pub RunsInRounds : Scenario → List LogEntry → Type 0
RunsInRounds sc log = (other : SlaveDesc) → IsRunInRounds sc other log

-- the master's report at the end, and its rows
pub record EndsWithReport (sc : Scenario) (log : List LogEntry) (report : Report) (rows : List (List ℤ)) : Type 0 where
  pub reported : (course_at (setup_from sc) (reverse log)).report ≡ Some report
  pub rows_are : (course_at (setup_from sc) (reverse log)).rows ≡ rows

-- everything comes in time
abbrev pub IsTimelyRun : Scenario → List LogEntry → Type 0
IsTimelyRun sc log = Timely (setup_from sc) (reverse log)

abbrev pub IsNoTimelyRun : Scenario → List LogEntry → Type 0
IsNoTimelyRun sc log = IsTimelyRun sc log → ⊥

-- a request was sent again
pub record AsksTwice (sc : Scenario) (log : List LogEntry) : Type 0 where
  pub slave : Slave
  pub asked : IsIn (setup_from sc) slave
  pub place : ℕ
  pub request : Asking
  pub is : slice_get (asks sc.master slave (reverse log)) place ≡ Some request
  pub again : 1 ≤ length request.repeats
