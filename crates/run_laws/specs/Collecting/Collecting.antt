-- How the master of a scenario collects its rows. The log has its newest entry first.
use Rattle.std.specs.Prelude.{Bool, true, false, Option, Some, None, List, map}
use Rattle.dcp_ends.specs.declared.entries.LogEntry.{LogEntry}
use Rattle.slave_desc.specs.declared.descriptions.SlaveDesc.{SlaveDesc}
use Rattle.scenario.specs.declared.scenarios.Scenario.{Scenario}
use Rattle.scenario.specs.Sound.{IsScenario}
use Rattle.master_spec.specs.declared.reports.Report.{Report}
use Rattle.master_spec.specs.declared.reports.Report.TheVariants as reports
use Rattle.master_spec.specs.Setup.{setup_from}
use Rattle.master_spec.specs.Course.{values_in}
use Rattle.master_log_laws.specs.Index.Runs.{course_at, IsRun}
use Rattle.lockstep_laws.specs.Models.Collecting.{Collector, Collects}
use Rattle.lockstep_laws.specs.Models.Scenarios.{slave_numbered}
use Rattle.slave_laws.specs.Data.Made.{parties, machines}
use Rattle.slave_laws.specs.Data.Whole.{slaves_asked}

abbrev pub is_finished : Option Report → Bool
is_finished None = false
is_finished (Some (reports.Finished steps)) = true
is_finished (Some (reports.Failed slave phase cause)) = false

-- The master's rows are those that it has counted. A slave shows its outputs to it under its own number as data id, one behind the other.
abbrev pub collector : Scenario → (other : SlaveDesc) → Collector
collector sc other = record {
  rows = λ log. (course_at (setup_from sc) log).rows;
  finished = λ log. is_finished (course_at (setup_from sc) log).report;
  watch = λ s. s;
  back = λ s payload. values_in (map (λ p. p.kind) (slave_numbered sc other s).outputs) payload;
}

abbrev pub MasterCollects : Type 0
MasterCollects = (sc : Scenario) (other : SlaveDesc) → IsScenario sc → (log : List LogEntry) → IsRun (setup_from sc) log
    → Collects (parties sc other) (slaves_asked sc other) (machines sc other) (collector sc other) log
