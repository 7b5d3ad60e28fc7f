-- What the log of a finished run shows of all its steps, on every network, honest or not.
use Rattle.std.specs.Prelude.{◌≡◌, ℕ, Some, List, reverse}
use Rattle.dcp_ends.specs.declared.entries.LogEntry.{LogEntry}
use Rattle.scenario.specs.Sound.{IsScenario}
use Rattle.scenario.specs.declared.scenarios.Scenario.{Scenario}
use Rattle.master_spec.specs.declared.reports.Report.TheVariants as reports
use Rattle.master_spec.specs.Setup.{setup_from}
use Rattle.master_spec.specs.Rules.{MasterRun}
use Rattle.master_spec.specs.Exchanged.{AllExchanged}
use Rattle.master_log_laws.specs.Scenarios.Laws.{course_after}

-- where the master of a scenario reports that it has finished, its log has the whole exchange of every step with every slave, run by run. The log has its oldest entry first, that of the exchanges its newest
abbrev pub FinishedIsExchanged : Type 0
FinishedIsExchanged = (sc : Scenario) → IsScenario sc → (log : List LogEntry) → MasterRun sc log → (steps : ℕ) → (course_after sc log).report ≡ Some (reports.Finished steps) → AllExchanged (setup_from sc) (reverse log)
