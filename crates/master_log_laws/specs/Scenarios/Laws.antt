-- What the log of a scenario's master shows, on every network, honest or not. The log has its oldest entry first.
use Rattle.std.specs.Prelude.{◌≡◌, ℕ, ◌-◌, ◌≤◌, Some, List, length, take, reverse}
use Rattle.dcp_ends.specs.declared.entries.LogEntry.{LogEntry}
use Rattle.dcp_ends.specs.Logs.{events_at}
use Rattle.scenario.specs.Sound.{IsScenario}
use Rattle.scenario.specs.declared.scenarios.Scenario.{Scenario}
use Rattle.master_spec.specs.declared.causes.Cause.{Cause}
use Rattle.master_spec.specs.declared.reports.Report.TheVariants as reports
use Rattle.master_spec.specs.declared.setups.Slave.{Slave}
use Rattle.master_spec.specs.Setup.{setup_from, jobs_of}
use Rattle.master_spec.specs.Jobs.{spine}
use Rattle.master_spec.specs.Course.{Course, course}
use Rattle.master_spec.specs.Rules.{MasterRun}
use Rattle.master_spec.specs.Requests.{asks, acked, phase_reached}
use Rattle.master_spec.specs.Exchanged.{IsIn}
use Rattle.master_spec.specs.Shown.{First}
use Rattle.master_log_laws.specs.Phases.Laws.{AreOneByOne}
use Rattle.master_log_laws.specs.Exchanges.Laws.{IsFinished}
use Rattle.master_log_laws.specs.Failures.Laws.{IsSetup}

-- where the master stands after a log
abbrev pub course_after : Scenario → List LogEntry → Course
course_after sc log = course (setup_from sc) (reverse (events_at sc.master log))

-- a sound scenario gives a setup whose requests read back, to slaves at addresses of their own
abbrev pub SetupsAreHeard : Type 0
SetupsAreHeard = (sc : Scenario) → IsScenario sc → IsSetup (setup_from sc)

-- where the master reports a failure, its log shows it: this slave with this cause in this phase, and nothing of any lesser slave
abbrev pub FailedIsFirst : Type 0
FailedIsFirst = (sc : Scenario) → IsScenario sc → (log : List LogEntry) → MasterRun sc log → (id phase : ℕ) (cause : Cause) → (course_after sc log).report ≡ Some (reports.Failed id phase cause)
    → (slave : Slave) × ((slave.id ≡ id) × First (setup_from sc) (reverse log) slave phase cause)

-- the master asks each slave one request after the other, each once the one before is decided
abbrev pub RunRequestsGoOneByOne : Type 0
RunRequestsGoOneByOne = (sc : Scenario) → IsScenario sc → (log : List LogEntry) → MasterRun sc log → (slave : Slave) → IsIn (setup_from sc) slave → AreOneByOne (asks sc.master slave (reverse log))

-- where the master reports that it has finished, it had all steps of the scenario, and each slave acknowledged as many requests as its spine has
abbrev pub RunFinishIsAcknowledged : Type 0
RunFinishIsAcknowledged = (sc : Scenario) → IsScenario sc → (log : List LogEntry) → MasterRun sc log → (steps : ℕ) → (course_after sc log).report ≡ Some (reports.Finished steps)
    → IsFinished (setup_from sc) (reverse log) steps

-- once some slave has been asked a request of a phase, each slave has acknowledged as many requests as stand in its spine before that phase
abbrev pub RunPhasesAreBarriers : Type 0
RunPhasesAreBarriers = (sc : Scenario) → IsScenario sc → (log : List LogEntry) → MasterRun sc log → (s t : Slave) → IsIn (setup_from sc) s → IsIn (setup_from sc) t
    → length (spine (take (phase_reached (jobs_of (setup_from sc) t) (asks sc.master t (reverse log)) - 1) (jobs_of (setup_from sc) s))) ≤ acked (asks sc.master s (reverse log))
