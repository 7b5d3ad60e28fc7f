-- What the log of a finished run shows, on every network, honest or not. The log has its newest entry first.
use Rattle.std.specs.Prelude.{◌≡◌, ℕ, ◌-◌, ◌≤◌, Some, List, length, take, slice_get}
use Rattle.dcp_ends.specs.declared.entries.LogEntry.{LogEntry}
use Rattle.master_spec.specs.declared.reports.Report.TheVariants as reports
use Rattle.master_spec.specs.declared.setups.Slave.{Slave}
use Rattle.master_spec.specs.declared.setups.Setup.{Setup}
use Rattle.master_spec.specs.Setup.{jobs_of}
use Rattle.master_spec.specs.Jobs.{spine}
use Rattle.master_spec.specs.Requests.{asks, acked, phase_reached}
use Rattle.master_log_laws.specs.Index.Runs.{course_at, IsRun}
use Rattle.master_log_laws.specs.Index.Laws.{AreHeard}

-- a finished run had all its steps, and each slave acknowledged as many requests as its spine has
pub record IsFinished (setup : Setup) (log : List LogEntry) (steps : ℕ) : Type 0 where
  pub steps_are : steps ≡ setup.steps
  pub acknowledged : (i : ℕ) (slave : Slave) → slice_get setup.slaves i ≡ Some slave → acked (asks setup.address slave log) ≡ length (spine (jobs_of setup slave))

abbrev pub FinishedIsAcknowledged : Type 0
FinishedIsAcknowledged = (setup : Setup) → AreHeard setup → (log : List LogEntry) → IsRun setup log → (steps : ℕ) → (course_at setup log).report ≡ Some (reports.Finished steps) → IsFinished setup log steps

-- at every moment, once some slave has been asked a request of a phase, each slave has acknowledged as many requests as stand in its spine before that phase
abbrev pub PhasesAreBarriers : Type 0
PhasesAreBarriers = (setup : Setup) → AreHeard setup → (log : List LogEntry) → IsRun setup log → (i j : ℕ) (s t : Slave) → slice_get setup.slaves i ≡ Some s → slice_get setup.slaves j ≡ Some t
    → length (spine (take (phase_reached (jobs_of setup t) (asks setup.address t log) - 1) (jobs_of setup s))) ≤ acked (asks setup.address s log)
