-- What the log of a failed run shows, on every network, honest or not.
use Rattle.std.specs.Prelude.{◌≡◌, ℕ, ◌+◌, Some, List, slice_get}
use Rattle.dcp_ends.specs.declared.entries.LogEntry.{LogEntry}
use Rattle.scenario.specs.Sound.{IsLimits}
use Rattle.master_spec.specs.declared.causes.Cause.{Cause}
use Rattle.master_spec.specs.declared.reports.Report.TheVariants as reports
use Rattle.master_spec.specs.declared.setups.Slave.{Slave}
use Rattle.master_spec.specs.declared.setups.Setup.{Setup}
use Rattle.master_spec.specs.Shown.{First}
use Rattle.master_log_laws.specs.Index.Runs.{course_at, IsRun}
use Rattle.master_log_laws.specs.Index.Laws.{AreHeard}

-- a setup of a scenario: its limits are in their ranges, its slaves are numbered from 1, and what they are asked is heard
pub record IsSetup (setup : Setup) : Type 0 where
  pub limits : IsLimits setup.limits
  pub numbered : (i : ℕ) (s : Slave) → slice_get setup.slaves i ≡ Some s → s.id ≡ i + 1
  pub heard : AreHeard setup

-- where the master reports a failure, the log, its newest entry first, shows it: this slave with this cause in this phase, and nothing of any lesser slave
abbrev pub FailedIsFirstOf : Type 0
FailedIsFirstOf = (setup : Setup) → IsSetup setup → (log : List LogEntry) → IsRun setup log → (id phase : ℕ) (cause : Cause) → (course_at setup log).report ≡ Some (reports.Failed id phase cause)
    → (slave : Slave) × ((slave.id ≡ id) × First setup log slave phase cause)
