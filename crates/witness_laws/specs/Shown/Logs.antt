-- What is said of each small log. Its oldest entry stands first here.
use Rattle.std.specs.Prelude.{◌≡◌, ℕ, ◌≤◌, Some, List, [], reverse}
use Rattle.dcp_ends.specs.Events.{Event}
use Rattle.dcp_ends.specs.declared.entries.LogEntry.{LogEntry}
use Rattle.dcp_ends.specs.Logs.{own_at, answered, events_at}
use Rattle.master_spec.specs.declared.causes.Cause.{Cause}
use Rattle.master_spec.specs.declared.reports.Report.{Report}
use Rattle.master_spec.specs.declared.reports.Report.TheVariants as reports
use Rattle.master_spec.specs.declared.setups.Slave.{Slave}
use Rattle.master_spec.specs.declared.setups.Setup.{Setup}
use Rattle.master_spec.specs.Rules.{master_rules_from}
use Rattle.master_spec.specs.Course.{course, master_turns}
use Rattle.master_spec.specs.Shown.{Shown, First}
use Rattle.master_spec.specs.Bound.{bound}

-- what came to the master, the newest first
abbrev pub heard_events : Setup → List LogEntry → List Event
heard_events setup log = reverse (events_at setup.address log)

-- A master has this log by its rules, and this report at its end, within the bound.
pub record IsMasterRun (setup : Setup) (log : List LogEntry) (report : Report) : Type 0 where
  pub by_rules : own_at setup.address log ≡ answered (master_rules_from setup) [] (events_at setup.address log)
  pub reported : (course setup (heard_events setup log)).report ≡ Some report
  pub in_time : master_turns setup (heard_events setup log) ≤ bound setup

-- A master has this log by its rules, and the log shows first what the master reports.
pub record TellsCause (setup : Setup) (log : List LogEntry) (slave : Slave) (phase : ℕ) (cause : Cause) : Type 0 where
  pub run : IsMasterRun setup log (reports.Failed slave.id phase cause)
  pub first : First setup (reverse log) slave phase cause

-- The log shows no other cause for the slave.
abbrev pub ShowsOnly : Setup → List LogEntry → Slave → ℕ → Cause → Type 0
ShowsOnly setup log slave phase cause = (p : ℕ) (other : Cause) → Shown setup (reverse log) slave p other → (p ≡ phase) × (other ≡ cause)

-- The log shows no cause at all for the slave.
abbrev pub ShowsNothing : Setup → List LogEntry → Slave → Type 0
ShowsNothing setup log slave = (p : ℕ) (cause : Cause) → Shown setup (reverse log) slave p cause → ⊥
