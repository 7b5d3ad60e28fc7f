-- What the log of a master says of its conversations, on every network, honest or not. The logs have their newest entry first.
use Rattle.std.specs.Prelude.{◌≡◌, ℕ, ◌≤◌, true, Some, None, List, [], length, slice_get, reverse}
use Rattle.dcp_ends.specs.declared.entries.LogEntry.{LogEntry}
use Rattle.dcp_ends.specs.Logs.{same_address}
use Rattle.scenario.specs.declared.scenarios.Scenario.{Scenario}
use Rattle.master_spec.specs.declared.reports.Report.{Report}
use Rattle.master_spec.specs.declared.requests.Request.TheVariants.{AskState, AskError}
use Rattle.master_spec.specs.declared.setups.Slave.{Slave}
use Rattle.master_spec.specs.declared.setups.Setup.{Setup}
use Rattle.master_spec.specs.Jobs.{Job}
use Rattle.master_spec.specs.Setup.{setup_from, jobs_of}
use Rattle.master_spec.specs.Rules.{MasterRun}
use Rattle.master_spec.specs.Requests.{asks}
use Rattle.master_log_laws.specs.Index.Runs.{course_at, owed, IsRun}
use Rattle.master_log_laws.specs.Index.Index.{ReadBack, IsGoodJob}
use Rattle.master_log_laws.specs.Index.Follows.{mine, FollowsCourse}
use Rattle.master_log_laws.specs.Index.Late.{StandsByLog}

-- the slaves have addresses of their own, what they are asked reads back, and there is a run
pub record AreHeard (setup : Setup) : Type 0 where
  pub runs : 1 ≤ setup.runs
  pub apart : (i j : ℕ) (s t : Slave) → slice_get setup.slaves i ≡ Some s → slice_get setup.slaves j ≡ Some t → same_address s.address t.address ≡ true → i ≡ j
  pub state : (i : ℕ) (s : Slave) → slice_get setup.slaves i ≡ Some s → ReadBack s.id AskState
  pub error : (i : ℕ) (s : Slave) → slice_get setup.slaves i ≡ Some s → ReadBack s.id AskError
  pub jobs : (i : ℕ) (s : Slave) → slice_get setup.slaves i ≡ Some s → (k : ℕ) (job : Job) → slice_get (jobs_of setup s) k ≡ Some job → IsGoodJob (ReadBack s.id) job

-- up to the report the requests of the log are those that the marks tell, but for what is still to be sent
abbrev pub IndexUpToReport : Type 0
IndexUpToReport = (setup : Setup) → AreHeard setup → (log : List LogEntry) → IsRun setup log → (course_at setup log).report ≡ None
    → (i : ℕ) (slave : Slave) → slice_get setup.slaves i ≡ Some slave
    → FollowsCourse setup (ReadBack slave.id) i slave log (length log) (course_at setup log) (owed setup log) (asks setup.address slave log)

-- once there is a report they are the same, but for a late answer to the newest one, and nothing is still to be sent
abbrev pub IndexOnceReported : Type 0
IndexOnceReported = (setup : Setup) → AreHeard setup → (log : List LogEntry) → IsRun setup log → (report : Report) → (course_at setup log).report ≡ Some report
    → (i : ℕ) (slave : Slave) → slice_get setup.slaves i ≡ Some slave
    → StandsByLog setup i slave log (course_at setup log) (asks setup.address slave log) × (mine slave.address (owed setup log) ≡ [])

-- a log in which the master's entries are those of its rules, the oldest first, is one entry by entry, the newest first
abbrev pub RunsEntryByEntry : Type 0
RunsEntryByEntry = (sc : Scenario) (log : List LogEntry) → MasterRun sc log → IsRun (setup_from sc) (reverse log)
