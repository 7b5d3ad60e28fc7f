-- How the master counts rows, on every network, honest or not. The logs have their newest entry first.
use Rattle.std.specs.Prelude.{◌≡◌, ℕ, ℤ, ◌+◌, ◌*◌, ◌%◌, ◌≤◌, ◌⊎◌, true, Some, None, List, [], ◌∷◌, ◌++◌, length, slice_get}
use Rattle.dcp_ends.specs.declared.entries.LogEntry.{LogEntry}
use Rattle.dcp_ends.specs.declared.entries.LogEntry.TheVariants.{Got}
use Rattle.dcp_types.specs.declared.addresses.Address.{Address}
use Rattle.dcp_ends.specs.Logs.{same_address}
use Rattle.master_spec.specs.declared.reports.Report.TheVariants as reports
use Rattle.master_spec.specs.declared.setups.Slave.{Slave}
use Rattle.master_spec.specs.declared.setups.Setup.{Setup}
use Rattle.master_spec.specs.News.{Brings, news_of}
use Rattle.master_spec.specs.Setup.{jobs_of}
use Rattle.master_spec.specs.Jobs.{Job}
use Rattle.master_spec.specs.Tasks.{task_row}
use Rattle.master_spec.specs.Course.{values_in}
use Rattle.master_log_laws.specs.Index.Runs.{course_at}

-- The outputs of a slave came under the number of a row, before the report and in the phase of that row.
pub record CameInPhase (setup : Setup) (slave : Slave) (row : ℕ) (payload : List ℕ) (log : List LogEntry) : Type 0 where
  pub later : List LogEntry
  pub earlier : List LogEntry
  pub at : Address
  pub from : Address
  pub bytes : List ℕ
  pub is : log ≡ later ++ Got at from bytes ∷ earlier
  pub own : same_address at setup.address ≡ true
  pub sender : same_address from slave.address ≡ true
  pub brings : news_of bytes ≡ Brings (row % 65536) slave.id payload
  pub unreported : (course_at setup earlier).report ≡ None
  pub before : ℕ
  pub phase_is : (course_at setup earlier).phase ≡ before + 1
  pub job : Job
  pub job_is : slice_get (jobs_of setup slave) before ≡ Some job
  pub row_is : task_row job.task ≡ Some row

-- the values of a row: of each slave, from a place on, those in its payload
abbrev pub values_by : (ℕ → List ℕ) → ℕ → List Slave → List ℤ
values_by part i [] = []
values_by part i (slave ∷ slaves) = values_in slave.types (part i) ++ values_by part (i + 1) slaves

-- one more row: of each slave what came in this phase under the row's number
pub record CountsRow (setup : Setup) (e : LogEntry) (log : List LogEntry) : Type 0 where
  pub part : ℕ → List ℕ
  pub came : (i : ℕ) (slave : Slave) → slice_get setup.slaves i ≡ Some slave → CameInPhase setup slave (length (course_at setup log).rows) (part i) (e ∷ log)
  pub is : (course_at setup (e ∷ log)).rows ≡ (course_at setup log).rows ++ values_by part 0 setup.slaves ∷ []

abbrev pub RowsGoOneByOne : Type 0
RowsGoOneByOne = (setup : Setup) → 1 ≤ setup.runs → (slave : Slave) → slice_get setup.slaves 0 ≡ Some slave → (e : LogEntry) (log : List LogEntry)
    → ((course_at setup (e ∷ log)).rows ≡ (course_at setup log).rows) ⊎ CountsRow setup e log

-- a finished run has a row for the first outputs of each run and for each of its steps
abbrev pub FinishedHasAllRows : Type 0
FinishedHasAllRows = (setup : Setup) → 1 ≤ setup.runs → (slave : Slave) → slice_get setup.slaves 0 ≡ Some slave → (log : List LogEntry) (steps : ℕ)
    → (course_at setup log).report ≡ Some (reports.Finished steps) → length (course_at setup log).rows ≡ setup.runs * (setup.steps + 1)
