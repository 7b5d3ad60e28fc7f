-- A host as contracts see it: its scenario, the ends that it hosts, its log and its fault. All else follows from these.
use Rattle.std.specs.Prelude.{◌≡◌, ℕ, ℤ, IfSome, Bool, MatchBool, MatchOption, length, reverse, List, Option, None, Some, Result, Ok, Err, if◌then◌else◌}
use Rattle.std.specs.List.{list_all}
use Rattle.dcp_ends.specs.declared.entries.LogEntry.{LogEntry}
use Rattle.dcp_ends.specs.Events.{Event, Rules}
use Rattle.dcp_ends.specs.Logs.{events_at}
use Rattle.rounds.specs.Rounds.{has_report}
use Rattle.rounds.specs.Steps.{without_turns}
use Rattle.rounds.specs.declared.one_end.HostFault.{HostFault}
use Rattle.scenario.specs.declared.scenarios.Scenario.{Scenario}
use Rattle.host.specs.declared.hosted.Hosted.{Hosted}
use Rattle.host.specs.declared.hosted.Progress.{Progress}
use Rattle.host.specs.declared.hosted.Progress.TheVariants.{Going, Done}
use Rattle.slave_spec.specs.declared.words.SlaveSetup as slave
use Rattle.master_spec.specs.declared.reports.Report.{Report}
use Rattle.master_spec.specs.Course.{Course, course}
use Rattle.master_spec.specs.Setup.{setup_from}
use Rattle.master_core.specs.Columns.{column_value}
use Rattle.slave_desc.specs.declared.descriptions.SlaveDesc.{SlaveDesc}
use Rattle.host.specs.Hosting.{hosted_slave, master_of, slave_setup, slaves_of}

pub record HostView : Type 0 where
  pub scenario : Scenario
  pub hosted : Hosted
  pub log : List LogEntry
  pub fault : Option HostFault

-- what the hosted master is made to do
abbrev pub master_in : HostView → Option Rules
master_in host = master_of host.scenario host.hosted

-- what the hosted slaves are made to do, in order
abbrev pub slaves_in : HostView → List Rules
slaves_in host = slaves_of host.scenario host.hosted

abbrev pub fault_of : {T : Type 0} → Result T HostFault → Option HostFault
fault_of (Ok x) = None
fault_of (Err fault) = Some fault

-- where the network tells its calls, they are the log without its turns
abbrev pub Tells : Option (List LogEntry) → List LogEntry → Type 0
Tells told log = IfSome told (λ calls. calls ≡ without_turns log)

abbrev pub rules_are_over : List LogEntry → Rules → Bool
rules_are_over log rules = rules.over (events_at rules.place log)

-- the hosted master has its report, or no master is hosted and each hosted slave is over
abbrev pub is_done : Option Rules → List Rules → List LogEntry → Bool
is_done None slaves log = list_all (rules_are_over log) slaves
is_done (Some master) slaves log = has_report (Some master) log

abbrev pub progress_of : Bool → Progress
progress_of done = if done then Done else Going

-- ---- what is read of the ends

-- what happened to the master, the newest first
abbrev pub course_in : HostView → Course
course_in host = course (setup_from host.scenario) (reverse (events_at host.scenario.master host.log))

abbrev pub report_in : HostView → Option Report
report_in host = if host.hosted.master then (course_in host).report else None

abbrev pub row_count_in : HostView → ℕ
row_count_in host = if host.hosted.master then length (course_in host).rows else 0

abbrev pub row_value : HostView → (k slave port : ℕ) → Option ℤ
row_value host k slave port = if host.hosted.master then column_value (setup_from host.scenario).slaves (course_in host).rows k slave port else None

-- what this gives of a slave and of all that happened to it
abbrev pub of_slave : {A : Type 0} → HostView → (slave.SlaveSetup → List Event → Option A) → Option SlaveDesc → Option A
of_slave host reading None = None
of_slave host reading (Some d) = reading (slave_setup host.scenario d) (events_at d.address host.log)

-- the same of the slave of a number, where it is hosted
abbrev pub slave_in : {A : Type 0} → HostView → (s : ℕ) → (slave.SlaveSetup → List Event → Option A) → Option A
slave_in host s reading = of_slave host reading (hosted_slave host.scenario host.hosted s)
