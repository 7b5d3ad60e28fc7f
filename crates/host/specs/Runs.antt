-- Whole runs of a scenario.
use Rattle.std.specs.Prelude.{◌≡◌, ◌⊎◌, ℕ, ◌+◌, ◌≤◌, true, false, List, [], ◌++◌, None, Some}
use Rattle.dcp_ends.specs.declared.entries.LogEntry.{LogEntry}
use Rattle.master_spec.specs.Bound.{bound}
use Rattle.master_spec.specs.Setup.{setup_from}
use Rattle.rounds.specs.Rounds.{Rounds, IsRound, IsRoundPart, has_report}
use Rattle.dcp_io.specs.Faults.{Rose}
use Rattle.rounds.specs.declared.one_end.HostFault.{HostFault}
use Rattle.rounds.specs.declared.one_end.HostFault.TheVariants.{Net, OutOfMemory}
use Rattle.scenario.specs.declared.scenarios.Scenario.{Scenario}
use Rattle.host.specs.Hosting.{all_ends}
use Rattle.host.specs.Views.{HostView, master_in, slaves_in}
use Rattle.host.specs.declared.runs.Stopped.{Stopped}
use Rattle.host.specs.declared.runs.Stopped.TheVariants.{Unmade, Faulted}

-- a host whose network was opened, before the first round
pub record IsBegun (host : HostView) : Type 0 where
  pub master : host.hosted.master ≡ true
  pub log : host.log ≡ []
  pub fault : host.fault ≡ None

-- The log is a list of whole rounds of the hosted ends, at most the bound of the scenario. The master gives its report in the last of them.
pub record IsWhole (host : HostView) : Type 0 where
  pub before : List LogEntry
  pub last : List LogEntry
  pub count : ℕ
  pub form : host.log ≡ before ++ last
  pub rounds : Rounds (master_in host) (slaves_in host) count before
  pub going : has_report (master_in host) before ≡ false
  pub round : IsRound (master_in host) (slaves_in host) before last
  pub few : count + 1 ≤ bound (setup_from host.scenario)
  pub reported : has_report (master_in host) host.log ≡ true
  pub fault : host.fault ≡ None

-- The log is a list of whole rounds, and of the front of one more.
pub record IsCutShort (host : HostView) : Type 0 where
  pub count : ℕ
  pub before : List LogEntry
  pub part : List LogEntry
  pub rounds : Rounds (master_in host) (slaves_in host) count before
  pub form : host.log ≡ before ++ part
  pub front : (part ≡ []) ⊎ IsRoundPart (master_in host) (slaves_in host) before part

-- a fault of the network tells the count of faults that it rose to; where memory was wanting, the count stands still
abbrev pub CameFrom : HostFault → (before now : ℕ) → Type 0
CameFrom (Net count) before now = Rose before now × (count ≡ now)
CameFrom OutOfMemory before now = now ≡ before

-- A fault stopped the run of this scenario, and its host keeps it.
pub record IsStoppedRun (sc : Scenario) (before now : ℕ) (host : HostView) : Type 0 where
  pub scenario : host.scenario ≡ sc
  pub hosted : host.hosted ≡ all_ends
  pub cut : IsCutShort host
  pub fault : HostFault
  pub held : host.fault ≡ Some fault
  pub cause : CameFrom fault before now

-- what there is of a run that was stopped, where the network's count of faults was this before and is this now
abbrev pub StopsAt : Scenario → (before now : ℕ) → Stopped → Type 0
StopsAt sc before now Unmade = now ≡ before
StopsAt sc before now (Faulted host) = IsStoppedRun sc before now host
