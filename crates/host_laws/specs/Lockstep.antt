-- What a host of all ends of a scenario keeps to, where its network is honest.
use Rattle.std.specs.Prelude.{◌≡◌, ◌⊎◌, ℕ, true, List, [], ◌++◌, MatchOption}
use Rattle.dcp_ends.specs.declared.entries.LogEntry.{LogEntry}
use Rattle.log_spec.specs.Oldest.{Honest}
use Rattle.rounds.specs.Rounds.{Rounds, IsRoundPart}
use Rattle.slave_desc.specs.declared.descriptions.SlaveDesc.{SlaveDesc}
use Rattle.scenario.specs.Sound.{IsScenario, IsSlave}
use Rattle.run_laws.specs.Laws.{parties}
use Rattle.run_laws.specs.Headline.Headline.{KeepsToReference}
use Rattle.host.specs.Hosting.{is_hosted}
use Rattle.host.specs.Views.{HostView, master_in, slaves_in}

-- the scenario is sound, and its master and each of its slaves are hosted
pub record HostsAll (host : HostView) : Type 0 where
  pub sound : IsScenario host.scenario
  pub master : host.hosted.master ≡ true
  pub slaves : (s : ℕ) → IsSlave host.scenario.slaves s → is_hosted host.hosted s ≡ true

-- The log is a list of whole rounds, and after a fault the front of one more.
pub record IsInRounds (host : HostView) : Type 0 where
  pub count : ℕ
  pub before : List LogEntry
  pub part : List LogEntry
  pub rounds : Rounds (master_in host) (slaves_in host) count before
  pub form : host.log ≡ before ++ part
  pub front : MatchOption host.fault (part ≡ []) (λ _. (part ≡ []) ⊎ IsRoundPart (master_in host) (slaves_in host) before part)

-- Where the network delivers only what was sent, and nothing that is too old, the log keeps to the reference from its first moment to its last. What stands for slaves that are not there does not matter.
abbrev pub HostKeepsInStep : HostView → Type 0
HostKeepsInStep host = (other : SlaveDesc) → Honest (parties host.scenario other) host.log → KeepsToReference host.scenario other host.log
