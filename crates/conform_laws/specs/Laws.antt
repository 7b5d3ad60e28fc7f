-- What holds of the logs of own slaves.
use Rattle.std.specs.Prelude.{ℕ, List, ◌++◌, Option}
use Rattle.dcp_ends.specs.declared.entries.LogEntry.{LogEntry}
use Rattle.dcp_ends.specs.Events.{Rules}
use Rattle.rounds.specs.Rounds.{IsRoundPart, Rounds}
use Rattle.rounds.specs.Told.{Follows, FollowsUpTo}
use Rattle.slave_spec.specs.declared.words.SlaveSetup.{SlaveSetup}
use Rattle.slave_spec.specs.Slaves.{slave_rules_from}
use Rattle.slave_spec.specs.Allowed.{Allowed, IsAllowedFront}
use Rattle.conform_laws.specs.Runs.{IsCutRun}

-- in a log of whole rounds the sends of an end stand right behind their events
abbrev pub RoundsAreCut : Type 0
RoundsAreCut = (master : Option Rules) (slaves : List Rules) (n : ℕ) (log : List LogEntry) (rules : Rules)
    → Rounds master slaves n log → Follows rules log → IsCutRun rules log

-- what a slave of the definitions sends at its events is what a slave may send whose model is not known
abbrev pub CutRunsAreAllowed : Type 0
CutRunsAreAllowed = (setup : SlaveSetup) (log : List LogEntry) → IsCutRun (slave_rules_from setup) log → Allowed setup.desc log

-- so each slave of the definitions that a log of whole rounds tells of is allowed
abbrev pub HostLogsAreAllowed : Type 0
HostLogsAreAllowed = (master : Option Rules) (slaves : List Rules) (n : ℕ) (log : List LogEntry) (setup : SlaveSetup)
    → Rounds master slaves n log → Follows (slave_rules_from setup) log → Allowed setup.desc log

-- and where a round was stopped, some allowed log begins with what there is
abbrev pub HostFrontsAreAllowed : Type 0
HostFrontsAreAllowed = (master : Option Rules) (slaves : List Rules) (n : ℕ) (before part : List LogEntry) (setup : SlaveSetup)
    → Rounds master slaves n before → IsRoundPart master slaves before part → FollowsUpTo (slave_rules_from setup) (before ++ part) → IsAllowedFront setup.desc (before ++ part)
