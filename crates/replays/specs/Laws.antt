-- What holds of all replays.
use Rattle.std.specs.Prelude.{◌≡◌, ℕ, List, ◌++◌, Option, Result, Ok, Err, false, true}
use Rattle.std.specs.List.{All}
use Rattle.dcp_ends.specs.declared.entries.LogEntry.{LogEntry}
use Rattle.dcp_ends.specs.Events.{Rules}
use Rattle.rounds.specs.Rounds.{IsRound, Rounds, has_report, hosted}
use Rattle.rounds.specs.Told.{Follows}
use Rattle.scenario.specs.declared.scenarios.Scenario.{Scenario}
use Rattle.scenario.specs.Sound.{IsScenario}
use Rattle.host.specs.declared.hosted.Hosted.{Hosted}
use Rattle.host.specs.Hosting.{master_of, slaves_of}
use Rattle.replays.specs.declared.faults.ReplayFault.{ReplayFault}
use Rattle.replays.specs.declared.faults.ReplayFault.TheVariants.{Differs, Unended, OutOfMemory}
use Rattle.replays.specs.declared.replays.Replayed.{Replayed}
use Rattle.replays.specs.Replays.{Answers}

-- whole rounds of these ends, in the last of which the master gives its report
pub record IsReported (master : Option Rules) (slaves : List Rules) (log : List LogEntry) : Type 0 where
  pub count : ℕ
  pub before : List LogEntry
  pub last : List LogEntry
  pub form : log ≡ before ++ last
  pub rounds : Rounds master slaves count before
  pub going : has_report master before ≡ false
  pub round : IsRound master slaves before last
  pub reported : has_report master log ≡ true

-- the log of a run of these ends of a scenario to the report: whole rounds, in which each end sends what its rules give
pub record IsRunLog (sc : Scenario) (h : Hosted) (log : List LogEntry) : Type 0 where
  pub reported : IsReported (master_of sc h) (slaves_of sc h) log
  pub follows : All (λ rules. Follows rules log) (hosted (master_of sc h) (slaves_of sc h))

-- it went to the report, unless memory ran out
abbrev pub WentThrough : Result Replayed ReplayFault → Type 0
WentThrough (Ok replayed) = Unit {0}
WentThrough (Err (Differs at)) = ⊥
WentThrough (Err (Unended count)) = ⊥
WentThrough (Err OutOfMemory) = Unit {0}

-- Whatever a replay of such a log answers, it went to the report.
abbrev pub RunsReplay : Type 0
RunsReplay = (sc : Scenario) (h : Hosted) (log : List LogEntry) → IsScenario sc → IsRunLog sc h log → (result : Result Replayed ReplayFault) → Answers sc h log result → WentThrough result

-- two answers are of one kind and name one place, unless memory ran out
abbrev pub SameAnswer : Result Replayed ReplayFault → Result Replayed ReplayFault → Type 0
SameAnswer (Err OutOfMemory) other = Unit {0}
SameAnswer (Ok replayed) (Err OutOfMemory) = Unit {0}
SameAnswer (Ok replayed) (Ok other) = Unit {0}
SameAnswer (Ok replayed) (Err (Differs at)) = ⊥
SameAnswer (Ok replayed) (Err (Unended count)) = ⊥
SameAnswer (Err (Differs at)) (Err OutOfMemory) = Unit {0}
SameAnswer (Err (Differs at)) (Ok other) = ⊥
SameAnswer (Err (Differs at)) (Err (Differs place)) = at ≡ place
SameAnswer (Err (Differs at)) (Err (Unended count)) = ⊥
SameAnswer (Err (Unended count)) (Err OutOfMemory) = Unit {0}
SameAnswer (Err (Unended count)) (Ok other) = ⊥
SameAnswer (Err (Unended count)) (Err (Differs at)) = ⊥
SameAnswer (Err (Unended count)) (Err (Unended number)) = count ≡ number

-- A trace has one answer.
abbrev pub OneAnswer : Type 0
OneAnswer = (sc : Scenario) (h : Hosted) (entries : List LogEntry) (one other : Result Replayed ReplayFault) → Answers sc h entries one → Answers sc h entries other → SameAnswer one other
