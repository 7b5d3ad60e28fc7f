-- What a replay answers.
use Rattle.std.specs.Prelude.{◌≡◌, ℕ, List, length, reverse, Some, Result, Ok, Err}
use Rattle.dcp_ends.specs.declared.entries.LogEntry.{LogEntry}
use Rattle.dcp_ends.specs.Logs.{events_at}
use Rattle.rounds.specs.Rounds.{hosted}
use Rattle.master_spec.specs.Course.{course}
use Rattle.master_spec.specs.Setup.{setup_from}
use Rattle.master_core.specs.Standing.{StandsAfter, core_setup}
use Rattle.scenario.specs.declared.scenarios.Scenario.{Scenario}
use Rattle.host.specs.declared.hosted.Hosted.{Hosted}
use Rattle.host.specs.Hosting.{master_of, slaves_of}
use Rattle.replays.specs.declared.faults.ReplayFault.{ReplayFault}
use Rattle.replays.specs.declared.faults.ReplayFault.TheVariants.{Differs, Unended, OutOfMemory}
use Rattle.replays.specs.declared.replays.Replayed.{Replayed}
use Rattle.replays.specs.declared.stops.Stop.{Stop}
use Rattle.replays.specs.declared.stops.Stop.TheVariants as stops
use Rattle.replays.specs.Differences.{FirstDiffers, IsEnded}
use Rattle.replays.specs.Expected.{AreRight}

-- Nothing differs and the entries end with a report; or an entry is the first that differs; or nothing differs, and the entries end before a report or while a Sent is expected.
abbrev pub Answers : {T : Type 0} → Scenario → Hosted → List LogEntry → Result T ReplayFault → Type 0
Answers sc hosted entries (Ok replayed) = AreRight (master_of sc hosted) (slaves_of sc hosted) entries × IsEnded (master_of sc hosted) (slaves_of sc hosted) entries
Answers sc hosted entries (Err (Differs at)) = FirstDiffers (master_of sc hosted) (slaves_of sc hosted) entries at
Answers sc hosted entries (Err (Unended count)) =
    (count ≡ length entries) × AreRight (master_of sc hosted) (slaves_of sc hosted) entries × (IsEnded (master_of sc hosted) (slaves_of sc hosted) entries → ⊥)
Answers sc hosted entries (Err OutOfMemory) = Unit {0}

-- the same of where going through so many entries stops
abbrev pub replay_fault : Stop → (count : ℕ) → ReplayFault
replay_fault (stops.Differs at) count = Differs at
replay_fault stops.Unended count = Unended count

-- the master of this scenario, after its events in the entries, with its report
pub record IsReplayed (sc : Scenario) (entries : List LogEntry) (replayed : Replayed) : Type 0 where
  pub stands : StandsAfter replayed.master (events_at sc.master entries)
  pub made : core_setup replayed.master ≡ setup_from sc
  pub report : (course (setup_from sc) (reverse (events_at sc.master entries))).report ≡ Some replayed.report
