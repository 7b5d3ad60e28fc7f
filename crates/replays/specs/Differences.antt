-- Where a log of hosted ends breaks off or differs from what they do.
use Rattle.std.specs.Prelude.{◌≡◌, ℕ, List, [], take, slice_get, Option, Some, true, Result, Ok, Err}
use Rattle.dcp_ends.specs.declared.entries.LogEntry.{LogEntry}
use Rattle.dcp_ends.specs.Events.{Rules}
use Rattle.rounds.specs.Rounds.{has_report, hosted}
use Rattle.replays.specs.declared.stops.Stop.{Stop}
use Rattle.replays.specs.declared.stops.Stop.TheVariants as stops
use Rattle.replays.specs.Expected.{AreRight, IsRight, expected_sends}

-- the entry at this place, from 0, may not come after those before it, and each of those may
pub record FirstDiffers (master : Option Rules) (slaves : List Rules) (entries : List LogEntry) (at : ℕ) : Type 0 where
  pub entry : LogEntry
  pub here : slice_get entries at ≡ Some entry
  pub before : AreRight master slaves (take at entries)
  pub differs : IsRight master slaves (take at entries) entry → ⊥

-- the master has its report, and no Sent is expected
pub record IsEnded (master : Option Rules) (slaves : List Rules) (entries : List LogEntry) : Type 0 where
  pub reported : has_report master entries ≡ true
  pub quiet : expected_sends (hosted master slaves) entries ≡ []

-- the entry at this place is the first that differs; or nothing differs, and the entries end before a report or while a Sent is expected
abbrev pub StopsReplayAt : Option Rules → List Rules → List LogEntry → Stop → Type 0
StopsReplayAt master slaves entries (stops.Differs at) = FirstDiffers master slaves entries at
StopsReplayAt master slaves entries stops.Unended = AreRight master slaves entries × (IsEnded master slaves entries → ⊥)

-- the entries are those of a run to its report; or they stop here
abbrev pub EndsReplay : {T : Type 0} → Option Rules → List Rules → List LogEntry → Result T Stop → Type 0
EndsReplay master slaves entries (Ok x) = AreRight master slaves entries × IsEnded master slaves entries
EndsReplay master slaves entries (Err stop) = StopsReplayAt master slaves entries stop
