-- When the marks of a conversation were made: after which entries, in which turn, and in which phase.
use Rattle.std.specs.Prelude.{◌≡◌, ℕ, ◌+◌, ◌-◌, ◌<◌, ◌≤◌, ◌⊎◌, Bool, true, false, List, [], ◌∷◌, length, drop}
use Rattle.std.specs.List.{list_any}
use Rattle.dcp_ends.specs.declared.entries.LogEntry.{LogEntry}
use Rattle.master_spec.specs.declared.setups.Slave.{Slave}
use Rattle.master_spec.specs.declared.setups.Setup.{Setup}
use Rattle.master_spec.specs.Marks.{Mark, Begun, Asked, Again, Answered, Hinted, Brought, Turned, Ended, count, is_turn, is_begun}
use Rattle.master_spec.specs.Requests.{turns_before}
use Rattle.master_spec.specs.Exchanged.{Brings}
use Rattle.master_log_laws.specs.Index.Runs.{course_at}
use Rattle.master_log_laws.specs.Index.Index.{Placed, marks_of}

abbrev pub bit : Bool → ℕ
bit true = 1
bit false = 0

-- the turns of the master so far: in the first one phase 1 begins, and no mark of a turn is made
abbrev pub clock : List Mark → ℕ
clock marks = count is_turn marks + bit (list_any is_begun marks)

-- the phase after the entries before a place
abbrev pub phase_before : Setup → List LogEntry → ℕ → ℕ
phase_before setup log i = (course_at setup (drop (length log - i) log)).phase

-- the least place that the next mark may have: after an entry of its own, or right after a turn
abbrev pub next_after : ℕ → Mark → ℕ → ℕ
next_after place (Begun job) n = place
next_after place (Turned settled) n = place
next_after place (Ended cause) n = n
next_after place (Asked request) n = place + 1
next_after place Again n = place + 1
next_after place (Answered request answer) n = place + 1
next_after place Hinted n = place + 1
next_after place (Brought number payload) n = place + 1

abbrev pub next_place : List Placed → ℕ
next_place [] = 0
next_place (x ∷ xs) = next_after x.place x.mark (next_place xs)

-- a conversation ends at the place of what made it end
abbrev pub IsLaterMark : ℕ → Mark → ℕ → Type 0
IsLaterMark place (Ended cause) n = Unit {0}
IsLaterMark place (Begun job) n = n ≤ place
IsLaterMark place (Turned settled) n = n ≤ place
IsLaterMark place (Asked request) n = n ≤ place
IsLaterMark place Again n = n ≤ place
IsLaterMark place (Answered request answer) n = n ≤ place
IsLaterMark place Hinted n = n ≤ place
IsLaterMark place (Brought number payload) n = n ≤ place

-- a turn may end the phase in which it comes
abbrev pub IsOfPhase : Mark → (now counted : ℕ) → Type 0
IsOfPhase (Turned settled) now counted = Unit {0}
IsOfPhase (Ended cause) now counted = Unit {0}
IsOfPhase (Begun job) now counted = now ≡ counted
IsOfPhase (Asked request) now counted = now ≡ counted
IsOfPhase Again now counted = now ≡ counted
IsOfPhase (Answered request answer) now counted = now ≡ counted
IsOfPhase Hinted now counted = now ≡ counted
IsOfPhase (Brought number payload) now counted = now ≡ counted

-- where a mark tells of outputs, they came there
abbrev pub ThenBrings : Setup → List LogEntry → Slave → ℕ → Mark → Type 0
ThenBrings setup log slave place (Brought number payload) = Brings setup log slave number place
ThenBrings setup log slave place (Begun job) = Unit {0}
ThenBrings setup log slave place (Asked request) = Unit {0}
ThenBrings setup log slave place Again = Unit {0}
ThenBrings setup log slave place (Answered request answer) = Unit {0}
ThenBrings setup log slave place Hinted = Unit {0}
ThenBrings setup log slave place (Turned settled) = Unit {0}
ThenBrings setup log slave place (Ended cause) = Unit {0}

pub record IsDated (setup : Setup) (slave : Slave) (log : List LogEntry) (place : ℕ) (mark : Mark) (xs : List Placed) : Type 0 where
  pub later : IsLaterMark place mark (next_place xs)
  pub below : place ≤ length log
  pub turns : turns_before setup.address log place ≡ clock (mark ∷ marks_of xs)
  pub phase : IsOfPhase mark (phase_before setup log place) (count is_begun (mark ∷ marks_of xs))
  pub brings : ThenBrings setup log slave place mark

abbrev pub AreDated : Setup → Slave → List LogEntry → List Placed → Type 0
AreDated setup slave log [] = Unit {0}
AreDated setup slave log (x ∷ xs) = IsDated setup slave log x.place x.mark xs × AreDated setup slave log xs

-- the outputs that came at a place have their mark
abbrev pub IsBroughtBy : (number place : ℕ) → ℕ → Mark → Type 0
IsBroughtBy number place at m = (at ≡ place) × ((payload : List ℕ) × (m ≡ Brought number payload))

abbrev pub IsBroughtAt : (number place : ℕ) → List Placed → Type 0
IsBroughtAt number place [] = ⊥
IsBroughtAt number place (x ∷ xs) = IsBroughtBy number place x.place x.mark ⊎ IsBroughtAt number place xs

abbrev pub AllBrought : Setup → Slave → List LogEntry → (until : ℕ) → List Placed → Type 0
AllBrought setup slave log until xs = (number place : ℕ) → place < until → Brings setup log slave number place → IsBroughtAt number place xs

-- the marks of all entries before a place
pub record Dated (setup : Setup) (slave : Slave) (log : List LogEntry) (until : ℕ) (xs : List Placed) : Type 0 where
  pub low : next_place xs ≤ until
  pub below : until ≤ length log
  pub now : turns_before setup.address log until ≡ clock (marks_of xs)
  pub dates : AreDated setup slave log xs
  pub brought : AllBrought setup slave log until xs
