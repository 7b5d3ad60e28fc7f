-- What a log's calls do to the entries of a category, over the whole list of the calls.
use Rattle.std.specs.Prelude.{◌≡◌, ◌≤◌, ℕ, zero, suc, ◌+◌, ◌&&◌, ◌==◌, nat_lt, not, Bool, true, false, List, [], ◌∷◌, ◌++◌, map, filter, if◌then◌else◌}
use Rattle.slave_log.specs.declared.lines.LogLine.{LogLine}
use Rattle.slave_log.specs.Shelves.{Log, Shelf, empty, shelf, is_setting, log_configured, line, is_noted, noted, fetched, left}

pub data LogCall : Type 0 where
  Configure : (category level mode : ℕ) → LogCall
  Note : (category level code step : ℕ) → LogCall
  Fetch : (category most : ℕ) → LogCall

abbrev pub IsCategory : ℕ → Type 0
IsCategory category = (1 ≤ category) × (category ≤ 3)

-- an entry is noted in a category from 1 to 3, and a fetch is of such a one
abbrev pub AreCalls : List LogCall → Type 0
AreCalls [] = Unit {0}
AreCalls (Configure category level mode ∷ calls) = AreCalls calls
AreCalls (Note category level code step ∷ calls) = IsCategory category × AreCalls calls
AreCalls (Fetch category most ∷ calls) = IsCategory category × AreCalls calls

abbrev pub after_call : Log → LogCall → Log
after_call log (Configure category level mode) = if is_setting category level mode then log_configured log category level mode else log
after_call log (Note category level code step) = noted log category level code step
after_call log (Fetch category most) = left log category most

-- the log after these calls, the newest call first
abbrev pub after_calls : List LogCall → Log
after_calls [] = empty
after_calls (call ∷ calls) = after_call (after_calls calls) call

-- the entries of a category that were fetched, one fetch after the other
abbrev pub all_fetched : (category : ℕ) → List LogCall → List LogLine
all_fetched category [] = []
all_fetched category (Fetch other most ∷ calls) = if other == category then all_fetched category calls ++ fetched (after_calls calls) category most else all_fetched category calls
all_fetched category (call ∷ calls) = all_fetched category calls

-- An entry that was noted in mode 0, whether it was fetched, and how many further entries of its category were noted in mode 0 before that.
pub record LogFate : Type 0 where
  pub line : LogLine
  pub is_fetched : Bool
  pub further : ℕ

-- 64 further ones overwrite an entry
abbrev pub is_overwritten : LogFate → Bool
is_overwritten f = not (nat_lt f.further 64)

abbrev pub waits : LogFate → Bool
waits f = not f.is_fetched && nat_lt f.further 64

-- one more entry is noted behind those that were not fetched
abbrev pub one_further : LogFate → LogFate
one_further f = if f.is_fetched then f else record f { further = f.further + 1 }

abbrev pub just_noted : LogLine → LogFate
just_noted entry = record { line = entry; is_fetched = false; further = 0 }

-- the first so many of those that wait are fetched
abbrev pub with_fetched : ℕ → List LogFate → List LogFate
with_fetched zero log_fates = log_fates
with_fetched (suc most) [] = []
with_fetched (suc most) (f ∷ log_fates) = if waits f then record f { is_fetched = true } ∷ with_fetched most log_fates else f ∷ with_fetched (suc most) log_fates

-- an entry of this level is noted in mode 0
abbrev pub keeps : Shelf → ℕ → Bool
keeps s level = is_noted s level && not (s.mode == 1)

-- the entries of a category that were noted in mode 0, in order, each with what became of it
abbrev pub log_fates : (category : ℕ) → List LogCall → List LogFate
log_fates category [] = []
log_fates category (Note other level code step ∷ calls) =
    let s = shelf (after_calls calls) category in
    (if (other == category) && keeps s level then map one_further (log_fates category calls) ++ just_noted (line s.next category level code step) ∷ [] else log_fates category calls)
log_fates category (Fetch other most ∷ calls) = if other == category then with_fetched most (log_fates category calls) else log_fates category calls
log_fates category (call ∷ calls) = log_fates category calls

-- Nothing is lost and nothing comes twice: what was fetched and then what is kept are the entries noted in mode 0, in order, without the
-- overwritten ones.
abbrev pub KeepsAll : Type 0
KeepsAll = (category : ℕ) (calls : List LogCall) → IsCategory category → AreCalls calls
    → all_fetched category calls ++ (shelf (after_calls calls) category).kept ≡ map (λ f. f.line) (filter (λ f. not (is_overwritten f)) (log_fates category calls))
