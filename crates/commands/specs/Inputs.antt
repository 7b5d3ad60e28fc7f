-- What is taken of a source, where it tells its bytes.
use Rattle.std.specs.Prelude.{◌≡◌, ℕ, ◌+◌, ◌≤◌, List, length, take, drop, Option, Some, None}
use Rattle.std.specs.Io.KnownBytes.{Consumes}
use Rattle.dcp_io.specs.Faults.{Rose}
use Rattle.commands.specs.declared.inputs.Gathered.{Gathered}
use Rattle.commands.specs.declared.inputs.Gathered.TheVariants as gathered

-- the input is what was left, but no more than one byte past the limit, and what follows it is left now
abbrev pub TakesInput : (limit : ℕ) → Option (List ℕ) → Option (List ℕ) → List ℕ → Type 0
TakesInput limit None new input = Unit {0}
TakesInput limit (Some all) new input = (input ≡ take (limit + 1) all) × (new ≡ Some (drop (limit + 1) all))

-- some bytes were taken, and none past that one
abbrev pub TakesSome : (limit : ℕ) → Option (List ℕ) → Option (List ℕ) → Type 0
TakesSome limit old new = (taken : List ℕ) × (length taken ≤ limit + 1) × Consumes old new taken

-- how the reading of an input ended, with the counts of faults before and now
module _ (limit : ℕ) (old new : Option (List ℕ)) (before now : ℕ) where
  abbrev pub Gathers : Gathered → Type 0
  Gathers (gathered.Bytes input) = TakesInput limit old new input.items × TakesSome limit old new × (now ≡ before)
  Gathers gathered.Failed = TakesSome limit old new × Rose before now
  Gathers gathered.OutOfMemory = TakesSome limit old new × (now ≡ before)
