-- What a command is given to judge: what it reads of the source, or the scenario that it makes by itself.
use Rattle.std.specs.Prelude.{◌≡◌, ℕ, List, Option, Some, None}
use Rattle.dcp_io.specs.Faults.{Rose}
use Rattle.soaks.specs.Texts.{soak_text}
use Rattle.commands.specs.declared.command_words.Command.{Command}
use Rattle.commands.specs.declared.inputs.Gathered.{Gathered}
use Rattle.commands.specs.declared.inputs.Gathered.TheVariants as gathered
use Rattle.commands.specs.CommandWords.{own_number}
use Rattle.commands.specs.Inputs.{TakesInput, TakesSome}
use Rattle.commands.specs.Limits.{limit_of}

-- what the source had left and has left, where it tells it
module _ (old new : Option (List ℕ)) where
  -- the input was taken from the source; or it is the text of this number's scenario, and the source is as it was
  abbrev pub TakesBy : (own : Option ℕ) → (limit : ℕ) → (input : List ℕ) → Type 0
  TakesBy None limit input = TakesInput limit old new input
  TakesBy (Some number) limit input = (input ≡ soak_text number) × (new ≡ old)

  -- no more was taken
  abbrev pub TakesSomeBy : (own : Option ℕ) → (limit : ℕ) → Type 0
  TakesSomeBy None limit = TakesSome limit old new
  TakesSomeBy (Some number) limit = new ≡ old

  abbrev pub TakesFor : Command → (input : List ℕ) → Type 0
  TakesFor command input = TakesBy (own_number command) (limit_of command) input

  abbrev pub TakesSomeFor : Command → Type 0
  TakesSomeFor command = TakesSomeBy (own_number command) (limit_of command)

  -- how the giving ended, with the source's counts of faults before and now
  abbrev pub GivesBy : (own : Option ℕ) → (limit before now : ℕ) → Gathered → Type 0
  GivesBy own limit before now (gathered.Bytes input) = TakesBy own limit input.items × TakesSomeBy own limit × (now ≡ before)
  GivesBy own limit before now gathered.Failed = TakesSomeBy own limit × Rose before now
  GivesBy own limit before now gathered.OutOfMemory = TakesSomeBy own limit × (now ≡ before)

-- the text of the number's scenario
abbrev pub IsSoakMade : (number : ℕ) → Gathered → Type 0
IsSoakMade number (gathered.Bytes input) = input.items ≡ soak_text number
IsSoakMade number gathered.Failed = ⊥
IsSoakMade number gathered.OutOfMemory = Unit {0}
