-- What a call puts behind the text that a spool was given before.
use Rattle.std.specs.Prelude.{ℕ, List, ◌++◌, Option}
use Rattle.dcp_io.specs.Spools.{Spooled}
use Rattle.dcp_io.specs.Unwritten.{Unwritten}

-- a sink that told `was` and now tells `is`, with its counts of faults, and a spool before and after
module _ (was is : Option (List ℕ)) (before after : ℕ) (old new : Unwritten) where
  abbrev pub Puts : List ℕ → Type 0
  Puts piece = (first : Option (List ℕ)) (none : ℕ) (text : List ℕ) → Spooled first was none before text old → Spooled first is none after (text ++ piece) new
