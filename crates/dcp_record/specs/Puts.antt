-- What a call puts behind the text that a spool was given before.
use Rattle.std.specs.Prelude.{ℕ, List, ◌++◌, Option, Result, Ok, Err}
use Rattle.dcp_io.specs.Outputs.{WroteAll, WroteFront}
use Rattle.dcp_io.specs.Spools.{Spooled}
use Rattle.dcp_io.specs.Unwritten.{Unwritten}
use Rattle.dcp_record.specs.declared.writers.SinkFault.{SinkFault}

-- a sink that told `was` and now tells `is`, with its counts of faults, and a spool before and after
module _ (was is : Option (List ℕ)) (before after : ℕ) (old new : Unwritten) where
  abbrev pub Puts : List ℕ → Type 0
  Puts piece = (first : Option (List ℕ)) (none : ℕ) (text : List ℕ) → Spooled first was none before text old → Spooled first is none after (text ++ piece) new

-- all of the text was written, or a front of it where the sink failed
abbrev pub Records : Option (List ℕ) → Option (List ℕ) → ℕ → ℕ → List ℕ → Result (Unit {0}) SinkFault → Type 0
Records was is before after text (Ok done) = WroteAll was is before after text
Records was is before after text (Err fault) = WroteFront was is before after text
