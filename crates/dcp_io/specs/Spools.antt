-- What was written of a text that is put piece by piece.
use Rattle.std.specs.Prelude.{◌≡◌, ℕ, List, ◌++◌, Bool, true, false, Option}
use Rattle.std.specs.Io.KnownBytes.{Appends}
use Rattle.dcp_io.specs.Outputs.{WroteFront}
use Rattle.dcp_io.specs.Unwritten.{Unwritten}

-- a sink that held `old`, with its count of faults before, now holds `new`
module _ (old new : Option (List ℕ)) (before now : ℕ) where
  -- all that was put is written but for what waits; or a front of it, where a write failed
  abbrev pub SpooledIf : Bool → List ℕ → List ℕ → Type 0
  SpooledIf false text waits = (front : List ℕ) × (text ≡ front ++ waits) × Appends old new front × (now ≡ before)
  SpooledIf true text waits = WroteFront old new before now text

  -- the text was put
  abbrev pub Spooled : List ℕ → Unwritten → Type 0
  Spooled text spool = SpooledIf spool.failed text spool.waits
