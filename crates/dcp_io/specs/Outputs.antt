-- What was written of a text to a sink, where it tells its bytes, with its counts of faults before and now.
use Rattle.std.specs.Prelude.{◌≡◌, ℕ, List, ◌++◌, Option}
use Rattle.std.specs.Io.KnownBytes.{Appends}
use Rattle.dcp_io.specs.Faults.{Rose}
use Rattle.dcp_io.specs.declared.outputs.Delivery.{Delivery}
use Rattle.dcp_io.specs.declared.outputs.Delivery.TheVariants.{Whole, Cut}

module _ (old new : Option (List ℕ)) (before now : ℕ) where
  -- all of it, and no write failed
  abbrev pub WroteAll : List ℕ → Type 0
  WroteAll text = Appends old new text × (now ≡ before)

  -- a front of it, behind which a write failed
  abbrev pub WroteFront : List ℕ → Type 0
  WroteFront text = (front : List ℕ) × (rest : List ℕ) × (text ≡ front ++ rest) × Appends old new front × Rose before now

  abbrev pub Delivers : List ℕ → Delivery → Type 0
  Delivers text Whole = WroteAll text
  Delivers text Cut = WroteFront text
