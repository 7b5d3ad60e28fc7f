-- Text on its way to a sink.
use Rattle.std.specs.Prelude.{ℕ, List, Bool}

-- what waits to be written, and whether a write has failed
pub record Unwritten : Type 0 where
  pub waits : List ℕ
  pub failed : Bool
