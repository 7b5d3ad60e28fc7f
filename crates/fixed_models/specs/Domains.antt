-- Which values are inputs.
use Rattle.std.specs.Prelude.{◌^◌, ◌-◌, ℤ, pos, negsuc, ◌≤ℤ◌}

-- a value of some data type
pub record IsInput (u : ℤ) : Type 0 where
  pub low : negsuc (2 ^ 63 - 1) ≤ℤ u
  pub high : u ≤ℤ pos (2 ^ 64 - 1)
