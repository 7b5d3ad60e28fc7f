-- Rows of one width that are stored one behind the other, and the row that is begun behind them.
use Rattle.std.specs.Prelude.{◌≡◌, ℕ, ◌*◌, List, map, take, drop, ℤ}
use Rattle.std.specs.List.{range_with_len}

-- the first rows of this width
abbrev pub cut : (width count : ℕ) → List ℤ → List (List ℤ)
cut width count values = map (λ i. take width (drop (i * width) values)) (range_with_len 0 count)

-- what stands behind the first rows of this width
abbrev pub behind_rows : (width count : ℕ) → List ℤ → List ℤ
behind_rows width count values = drop (count * width) values

-- a list of rows, each of this width, and the values so far of the row that is begun
pub record Grid : Type 0 where
  pub width : ℕ
  pub rows : List (List ℤ)
  pub begun : List ℤ

-- the finished rows are the same, whatever the row that is begun holds
pub record SameRows (before after : Grid) : Type 0 where
  pub width : after.width ≡ before.width
  pub rows : after.rows ≡ before.rows
