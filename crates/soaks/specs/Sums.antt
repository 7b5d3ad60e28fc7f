-- The sum of all values of all rows.
use Rattle.std.specs.Prelude.{◌^◌, ◌-◌, ◌<◌, ℤ, ◌+ℤ◌, ◌≤ℤ◌, pos, negsuc, List, All, fold, length}
use Rattle.std.specs.Int.{w128, int_wrap}
use Rattle.std.specs.List.{flat_map}

abbrev pub sum_of : List ℤ → ℤ
sum_of values = fold (λ a b. a +ℤ b) (pos 0) values

-- the values of all rows, one behind the other
abbrev pub row_values : List (List ℤ) → List ℤ
row_values rows = flat_map (λ row. row) rows

-- their sum, as the whole number that it is
abbrev pub whole_sum : List (List ℤ) → ℤ
whole_sum rows = sum_of (row_values rows)

-- The sum in two's complement of 128 bits.
abbrev pub sum_of_rows : List (List ℤ) → ℤ
sum_of_rows rows = int_wrap w128 (whole_sum rows)

-- a value of 64 bits, with a sign or without one
pub record IsWord (value : ℤ) : Type 0 where
  pub low : negsuc (2 ^ 63 - 1) ≤ℤ value
  pub high : value ≤ℤ pos (2 ^ 64 - 1)

-- rows of fewer than 2 ^ 63 values, each of 64 bits
pub record AreSummable (rows : List (List ℤ)) : Type 0 where
  pub words : All (λ row. All IsWord row) rows
  pub few : length (row_values rows) < 2 ^ 63

-- the code's own bookkeeping: a sum of 128 bits, and one value more
abbrev pub plus : ℤ → ℤ → ℤ
plus sum value = int_wrap w128 (sum +ℤ value)
