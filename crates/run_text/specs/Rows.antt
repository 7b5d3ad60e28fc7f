-- The printed rows of a run.
use Rattle.std.specs.Prelude.{ℕ, ◌+◌, List, [], ◌∷◌, ◌++◌, ℤ, codes, decimal}
use Rattle.std.specs.List.{flat_map}
use Rattle.std.specs.Fmt.{signed_decimal}

-- a value behind a space
abbrev pub spaced_value : ℤ → List ℕ
spaced_value value = codes " " ++ signed_decimal value

-- a row: its number and its values
abbrev pub row_text : ℕ → List ℤ → List ℕ
row_text number values = decimal number ++ (flat_map spaced_value values ++ codes "\n")

-- rows in order, the first of which has this number
abbrev pub rows_text : ℕ → List (List ℤ) → List ℕ
rows_text first [] = []
rows_text first (row ∷ rows) = row_text first row ++ rows_text (first + 1) rows
