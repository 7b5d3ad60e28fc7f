-- Which rows a data id is sent for. Rows of all runs stand in one list; a run has a row for its first outputs and one for each step.
use Rattle.std.specs.Prelude.{ℕ, zero, suc, ◌+◌, ◌*◌, ◌/◌, ◌%◌, ◌==◌, Bool}

-- how many ordinals an id with interval q has in a run
abbrev pub ordinals_in_run : (steps q : ℕ) → ℕ
ordinals_in_run steps q = steps / q + 1

-- the row of an ordinal
abbrev pub row_of_ordinal : (steps q j : ℕ) → ℕ
row_of_ordinal steps q j = j / ordinals_in_run steps q * (steps + 1) + q * (j % ordinals_in_run steps q)

-- the greatest ordinal whose row is not above a row
abbrev pub ordinal_at : (steps q row : ℕ) → ℕ
ordinal_at steps q row = row / (steps + 1) * ordinals_in_run steps q + row % (steps + 1) / q

-- whether a row is sent
abbrev pub is_sent_row : (steps q row : ℕ) → Bool
is_sent_row steps q row = row % (steps + 1) % q == 0

-- how many ordinals have a row below this one
abbrev pub ordinals_below : (steps q rows : ℕ) → ℕ
ordinals_below steps q zero = 0
ordinals_below steps q (suc row) = ordinal_at steps q row + 1
