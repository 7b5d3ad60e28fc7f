-- One row of the pairs.
use Rattle.std.specs.Prelude.{ℕ, List, map}
use Rattle.std.specs.List.{range_with_len}
use Rattle.master_spec.specs.declared.pairs.Pair.{Pair}

-- the pairs of one first number
abbrev pub pairs_in_row : (x b n : ℕ) → List Pair
pairs_in_row x b n = map (λ y. record { from = x; to = y }) (range_with_len b n)
