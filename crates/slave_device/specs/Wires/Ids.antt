-- Where an id stands in an ascending list of ids, or where it would be put.
use Rattle.std.specs.Prelude.{◌≡◌, ℕ, ◌≤◌, ◌<◌, List, length, slice_index, Result, MatchResult}

-- all ids before the place are smaller
pub record IsBehindSmaller (ids : List ℕ) (id i : ℕ) : Type 0 where
  pub within : i ≤ length ids
  pub front : (k : ℕ) → k < i → slice_index ids k < id

pub record IsThere (ids : List ℕ) (id i : ℕ) : Type 0 where
  pub behind : IsBehindSmaller ids id i
  pub within : i < length ids
  pub same : slice_index ids i ≡ id

pub record IsPlaceFor (ids : List ℕ) (id i : ℕ) : Type 0 where
  pub behind : IsBehindSmaller ids id i
  pub greater : i < length ids → id < slice_index ids i

abbrev pub IsFound : List ℕ → ℕ → Result ℕ ℕ → Type 0
IsFound ids id result = MatchResult result (IsThere ids id) (IsPlaceFor ids id)
