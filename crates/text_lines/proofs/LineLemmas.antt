-- Lines, one after another.
use Rattle.std.proofs.Common.{◌≡◌, ◌==◌, ℕ, ◌+◌, ◌<◌, ◌≤◌, Bool, List, [], ◌∷◌, length, take, drop, Some, None, cond, ltb, refl, ap, ◌∙◌, subst, arith}
use Rattle.std.specs.List.{slice_split, position_or_len, position}
use Rattle.std.specs.Str.Lines.{lines_of_parts, strip_carriage_return}
use Rattle.std.proofs.lemmas.List.Splits.{slice_split_first, slice_split_none, length-slice_split}
use Rattle.std.proofs.lemmas.List.Sums.{fails_before_first}
use Rattle.std.proofs.lemmas.Bool.Decides.{nat_tests}

-- a list of parts is never empty
more_parts : (front : List ℕ) (parts : List (List ℕ)) → 0 < length parts → lines_of_parts (front ∷ parts) ≡ strip_carriage_return front ∷ lines_of_parts parts
more_parts front [] some = absurd (omega arith)
more_parts front (x ∷ more) some = refl

-- the first line, where a line feed ends it
lines_first : (p : ℕ → Bool) (xs : List ℕ) → position_or_len p xs < length xs → lines_of_parts (slice_split p xs) ≡ strip_carriage_return (take (position_or_len p xs) xs) ∷ lines_of_parts (slice_split p (drop (position_or_len p xs + 1) xs))
lines_first p xs below =
    ap lines_of_parts (slice_split_first p xs 0 below) ∙ more_parts _ (slice_split p (drop (position_or_len p xs + 1) xs)) (omega (arith, length-slice_split p (drop (position_or_len p xs + 1) xs)))

found_at : (k n at : ℕ) → cond (ltb k n) (Some k) None ≡ Some at → (k < n) × (k ≡ at)
found_at k n at e = grind (arith, nat_tests)

not_found : (k n : ℕ) → cond (ltb k n) (Some k) None ≡ None → n ≤ k
not_found k n e = grind (arith, nat_tests)

pub first_line : (p : ℕ → Bool) (xs : List ℕ) (at : ℕ) → position p xs ≡ Some at → (at < length xs) × (lines_of_parts (slice_split p xs) ≡ strip_carriage_return (take at xs) ∷ lines_of_parts (slice_split p (drop (at + 1) xs)))
first_line p xs at e =
    let f = found_at (position_or_len p xs) (length xs) at e in (
      subst (λ (k : ℕ). k < length xs) f.1 f.0,
      subst (λ (k : ℕ). lines_of_parts (slice_split p xs) ≡ strip_carriage_return (take k xs) ∷ lines_of_parts (slice_split p (drop (k + 1) xs))) f.1 (lines_first p xs f.0),
    )

pub last_line : (p : ℕ → Bool) (xs : List ℕ) → position p xs ≡ None → lines_of_parts (slice_split p xs) ≡ cond (length xs == 0) [] (xs ∷ [])
last_line p xs e =
    let n = not_found (position_or_len p xs) (length xs) e in
    ap lines_of_parts (slice_split_none p xs (λ k d below. fails_before_first p xs k d (omega (arith, n))))
