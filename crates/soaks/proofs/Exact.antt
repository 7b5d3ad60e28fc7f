-- Few values of 64 bits have a sum of less than 128 bits.
use Rattle.std.proofs.Common.{◌≡◌, ℕ, ◌+◌, ◌*◌, ◌^◌, ◌<◌, List, [], ◌∷◌, length, ap, subst, ◌∙◌, arith}
use Rattle.std.specs.Prelude.{ℤ, ◌+ℤ◌, ◌≤ℤ◌, neg_ℤ, pos, negsuc, fold, All, FitsSigned}
use Rattle.std.specs.Int.{w128}
use Rattle.std.proofs.lemmas.Int.{int_wrap_fits, ints}
use Rattle.std.proofs.lemmas.List.{length-append}
use Rattle.std.proofs.lemmas.List.Elements.{All-append, All-head, All-nil, All-tail}
use Rattle.soaks.specs.Sums.{AreSummable, IsWord, sum_of_rows, row_values, whole_sum}

-- no farther from 0 than n values can bring it
record IsWithin (n : ℕ) (sum : ℤ) : Type 0 where
  pub low : neg_ℤ (pos (n * 2 ^ 64)) ≤ℤ sum
  pub high : sum ≤ℤ pos (n * 2 ^ 64)

one_more : (n : ℕ) (sum value : ℤ) → IsWithin n sum → IsWord value → IsWithin (n + 1) (sum +ℤ value)
one_more n sum value within word = record { low = omega (arith, ints, within.low, word.low); high = omega (arith, ints, within.high, word.high) }

all_within : (n : ℕ) (sum : ℤ) (values : List ℤ) → IsWithin n sum → All IsWord values → IsWithin (n + length values) (fold (λ a b. a +ℤ b) sum values)
all_within n sum [] within words = subst (λ (m : ℕ). IsWithin m sum) (omega arith) within
all_within n sum (value ∷ values) within words =
    let next : n + 1 + length values ≡ n + length (value ∷ values) = omega arith in
    let Is : ℕ → Type 0 = λ m. IsWithin m (fold (λ a b. a +ℤ b) (sum +ℤ value) values) in
    subst Is next (all_within (n + 1) (sum +ℤ value) values (one_more n sum value within (All-head IsWord value values words)) (All-tail IsWord value values words))

all_words : (rows : List (List ℤ)) → All (λ row. All IsWord row) rows → All IsWord (row_values rows)
all_words [] all = All-nil IsWord
all_words (row ∷ rows) all = All-append IsWord row (row_values rows) (All-head (λ row. All IsWord row) row rows all) (all_words rows (All-tail (λ row. All IsWord row) row rows all))

fits : (n : ℕ) (sum : ℤ) → n < 2 ^ 63 → IsWithin n sum → FitsSigned w128 sum
fits n (pos m) few within = record { sfits = omega (arith, ints, few, within.low, within.high) }
fits n (negsuc m) few within = record { sfits = omega (arith, ints, few, within.low, within.high) }

pub exact : (rows : List (List ℤ)) → AreSummable rows → sum_of_rows rows ≡ whole_sum rows
exact rows summable =
    let values = row_values rows in
    let start : IsWithin 0 (pos 0) = record { low = omega (arith, ints); high = omega (arith, ints) } in
    let count : 0 + length values ≡ length values = omega arith in
    let within : IsWithin (length values) (whole_sum rows) = subst (λ (n : ℕ). IsWithin n (whole_sum rows)) count (all_within 0 (pos 0) values start (all_words rows summable.words)) in
    int_wrap_fits w128 (whole_sum rows) (fits (length values) (whole_sum rows) summable.few within)

-- rows of one width have so many values
pub count_of_values : (width : ℕ) (rows : List (List ℤ)) → All (λ row. length row ≡ width) rows → length (row_values rows) ≡ length rows * width
count_of_values width [] all = omega arith
count_of_values width (row ∷ rows) all =
    let first : length row ≡ width = All-head (λ row. length row ≡ width) row rows all in
    let rest = count_of_values width rows (All-tail (λ row. length row ≡ width) row rows all) in
    let more : width + length rows * width ≡ length (row ∷ rows) * width = grind arith in
    length-append row (row_values rows) ∙ ap (λ (n : ℕ). n + length (row_values rows)) first ∙ ap (λ (n : ℕ). width + n) rest ∙ more
