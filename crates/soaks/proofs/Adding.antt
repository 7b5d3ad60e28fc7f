-- A sum of 128 bits that grows by a value or a row.
use Rattle.std.proofs.Common.{◌≡◌, ℕ, zero, suc, ◌+◌, ◌<◌, List, [], ◌∷◌, ◌++◌, length, take, get_or, refl, sym, ap, ◌∙◌, arith, append-nil, Some}
use Rattle.std.specs.Prelude.{ℤ, ◌+ℤ◌, pos, fold, slice_get}
use Rattle.std.specs.Int.{w128, int_wrap}
use Rattle.std.proofs.lemmas.Grind.{flat_map-append}
use Rattle.std.proofs.lemmas.Int.{int_wrap-add_left}
use Rattle.std.proofs.lemmas.List.{take_more}
use Rattle.std.proofs.lemmas.List.Sums.{fold-append}
use Rattle.soaks.specs.Sums.{plus, sum_of, row_values}

-- to wrap on the way changes nothing
wrapped : (a : ℤ) (values : List ℤ) → fold plus (int_wrap w128 a) values ≡ int_wrap w128 (fold (λ x y. x +ℤ y) a values)
wrapped a [] = refl
wrapped a (value ∷ values) = ap (λ (z : ℤ). fold plus z values) (int_wrap-add_left w128 a value) ∙ wrapped (a +ℤ value) values

nothing : int_wrap w128 (pos 0) ≡ pos 0
unfolding int_wrap
nothing = refl

pub all_is : (values : List ℤ) → fold plus (pos 0) values ≡ int_wrap w128 (sum_of values)
all_is values = ap (λ (z : ℤ). fold plus z values) (sym nothing) ∙ wrapped (pos 0) values

-- one value more
pub value_more : (sum : ℤ) (values : List ℤ) (i : ℕ) → i < length values → plus (fold plus sum (take i values)) (get_or values i (pos 0)) ≡ fold plus sum (take (i + 1) values)
value_more sum values i within =
    sym (fold-append plus sum (take i values) (get_or values i (pos 0) ∷ [])) ∙ ap (λ (l : List ℤ). fold plus sum l) (sym (take_more values i (pos 0) within))

taken_more : (rows : List (List ℤ)) (n : ℕ) (row : List ℤ) → slice_get rows n ≡ Some row → take n rows ++ row ∷ [] ≡ take (suc n) rows
taken_more [] n row e = absurd cc
taken_more (x ∷ rows) zero row e = let same : row ≡ x = cc in ap (λ (r : List ℤ). r ∷ []) same
taken_more (x ∷ rows) (suc n) row e = ap (λ (l : List (List ℤ)). x ∷ l) (taken_more rows n row e)

-- one row more
pub row_more : (sum : ℤ) (rows : List (List ℤ)) (n : ℕ) (row : List ℤ) → slice_get rows n ≡ Some row → fold plus (fold plus sum (row_values (take n rows))) row ≡ fold plus sum (row_values (take (n + 1) rows))
row_more sum rows n row e =
    let next : suc n ≡ n + 1 = omega arith in
    let whole : row_values (take n rows ++ row ∷ []) ≡ row_values (take n rows) ++ row =
    flat_map-append (λ (r : List ℤ). r) (take n rows) (row ∷ []) ∙ ap (λ (l : List ℤ). row_values (take n rows) ++ l) (append-nil row) in
    sym (fold-append plus sum (row_values (take n rows)) row)
    ∙ ap (λ (l : List ℤ). fold plus sum l) (sym whole)
    ∙ ap (λ (l : List (List ℤ)). fold plus sum (row_values l)) (taken_more rows n row e)
    ∙ ap (λ (m : ℕ). fold plus sum (row_values (take m rows))) next
