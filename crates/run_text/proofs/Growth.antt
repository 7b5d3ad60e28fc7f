-- Texts that are put piece by piece: a row value by value, and rows row by row.
use Rattle.std.proofs.Common.{◌≡◌, ℕ, ◌+◌, ◌<◌, List, [], ◌∷◌, ◌++◌, ℤ, pos, length, take, get_or, sym, ap, ◌∙◌, subst, append_assoc, zero, suc, Option, Some, arith}
use Rattle.std.specs.List.{flat_map}
use Rattle.std.specs.Prelude.{slice_get}
use Rattle.std.proofs.lemmas.List.{flat_map_more, take_more, append-nil}
use Rattle.dcp_io.specs.Spools.{Spooled}
use Rattle.dcp_io.specs.Unwritten.{Unwritten}
use Rattle.run_text.specs.Puts.{Puts}
use Rattle.run_text.specs.Rows.{spaced_value, row_text, rows_text}

-- one piece behind another
module _ (w0 w1 w2 : Option (List ℕ)) (f0 f1 f2 : ℕ) (s0 s1 s2 : Unwritten) (p q : List ℕ) where
  pub Puts-then : Puts w0 w1 f0 f1 s0 s1 p → Puts w1 w2 f1 f2 s1 s2 q → Puts w0 w2 f0 f2 s0 s2 (p ++ q)
  Puts-then a b = λ first none text h. let P : List ℕ → Type 0 = λ t. Spooled first w2 none f2 t s2 in subst P (append_assoc text p q) (b first none (text ++ p) (a first none text h))

-- one value more
pub value_more : (text number : List ℕ) (values : List ℤ) (i : ℕ) → i < length values
    → (text ++ (number ++ flat_map spaced_value (take i values))) ++ spaced_value (get_or values i (pos 0)) ≡ text ++ (number ++ flat_map spaced_value (take (i + 1) values))
value_more text number values i within =
    append_assoc text (number ++ flat_map spaced_value (take i values)) (spaced_value (get_or values i (pos 0)))
    ∙ ap (λ l. text ++ l) (flat_map_more spaced_value number (take i values) (get_or values i (pos 0)) ∙ ap (λ l. number ++ flat_map spaced_value l) (sym (take_more values i (pos 0) within)))

-- one row more
lines_more : (first n : ℕ) (rows : List (List ℤ)) (row : List ℤ) → slice_get rows n ≡ Some row → rows_text first (take n rows) ++ row_text (first + n) row ≡ rows_text first (take (suc n) rows)
lines_more first n [] row e = absurd cc
lines_more first zero (x ∷ xs) row e =
    let same : row ≡ x = cc in
    let P : ℕ → Type 0 = λ k. row_text k row ≡ row_text first x ++ [] in
    let at : first ≡ first + 0 = omega arith in
    subst P at (ap (λ r. row_text first r) same ∙ sym (append-nil (row_text first x)))
lines_more first (suc n) (x ∷ xs) row e =
    let at : first + suc n ≡ first + 1 + n = omega arith in
    append_assoc (row_text first x) (rows_text (first + 1) (take n xs)) (row_text (first + suc n) row)
    ∙ ap (λ l. row_text first x ++ l) (ap (λ k. rows_text (first + 1) (take n xs) ++ row_text k row) at ∙ lines_more (first + 1) n xs row e)

pub row_more : (text : List ℕ) (n : ℕ) (rows : List (List ℤ)) (row : List ℤ) → slice_get rows n ≡ Some row
    → (text ++ rows_text 0 (take n rows)) ++ row_text n row ≡ text ++ rows_text 0 (take (n + 1) rows)
row_more text n rows row e =
    let zero_at : 0 + n ≡ n = omega arith in
    let one_more : suc n ≡ n + 1 = omega arith in
    append_assoc text (rows_text 0 (take n rows)) (row_text n row)
    ∙ ap (λ l. text ++ l) (ap (λ k. rows_text 0 (take n rows) ++ row_text k row) (sym zero_at) ∙ lines_more 0 n rows row e ∙ ap (λ k. rows_text 0 (take k rows)) one_more)
