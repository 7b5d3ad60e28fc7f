-- A list whose elements were all written.
use Rattle.std.proofs.Common.{◌≡◌, ℕ, ◌≤◌, List, ◌++◌, take, drop, length, ap, ◌∙◌, arith, append-nil}
use Rattle.std.proofs.lemmas.List.{take_all, drop_all}

pub take_back : {A : Type 0} (n : ℕ) (xs old : List A) → length xs ≡ length old → length old ≤ n → take n (xs ++ drop (length xs) old) ≡ xs
take_back {A} n xs old same h =
    ap (λ (l : List A). take n (xs ++ l)) (drop_all (length xs) old (omega (arith, same))) ∙ ap (λ (l : List A). take n l) (append-nil xs) ∙ take_all n xs (omega (arith, same, h))
