-- A list, with a function applied to its first elements.
use Rattle.std.proofs.Common.{◌≡◌, ℕ, ◌<◌, List, [], ◌∷◌, ◌++◌, length, map, take, drop, set, get_or, zero, suc, refl, ap, arith}

abbrev pub mapped : {A : Type 0} → (A → A) → List A → ℕ → List A
mapped f xs i = map f (take i xs) ++ drop i xs

pub mapped-at : {A : Type 0} (f : A → A) (xs : List A) (i : ℕ) (d : A) → i < length xs → get_or (mapped f xs i) i d ≡ get_or xs i d
mapped-at f [] i d here = absurd (omega arith)
mapped-at f (x ∷ xs) zero d here = refl
mapped-at f (x ∷ xs) (suc i) d here = let there : i < length xs = omega arith in mapped-at f xs i d there

pub mapped-step : {A : Type 0} (f : A → A) (xs : List A) (i : ℕ) (d : A) → i < length xs → set (mapped f xs i) i (f (get_or xs i d)) ≡ mapped f xs (suc i)
mapped-step f [] i d here = absurd (omega arith)
mapped-step f (x ∷ xs) zero d here = refl
mapped-step f (x ∷ xs) (suc i) d here = let there : i < length xs = omega arith in ap (λ r. f x ∷ r) (mapped-step f xs i d there)
