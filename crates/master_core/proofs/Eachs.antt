-- Lists whose elements belong together, while a loop goes through one of them.
use Rattle.std.proofs.Common.{◌≡◌, ℕ, zero, suc, ◌+◌, ◌<◌, ◌≤◌, List, [], ◌∷◌, ◌++◌, map, take, length, get_or, set, refl, sym, ap, ◌∙◌, arith, append_assoc, append-nil, Bool, true, false, ◌&&◌}
use Rattle.std.specs.List.{list_all, flat_map}
use Rattle.std.proofs.lemmas.List.{take_all}
use Rattle.std.proofs.lemmas.List.Folds.{list_all_more, list_all_at}
use Rattle.master_core.specs.Each.{Each}

pub length_each : {A B : Type 0} (R : A → B → Type 0) (xs : List A) (ys : List B) → Each R xs ys → length xs ≡ length ys
length_each R [] [] e = refl
length_each R [] (y ∷ ys) e = absurd e
length_each R (x ∷ xs) [] e = absurd e
length_each R (x ∷ xs) (y ∷ ys) e = omega (arith, length_each R xs ys e.1)

-- the first so many belong together by P, the others by Q
abbrev pub Mixed : {A B : Type 0} → (P Q : A → B → Type 0) → ℕ → List A → List B → Type 0
Mixed P Q zero xs ys = Each Q xs ys
Mixed P Q (suc i) [] [] = Unit {0}
Mixed P Q (suc i) [] (y ∷ ys) = ⊥
Mixed P Q (suc i) (x ∷ xs) [] = ⊥
Mixed P Q (suc i) (x ∷ xs) (y ∷ ys) = P x y × Mixed P Q i xs ys

pub mixed_step : {A B : Type 0} (P Q : A → B → Type 0) (i : ℕ) (xs : List A) (ys : List B) (d x : A) → Mixed P Q i xs ys → i < length xs → ((y : B) → Q (get_or xs i d) y → P x y)
    → Mixed P Q (suc i) (set xs i x) ys
mixed_step P Q i [] ys d x m h f = absurd (omega (arith, h))
mixed_step P Q zero (a ∷ xs) [] d x m h f = absurd m
mixed_step P Q (suc i) (a ∷ xs) [] d x m h f = absurd m
mixed_step P Q zero (a ∷ xs) (b ∷ ys) d x m h f = (f b m.0, m.1)
mixed_step P Q (suc i) (a ∷ xs) (b ∷ ys) d x m h f = (m.0, mixed_step P Q i xs ys d x m.1 (omega (arith, h)) f)

-- what was sent up to a place
pub mixed_sent : {A B S : Type 0} (P Q : A → B → Type 0) (g : B → List S) (i : ℕ) (xs : List A) (ys : List B) (d : A) (base out new : List S) → Mixed P Q i xs ys → i < length xs
    → out ≡ base ++ flat_map g (take i ys) → ((y : B) → Q (get_or xs i d) y → new ≡ out ++ g y) → new ≡ base ++ flat_map g (take (suc i) ys)
mixed_sent P Q g i [] ys d base out new m h e f = absurd (omega (arith, h))
mixed_sent P Q g zero (a ∷ xs) [] d base out new m h e f = absurd m
mixed_sent P Q g (suc i) (a ∷ xs) [] d base out new m h e f = absurd m
mixed_sent {S = S} P Q g zero (a ∷ xs) (b ∷ ys) d base out new m h e f =
    let two : List S = g b in
    f b m.0 ∙ ap (λ (l : List S). l ++ two) (e ∙ append-nil base) ∙ ap (λ (l : List S). base ++ l) (sym (append-nil two))
mixed_sent {S = S} P Q g (suc i) (a ∷ xs) (b ∷ ys) d base out new m h e f =
    let first : List S = g b in
    let before : out ≡ (base ++ first) ++ flat_map g (take i ys) = e ∙ sym (append_assoc base first (flat_map g (take i ys))) in
    mixed_sent P Q g i xs ys d (base ++ first) out new m.1 (omega (arith, h)) before f ∙ append_assoc base first (flat_map g (take (suc i) ys))

pub mixed_all : {A B : Type 0} (P Q : A → B → Type 0) (n : ℕ) (xs : List A) (ys : List B) → Mixed P Q n xs ys → length xs ≤ n → Each P xs ys
mixed_all P Q zero [] [] m h = m
mixed_all P Q zero [] (y ∷ ys) m h = m
mixed_all P Q zero (x ∷ xs) ys m h = absurd (omega (arith, h))
mixed_all P Q (suc n) [] [] m h = m
mixed_all P Q (suc n) [] (y ∷ ys) m h = m
mixed_all P Q (suc n) (x ∷ xs) [] m h = m
mixed_all P Q (suc n) (x ∷ xs) (y ∷ ys) m h = (m.0, mixed_all P Q n xs ys m.1 (omega (arith, h)))

pub each_map : {A B C : Type 0} (R : A → C → Type 0) (f : B → C) (xs : List A) (ys : List B) → Each (λ x y. R x (f y)) xs ys → Each R xs (map f ys)
each_map R f [] [] e = e
each_map R f [] (y ∷ ys) e = e
each_map R f (x ∷ xs) [] e = e
each_map R f (x ∷ xs) (y ∷ ys) e = (e.0, each_map R f xs ys e.1)

pub length_mixed : {A B : Type 0} (P Q : A → B → Type 0) (n : ℕ) (xs : List A) (ys : List B) → Mixed P Q n xs ys → length xs ≡ length ys
length_mixed P Q zero xs ys m = length_each Q xs ys m
length_mixed P Q (suc n) [] [] m = refl
length_mixed P Q (suc n) [] (y ∷ ys) m = absurd m
length_mixed P Q (suc n) (x ∷ xs) [] m = absurd m
length_mixed P Q (suc n) (x ∷ xs) (y ∷ ys) m = omega (arith, length_mixed P Q n xs ys m.1)

pub each_at : {A B : Type 0} (R : A → B → Type 0) (i : ℕ) (xs : List A) (ys : List B) (d : A) (b : B) → Each R xs ys → i < length xs → R (get_or xs i d) (get_or ys i b)
each_at R i [] ys d b e h = absurd (omega (arith, h))
each_at R i (x ∷ xs) [] d b e h = absurd e
each_at R zero (x ∷ xs) (y ∷ ys) d b e h = e.0
each_at R (suc i) (x ∷ xs) (y ∷ ys) d b e h = each_at R i xs ys d b e.1 (omega (arith, h))

-- each passes a test as far as a loop has come
pub all_more : {A B : Type 0} (R : A → B → Type 0) (q : B → Bool) (i : ℕ) (xs : List A) (ys : List B) (d : A) (b : B) → Each R xs ys → i < length xs → list_all q (take i ys) ≡ true
    → ((y : B) → R (get_or xs i d) y → q y ≡ true) → list_all q (take (i + 1) ys) ≡ true
all_more R q i xs ys d b e h t f =
    let l : i < length ys = omega (arith, h, length_each R xs ys e) in
    list_all_more q ys i b l ∙ ap (λ (x : Bool). x && q (get_or ys i b)) t ∙ f (get_or ys i b) (each_at R i xs ys d b e h)

-- one does not pass it
pub all_stops : {A B : Type 0} (R : A → B → Type 0) (q : B → Bool) (i : ℕ) (xs : List A) (ys : List B) (d : A) (b : B) → Each R xs ys → i < length xs
    → ((y : B) → R (get_or xs i d) y → q y ≡ false) → list_all q ys ≡ false
all_stops R q i xs ys d b e h f =
    let l : i < length ys = omega (arith, h, length_each R xs ys e) in
    list_all_at q ys i b l (f (get_or ys i b) (each_at R i xs ys d b e h))

-- each does
pub all_done : {A B : Type 0} (R : A → B → Type 0) (q : B → Bool) (n : ℕ) (xs : List A) (ys : List B) → Each R xs ys → n ≡ length xs → list_all q (take n ys) ≡ true → list_all q ys ≡ true
all_done {B = B} R q n xs ys e h t = let l = length_each R xs ys e in ap (λ (l : List B). list_all q l) (sym (take_all n ys (omega arith))) ∙ t
