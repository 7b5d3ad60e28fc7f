-- What holds of each element of a list, and of each two, by recursion on the list.
use Rattle.std.proofs.Common.{◌≡◌, ℕ, zero, suc, ◌+◌, ◌<◌, ◌≤◌, Bool, true, false, cond, eqb, List, [], ◌∷◌, ◌++◌, length, map, refl, sym, subst, arith}
use Rattle.std.specs.Prelude.{◌&&◌, All, AllPairs, filter}
use Rattle.std.specs.List.{AllByRecursion, IsDistinct, flat_map, list_any}
use Rattle.std.proofs.lemmas.Bool.{eqb-true}
use Rattle.std.proofs.lemmas.List.Elements.{recursion_from_All}
use Rattle.std.proofs.lemmas.Map.Steps.{length-le_from_distinct_below}

-- a test is passed or not
pub by_test : {P : Type 0} → (b : Bool) → (b ≡ true → P) → (b ≡ false → P) → P
by_test true f g = f refl
by_test false f g = g refl

pub left : (a b : Bool) → (a && b) ≡ true → a ≡ true
left true b h = refl
left false b h = h

pub right : (a b : Bool) → (a && b) ≡ true → b ≡ true
right true b h = h
right false b h = absurd cc

-- R holds of each element and each later one
abbrev pub Pairwise : {X : Type 0} → (X → X → Type 0) → List X → Type 0
Pairwise R [] = Unit {0}
Pairwise R (x ∷ xs) = AllByRecursion (R x) xs × Pairwise R xs

-- ---- each element

pub each_weaker : {X : Type 0} (P Q : X → Type 0) → ((x : X) → P x → Q x) → (xs : List X) → AllByRecursion P xs → AllByRecursion Q xs
each_weaker P Q f [] h = tt
each_weaker P Q f (x ∷ xs) h = (f x h.0, each_weaker P Q f xs h.1)

pub each_both : {X : Type 0} (P Q S : X → Type 0) → ((x : X) → P x → Q x → S x) → (xs : List X) → AllByRecursion P xs → AllByRecursion Q xs → AllByRecursion S xs
each_both P Q S f [] h k = tt
each_both P Q S f (x ∷ xs) h k = (f x h.0 k.0, each_both P Q S f xs h.1 k.1)

pub each_always : {X : Type 0} (P : X → Type 0) → ((x : X) → P x) → (xs : List X) → AllByRecursion P xs
each_always P f [] = tt
each_always P f (x ∷ xs) = (f x, each_always P f xs)

pub each_append : {X : Type 0} (P : X → Type 0) (xs ys : List X) → AllByRecursion P xs → AllByRecursion P ys → AllByRecursion P (xs ++ ys)
each_append P [] ys h k = k
each_append P (x ∷ xs) ys h k = (h.0, each_append P xs ys h.1 k)

pub each_filter : {X : Type 0} (P : X → Type 0) (p : X → Bool) (xs : List X) → AllByRecursion P xs → AllByRecursion P (filter p xs)
each_filter P p [] h = tt
each_filter P p (x ∷ xs) h =
    elim (p x) as (λ b. AllByRecursion P (cond b (x ∷ filter p xs) (filter p xs))) [
      | true ↦ (h.0, each_filter P p xs h.1)
      | false ↦ each_filter P p xs h.1
    ]

pub each_passes : {X : Type 0} (p : X → Bool) (xs : List X) → AllByRecursion (λ x. p x ≡ true) (filter p xs)
each_passes p [] = tt
each_passes p (x ∷ xs) =
    by_test (p x)
    (λ e. rw e (e, each_passes p xs))
    (λ e. rw e (each_passes p xs))

pub each_map : {X Y : Type 0} (P : Y → Type 0) (f : X → Y) (xs : List X) → AllByRecursion (λ x. P (f x)) xs → AllByRecursion P (map f xs)
each_map P f [] h = tt
each_map P f (x ∷ xs) h = (h.0, each_map P f xs h.1)

pub each_flat_map : {X Y : Type 0} (P : Y → Type 0) (f : X → List Y) (xs : List X) → AllByRecursion (λ x. AllByRecursion P (f x)) xs → AllByRecursion P (flat_map f xs)
each_flat_map P f [] h = tt
each_flat_map P f (x ∷ xs) h = each_append P (f x) (flat_map f xs) h.0 (each_flat_map P f xs h.1)

-- ---- each two

pub pairwise_weaker : {X : Type 0} (P : X → Type 0) (R S : X → X → Type 0) → ((x y : X) → P x → P y → R x y → S x y) → (xs : List X) → AllByRecursion P xs → Pairwise R xs → Pairwise S xs
pairwise_weaker P R S f [] h k = tt
pairwise_weaker P R S f (x ∷ xs) h k = (each_both P (R x) (S x) (λ y. f x y h.0) xs h.1 k.0, pairwise_weaker P R S f xs h.1 k.1)

pub pairwise_append : {X : Type 0} (R : X → X → Type 0) (xs ys : List X) → Pairwise R xs → Pairwise R ys → AllByRecursion (λ x. AllByRecursion (R x) ys) xs → Pairwise R (xs ++ ys)
pairwise_append R [] ys h k l = k
pairwise_append R (x ∷ xs) ys h k l = (each_append (R x) xs ys h.0 l.0, pairwise_append R xs ys h.1 k l.1)

pub pairwise_filter : {X : Type 0} (R : X → X → Type 0) (p : X → Bool) (xs : List X) → Pairwise R xs → Pairwise R (filter p xs)
pairwise_filter R p [] h = tt
pairwise_filter R p (x ∷ xs) h =
    elim (p x) as (λ b. Pairwise R (cond b (x ∷ filter p xs) (filter p xs))) [
      | true ↦ (each_filter (R x) p xs h.0, pairwise_filter R p xs h.1)
      | false ↦ pairwise_filter R p xs h.1
    ]

pub pairwise_map : {X Y : Type 0} (R : Y → Y → Type 0) (f : X → Y) (xs : List X) → Pairwise (λ x y. R (f x) (f y)) xs → Pairwise R (map f xs)
pairwise_map R f [] h = tt
pairwise_map R f (x ∷ xs) h = (each_map (R (f x)) f xs h.0, pairwise_map R f xs h.1)

-- numbers that ascend between two bounds are few
pub few_between : {X : Type 0} (f : X → ℕ) (xs : List X) (a n : ℕ) → Pairwise (λ x y. f x < f y) xs → AllByRecursion (λ x. (a ≤ f x) × (f x < a + n)) xs → length xs ≤ n
few_between f [] a n h k = omega arith
few_between f (x ∷ xs) a zero h k = absurd (omega (arith, k.0.0, k.0.1))
few_between f (x ∷ xs) a (suc n) h k =
    let rest : AllByRecursion (λ y. (a + 1 ≤ f y) × (f y < (a + 1) + n)) xs =
    each_both (λ y. f x < f y) (λ y. (a ≤ f y) × (f y < a + suc n)) (λ y. (a + 1 ≤ f y) × (f y < (a + 1) + n)) (λ y less in'. (omega (arith, less, k.0.0), omega (arith, in'.1))) xs h.0 k.1 in
    omega (arith, few_between f xs (a + 1) n h.1 rest)

-- numbers that differ and lie below a bound are few
pub differ_below : (xs : List ℕ) → Pairwise (λ x y. eqb x y ≡ false) xs → IsDistinct eqb xs
unfolding IsDistinct
differ_below [] h = tt
differ_below (x ∷ xs) h = (h.0, differ_below xs h.1)

-- what each number of a list meets, a number that is found in it meets
pub each_found : (P : ℕ → Type 0) (xs : List ℕ) → AllByRecursion P xs → (q : ℕ) → list_any (eqb q) xs ≡ true → P q
each_found P [] h q e = absurd cc
each_found P (x ∷ xs) h q e =
    by_test (eqb q x)
    (λ t. subst P (sym (eqb-true q x t)) h.0)
    (λ t. each_found P xs h.1 q (rw t at e))

pub few_below : (xs : List ℕ) (n : ℕ) → Pairwise (λ x y. eqb x y ≡ false) xs → AllByRecursion (λ x. x < n) xs → length xs ≤ n
few_below xs n h k = length-le_from_distinct_below xs n (differ_below xs h) (each_found (λ x. x < n) xs k)

-- ---- by places

pub each_from_all : {X : Type 0} (P : X → Type 0) (xs : List X) → All P xs → AllByRecursion P xs
each_from_all P xs h = recursion_from_All P xs h

pub pairwise_from_all : {X : Type 0} (R : X → X → Type 0) (xs : List X) → AllPairs R xs → Pairwise R xs
pairwise_from_all R [] h = tt
pairwise_from_all R (x ∷ xs) h = (
  recursion_from_All (R x) xs (λ k d l. h 0 (suc k) d (omega arith) (omega (arith, l))),
  pairwise_from_all R xs (λ i j d less below. h (suc i) (suc j) d (omega (arith, less)) (omega (arith, below))),
)
