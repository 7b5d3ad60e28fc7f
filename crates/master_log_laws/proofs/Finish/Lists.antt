-- Requests in lists: of a kind, after the n-th of a kind, and the n-th.
use Rattle.std.proofs.Common.{◌≡◌, ℕ, zero, suc, ◌+◌, ◌⊎◌, inl, inr, Bool, true, false, if◌then◌else◌, Some, List, [], ◌∷◌, ◌++◌, reverse, length, refl, sym, ap, ◌∙◌, subst, arith, length-append}
use Rattle.std.specs.Prelude.{cond, ◌||◌, slice_get, filter}
use Rattle.std.specs.List.{list_any}
use Rattle.std.proofs.lemmas.List.{reverse-append}
use Rattle.std.proofs.lemmas.List.Elements.{filter-append}
use Rattle.master_spec.specs.Requests.{Asking}
use Rattle.master_spec.specs.Exchanged.{after_nth}

-- ---- what holds of each
abbrev pub Every : (Asking → Type 0) → List Asking → Type 0
Every P [] = Unit {0}
Every P (a ∷ az) = P a × Every P az

pub every_map : (P Q : Asking → Type 0) (xs : List Asking) → ((a : Asking) → P a → Q a) → Every P xs → Every Q xs
every_map P Q [] f e = tt
every_map P Q (x ∷ xs) f e = (f x e.0, every_map P Q xs f e.1)

pub every_append : (P : Asking → Type 0) (xs ys : List Asking) → Every P xs → Every P ys → Every P (xs ++ ys)
every_append P [] ys a b = b
every_append P (x ∷ xs) ys a b = (a.0, every_append P xs ys a.1 b)

pub every_left : (P : Asking → Type 0) (xs ys : List Asking) → Every P (xs ++ ys) → Every P xs
every_left P [] ys a = tt
every_left P (x ∷ xs) ys a = (a.0, every_left P xs ys a.1)

pub every_right : (P : Asking → Type 0) (xs ys : List Asking) → Every P (xs ++ ys) → Every P ys
every_right P [] ys a = a
every_right P (x ∷ xs) ys a = every_right P xs ys a.1

pub every_reverse : (P : Asking → Type 0) (xs : List Asking) → Every P xs → Every P (reverse xs)
every_reverse P [] a = tt
every_reverse P (x ∷ xs) a =
    let Q : List Asking → Type 0 = λ z. Every P z in
    subst Q (sym (reverse-append (x ∷ []) xs)) (every_append P (reverse xs) (x ∷ []) (every_reverse P xs a.1) (a.0, tt))

-- ---- what stands in a list
abbrev pub In : Asking → List Asking → Type 0
In a xs = (i : ℕ) × (slice_get xs i ≡ Some a)

in_none : (a : Asking) (i : ℕ) → slice_get [] i ≡ Some a → ⊥
in_none a i e = cc

pub in_right : (a : Asking) (xs ys : List Asking) → In a ys → In a (xs ++ ys)
in_right a [] ys h = h
in_right a (x ∷ xs) ys h = let k = in_right a xs ys h in (suc k.0, k.1)

pub in_left : (a : Asking) (xs ys : List Asking) → In a xs → In a (xs ++ ys)
in_left a [] ys h = absurd (in_none a h.0 h.1)
in_left a (x ∷ xs) ys h = by h.0 h.1 (λ z. in_left a xs ys z)
  where
    by : (i : ℕ) → slice_get (x ∷ xs) i ≡ Some a → (In a xs → In a (xs ++ ys)) → In a (x ∷ (xs ++ ys))
    by zero e f = (0, e)
    by (suc i) e f = let k = f (i, e) in (suc k.0, k.1)

pub in_split : (a : Asking) (xs ys : List Asking) → In a (xs ++ ys) → In a xs ⊎ In a ys
in_split a [] ys h = inr h
in_split a (x ∷ xs) ys h = by h.0 h.1 (λ z. in_split a xs ys z)
  where
    more : In a xs ⊎ In a ys → In a (x ∷ xs) ⊎ In a ys
    more (inl k) = inl (suc k.0, k.1)
    more (inr k) = inr k

    by : (i : ℕ) → slice_get (x ∷ (xs ++ ys)) i ≡ Some a → (In a (xs ++ ys) → In a xs ⊎ In a ys) → In a (x ∷ xs) ⊎ In a ys
    by zero e f = inl (0, e)
    by (suc i) e f = more (f (i, e))

pub in_reverse : (a : Asking) (xs : List Asking) → In a xs → In a (reverse xs)
in_reverse a [] h = h
in_reverse a (x ∷ xs) h = let Q : List Asking → Type 0 = λ z. In a z in subst Q (sym (reverse-append (x ∷ []) xs)) (by h.0 h.1 (λ z. in_reverse a xs z))
  where
    by : (i : ℕ) → slice_get (x ∷ xs) i ≡ Some a → (In a xs → In a (reverse xs)) → In a (reverse xs ++ (x ∷ []))
    by zero e f = in_right a (reverse xs) (x ∷ []) (0, e)
    by (suc i) e f = in_left a (reverse xs) (x ∷ []) (f (i, e))

pub every_in : (P : Asking → Type 0) (a : Asking) (xs : List Asking) → Every P xs → In a xs → P a
every_in P a [] e h = absurd (in_none a h.0 h.1)
every_in P a (x ∷ xs) e h = by h.0 h.1 (λ z. every_in P a xs e.1 z)
  where
    by : (i : ℕ) → slice_get (x ∷ xs) i ≡ Some a → (In a xs → P a) → P a
    by zero q f = let z : x ≡ a = cc in subst P z e.0
    by (suc i) q f = f (i, q)

pub any_in : (f : Asking → Bool) (xs : List Asking) → list_any f xs ≡ true → (a : Asking) × (In a xs × (f a ≡ true))
any_in f [] h = absurd cc
any_in f (x ∷ xs) h = by (f x) refl h (λ z. any_in f xs z)
  where
    by : (b : Bool) → f x ≡ b → (b || list_any f xs) ≡ true → (list_any f xs ≡ true → (a : Asking) × (In a xs × (f a ≡ true))) → (a : Asking) × (In a (x ∷ xs) × (f a ≡ true))
    by true e h g = (x, ((0, refl), e))
    by false e h g = let k = g h in (k.0, ((suc ((k.1).0).0, ((k.1).0).1), (k.1).1))

pub any_left : (f : Asking → Bool) (xs ys : List Asking) → list_any f ys ≡ false → list_any f (xs ++ ys) ≡ true → list_any f xs ≡ true
any_left f [] ys e h = let z : true ≡ false = sym h ∙ e in absurd cc
any_left f (x ∷ xs) ys e h = by (f x) h (λ z. any_left f xs ys e z)
  where
    by : (b : Bool) → (b || list_any f (xs ++ ys)) ≡ true → (list_any f (xs ++ ys) ≡ true → list_any f xs ≡ true) → (b || list_any f xs) ≡ true
    by true h g = refl
    by false h g = g h

-- ---- how many are of a kind
abbrev pub hits : (Asking → Bool) → List Asking → ℕ
hits is xs = length (filter is xs)

abbrev pub Off : (Asking → Bool) → List Asking → Type 0
Off is xs = Every (λ a. is a ≡ false) xs

pub hits_append : (is : Asking → Bool) (xs ys : List Asking) → hits is (xs ++ ys) ≡ hits is xs + hits is ys
hits_append is xs ys = ap length (filter-append is xs ys) ∙ length-append (filter is xs) (filter is ys)

pub hits_off : (is : Asking → Bool) (xs : List Asking) → Off is xs → hits is xs ≡ 0
hits_off is [] o = refl
hits_off is (x ∷ xs) o = ap (λ (b : Bool). length (cond b (x ∷ filter is xs) (filter is xs))) o.0 ∙ hits_off is xs o.1

pub hits_one : (is : Asking → Bool) (x : Asking) (xs : List Asking) (b : Bool) → is x ≡ b → Off is xs → hits is (x ∷ xs) ≡ if b then 1 else 0
hits_one is x xs true e o = ap (λ (b : Bool). length (cond b (x ∷ filter is xs) (filter is xs))) e ∙ ap (λ (n : ℕ). suc n) (hits_off is xs o)
hits_one is x xs false e o = ap (λ (b : Bool). length (cond b (x ∷ filter is xs) (filter is xs))) e ∙ hits_off is xs o

-- past some of a kind
pub after_over : (is : Asking → Bool) (xs ys : List Asking) (n m : ℕ) → m ≡ hits is xs + n → after_nth is (suc m) (xs ++ ys) ≡ after_nth is (suc n) ys
after_over is [] ys n m e = let z : m ≡ n = omega (arith, e) in ap (λ (k : ℕ). after_nth is (suc k) ys) z
after_over is (x ∷ xs) ys n m e = by (is x) m e (λ k f. after_over is xs ys n k f)
  where
    by : (b : Bool) (m : ℕ) → m ≡ length (cond b (x ∷ filter is xs) (filter is xs)) + n → ((k : ℕ) → k ≡ hits is xs + n → after_nth is (suc k) (xs ++ ys) ≡ after_nth is (suc n) ys)
        → (if b then after_nth is m (xs ++ ys) else after_nth is (suc m) (xs ++ ys)) ≡ after_nth is (suc n) ys
    by true zero e f = absurd (omega (arith, e))
    by true (suc m) e f = f m (omega (arith, e))
    by false m e f = f m e

pub nth_over : (is : Asking → Bool) (xs ys : List Asking) (n m : ℕ) → m ≡ hits is xs + n → slice_get (filter is (xs ++ ys)) m ≡ slice_get (filter is ys) n
nth_over is [] ys n m e = let z : m ≡ n = omega (arith, e) in ap (λ (k : ℕ). slice_get (filter is ys) k) z
nth_over is (x ∷ xs) ys n m e = by (is x) m e (λ k f. nth_over is xs ys n k f)
  where
    by : (b : Bool) (m : ℕ) → m ≡ length (cond b (x ∷ filter is xs) (filter is xs)) + n → ((k : ℕ) → k ≡ hits is xs + n → slice_get (filter is (xs ++ ys)) k ≡ slice_get (filter is ys) n)
        → slice_get (cond b (x ∷ filter is (xs ++ ys)) (filter is (xs ++ ys))) m ≡ slice_get (filter is ys) n
    by true zero e f = absurd (omega (arith, e))
    by true (suc m) e f = f m (omega (arith, e))
    by false m e f = f m e

pub nth_here : (is : Asking → Bool) (x : Asking) (xs : List Asking) → is x ≡ true → slice_get (filter is (x ∷ xs)) 0 ≡ Some x
nth_here is x xs e = ap (λ (b : Bool). slice_get (cond b (x ∷ filter is xs) (filter is xs)) 0) e
