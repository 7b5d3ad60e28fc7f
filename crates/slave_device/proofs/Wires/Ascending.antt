-- Ascending lists of ids, and rows that are made of them.
use Rattle.std.proofs.Common.{◌≡◌, ◌≢◌, ℕ, zero, suc, ◌<◌, Bool, true, false, cond, List, [], ◌∷◌, get_or, set, map, refl, ap, ◌∙◌, arith}
use Rattle.std.specs.Prelude.{◌==◌, ◌||◌, nat_lt, if◌then◌else◌}
use Rattle.std.specs.List.{insert}
use Rattle.std.proofs.lemmas.Bool.Decides.{nat_tests}
use Rattle.std.proofs.lemmas.List.{get_or-map}
use Rattle.slave_spec.specs.Changes.{put_ascending, ascending}
use Rattle.slave_device.specs.Wires.Ids.{IsBehindSmaller, IsThere, IsPlaceFor}

pub by_test : {P : Type 0} → (b : Bool) → (b ≡ true → P) → (b ≡ false → P) → P
by_test true f g = f refl
by_test false f g = g refl

abbrev pub Above : ℕ → List ℕ → Type 0
Above n [] = Unit {0}
Above n (x ∷ xs) = (n < x) × Above n xs

abbrev pub Ascends : List ℕ → Type 0
Ascends [] = Unit {0}
Ascends (x ∷ xs) = Above x xs × Ascends xs

-- an id stands in an ascending list
abbrev pub is_among : ℕ → List ℕ → Bool
is_among n [] = false
is_among n (x ∷ xs) = if nat_lt x n then is_among n xs else x == n

pub above_less : (m n : ℕ) (xs : List ℕ) → m < n → Above n xs → Above m xs
above_less m n [] h a = tt
above_less m n (x ∷ xs) h a = (omega (arith, a.0), above_less m n xs h a.1)

pub above_put : (x n : ℕ) (xs : List ℕ) → x < n → Above x xs → Above x (put_ascending n xs)
above_put x n [] h a = (h, tt)
above_put x n (y ∷ ys) h a =
    elim (nat_lt n y) as (λ b. Above x (cond b (n ∷ y ∷ ys) (cond (n == y) (y ∷ ys) (y ∷ put_ascending n ys)))) [
      | true ↦ (h, (a.0, a.1))
      | false ↦ elim (n == y) as (λ b. Above x (cond b (y ∷ ys) (y ∷ put_ascending n ys))) [ true ↦ (a.0, a.1) | false ↦ (a.0, above_put x n ys h a.1) ]
    ]

pub ascends_put : (n : ℕ) (xs : List ℕ) → Ascends xs → Ascends (put_ascending n xs)
ascends_put n [] a = (tt, tt)
ascends_put n (y ∷ ys) a =
    by_test (nat_lt n y)
    (λ e. let h : n < y = grind (arith, nat_tests, e) in rw e ((h, above_less n y ys h a.0), (a.0, a.1)))
    (λ e. by_test (n == y)
    (λ f. rw (e, f) (a.0, a.1))
    (λ f. let h : y < n = grind (arith, nat_tests, e, f) in rw (e, f) (above_put y n ys h a.0, ascends_put n ys a.1)))

pub ascending_ascends : (xs : List ℕ) → Ascends (ascending xs)
ascending_ascends [] = tt
ascending_ascends (x ∷ xs) = ascends_put x (ascending xs) (ascending_ascends xs)

-- the id put, or one before
pub among_put : (m n : ℕ) (xs : List ℕ) → is_among m (put_ascending n xs) ≡ (n == m || is_among m xs)
among_put m n [] =
    by_test (nat_lt n m)
    (λ e. let f : (n == m) ≡ false = grind (arith, nat_tests, e) in rw (e, f) refl)
    (λ e. rw e (by_test (n == m) (λ f. rw f refl) (λ f. rw f refl)))
among_put m n (y ∷ ys) =
    by_test (nat_lt n y)
    (λ e. by_test (nat_lt n m)
    (λ f. let g : (n == m) ≡ false = grind (arith, nat_tests, f) in rw (e, f, g) refl)
    (λ f. by_test (n == m)
    (λ g. rw (e, f, g) refl)
    (λ g. let less : nat_lt y m ≡ false = grind (arith, nat_tests, e, f) in
    let other : (y == m) ≡ false = grind (arith, nat_tests, e, f) in
    rw (e, f, g, less, other) refl)))
    (λ e. by_test (n == y)
    (λ f. let same : n ≡ y = grind (arith, nat_tests, f) in
    by_test (n == m)
    (λ g. let less : nat_lt y m ≡ false = grind (arith, nat_tests, g, same) in
    let here : (y == m) ≡ true = grind (arith, nat_tests, g, same) in
    rw (e, f, g, less, here) refl)
    (λ g. rw (e, f, g) refl))
    (λ f. rw (e, f)
    (by_test (nat_lt y m)
    (λ l. rw l (among_put m n ys))
    (λ l. let g : (n == m) ≡ false = grind (arith, nat_tests, e, f, l) in rw (l, g) refl))))

behind_rest : {x n i : ℕ} {xs : List ℕ} → IsBehindSmaller (x ∷ xs) n (suc i) → IsBehindSmaller xs n i
behind_rest b = record { within = omega arith; front = λ k h. b.front (suc k) (omega arith) }

there_rest : {x n i : ℕ} {xs : List ℕ} → IsThere (x ∷ xs) n (suc i) → IsThere xs n i
there_rest t = record { behind = behind_rest t.behind; within = omega arith; same = t.same }

place_rest : {x n i : ℕ} {xs : List ℕ} → IsPlaceFor (x ∷ xs) n (suc i) → IsPlaceFor xs n i
place_rest p = record { behind = behind_rest p.behind; greater = λ h. p.greater (omega arith) }

first_less : {x n i : ℕ} {xs : List ℕ} → IsBehindSmaller (x ∷ xs) n (suc i) → x < n
first_less b = b.front 0 (omega arith)

pub put_there : (n i : ℕ) (xs : List ℕ) → IsThere xs n i → put_ascending n xs ≡ xs
put_there n i [] t = absurd (omega (arith, t.within))
put_there n zero (x ∷ xs) t =
    let e : nat_lt n x ≡ false = grind (arith, nat_tests, t.same) in
    let f : (n == x) ≡ true = grind (arith, nat_tests, t.same) in
    rw (e, f) refl
put_there n (suc i) (x ∷ xs) t =
    let h : x < n = first_less t.behind in
    let e : nat_lt n x ≡ false = grind (arith, nat_tests) in
    let f : (n == x) ≡ false = grind (arith, nat_tests) in
    rw (e, f) (ap (λ (l : List ℕ). x ∷ l) (put_there n i xs (there_rest t)))

pub put_new : (n i : ℕ) (xs : List ℕ) → IsPlaceFor xs n i → put_ascending n xs ≡ insert xs i n
put_new n zero [] p = refl
put_new n (suc i) [] p = absurd (omega (arith, p.behind.within))
put_new n zero (x ∷ xs) p =
    let h : n < x = p.greater (omega arith) in
    let e : nat_lt n x ≡ true = grind (arith, nat_tests) in
    rw e refl
put_new n (suc i) (x ∷ xs) p =
    let h : x < n = first_less p.behind in
    let e : nat_lt n x ≡ false = grind (arith, nat_tests) in
    let f : (n == x) ≡ false = grind (arith, nat_tests) in
    rw (e, f) (ap (λ (l : List ℕ). x ∷ l) (put_new n i xs (place_rest p)))

pub among_there : (n i : ℕ) (xs : List ℕ) → IsThere xs n i → is_among n xs ≡ true
among_there n i [] t = absurd (omega (arith, t.within))
among_there n zero (x ∷ xs) t =
    let e : nat_lt x n ≡ false = grind (arith, nat_tests, t.same) in
    let f : (x == n) ≡ true = grind (arith, nat_tests, t.same) in
    rw (e, f) refl
among_there n (suc i) (x ∷ xs) t =
    let h : x < n = first_less t.behind in
    let e : nat_lt x n ≡ true = grind (arith, nat_tests) in
    rw e (among_there n i xs (there_rest t))

pub not_among : (n i : ℕ) (xs : List ℕ) → IsPlaceFor xs n i → is_among n xs ≡ false
not_among n i [] p = refl
not_among n zero (x ∷ xs) p =
    let h : n < x = p.greater (omega arith) in
    let e : nat_lt x n ≡ false = grind (arith, nat_tests) in
    let f : (x == n) ≡ false = grind (arith, nat_tests) in
    rw (e, f) refl
not_among n (suc i) (x ∷ xs) p =
    let h : x < n = first_less p.behind in
    let e : nat_lt x n ≡ true = grind (arith, nat_tests) in
    rw e (not_among n i xs (place_rest p))

-- g is f but for one id
pub map_above : {R : Type 0} (f g : ℕ → R) (n : ℕ) (xs : List ℕ) → Above n xs → ((y : ℕ) → n ≢ y → g y ≡ f y) → map g xs ≡ map f xs
map_above f g n [] a same = refl
map_above {R} f g n (x ∷ xs) a same =
    let ne : n ≢ x = omega (arith, a.0) in
    let e = same x ne in
    let r = map_above f g n xs a.1 same in
    cc

pub map_set : {R : Type 0} (f g : ℕ → R) (n i : ℕ) (xs : List ℕ) → Ascends xs → IsThere xs n i → ((y : ℕ) → n ≢ y → g y ≡ f y) → map g xs ≡ set (map f xs) i (g n)
map_set f g n i [] a t same = absurd (omega (arith, t.within))
map_set f g n zero (x ∷ xs) a t same =
    let e : x ≡ n = t.same in
    let r = map_above f g x xs a.0 (λ y h. same y (λ k. h (e ∙ k))) in
    let first : g x ≡ g n = ap g e in
    cc
map_set f g n (suc i) (x ∷ xs) a t same =
    let ne : n ≢ x = omega (arith, first_less t.behind) in
    let e = same x ne in
    let r = map_set f g n i xs a.1 (there_rest t) same in
    cc

pub map_insert : {R : Type 0} (f g : ℕ → R) (n i : ℕ) (xs : List ℕ) → Ascends xs → IsPlaceFor xs n i → ((y : ℕ) → n ≢ y → g y ≡ f y) → map g (insert xs i n) ≡ insert (map f xs) i (g n)
map_insert f g n zero [] a p same = refl
map_insert f g n (suc i) [] a p same = absurd (omega (arith, p.behind.within))
map_insert f g n zero (x ∷ xs) a p same =
    let h : n < x = p.greater (omega arith) in
    let ne : n ≢ x = omega arith in
    let e = same x ne in
    let r = map_above f g n xs (above_less n x xs h a.0) same in
    cc
map_insert f g n (suc i) (x ∷ xs) a p same =
    let ne : n ≢ x = omega (arith, first_less p.behind) in
    let e = same x ne in
    let r = map_insert f g n i xs a.1 (place_rest p) same in
    cc

pub map_absent : {R : Type 0} (f g : ℕ → R) (n i : ℕ) (xs : List ℕ) → Ascends xs → IsPlaceFor xs n i → ((y : ℕ) → n ≢ y → g y ≡ f y) → map g xs ≡ map f xs
map_absent f g n i [] a p same = refl
map_absent f g n zero (x ∷ xs) a p same =
    let h : n < x = p.greater (omega arith) in
    map_above f g n (x ∷ xs) (h, above_less n x xs h a.0) same
map_absent f g n (suc i) (x ∷ xs) a p same =
    let ne : n ≢ x = omega (arith, first_less p.behind) in
    let e = same x ne in
    let r = map_absent f g n i xs a.1 (place_rest p) same in
    cc

among_above : (x y : ℕ) (xs : List ℕ) → Above x xs → is_among y xs ≡ true → x < y
among_above x y [] a h = absurd cc
among_above x y (z ∷ zs) a h =
    by_test (nat_lt z y)
    (λ e. let l : z < y = grind (arith, nat_tests, e) in omega (arith, a.0))
    (λ e. let f : (z == y) ≡ true = rw e at h in let l : z ≡ y = grind (arith, nat_tests, f) in omega (arith, a.0))

-- g is f at each id of the list
pub map_among : {R : Type 0} (f g : ℕ → R) (xs : List ℕ) → Ascends xs → ((y : ℕ) → is_among y xs ≡ true → g y ≡ f y) → map g xs ≡ map f xs
map_among f g [] a same = refl
map_among f g (x ∷ xs) a same =
    let l : nat_lt x x ≡ false = grind (arith, nat_tests) in
    let s : (x == x) ≡ true = grind (arith, nat_tests) in
    let e : g x ≡ f x = same x (rw (l, s) refl) in
    let r = map_among f g xs a.1 (λ y h. same y (let less : x < y = among_above x y xs a.0 h in let t : nat_lt x y ≡ true = grind (arith, nat_tests) in rw t h)) in
    cc

-- the row of an id
pub row_at : {R : Type 0} (f : ℕ → R) (n i : ℕ) (xs : List ℕ) (d : R) → IsThere xs n i → get_or (map f xs) i d ≡ f n
row_at f n i xs d t = get_or-map f xs i 0 d t.within ∙ ap f t.same
