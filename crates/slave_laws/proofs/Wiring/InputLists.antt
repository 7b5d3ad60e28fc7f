-- Lists: what is chosen of them, what is found in them, and what stands at a place.
use Rattle.std.proofs.Common.{◌≡◌, ℕ, zero, suc, ◌+◌, ◌≤◌, ◌&&◌, ◌||◌, Bool, true, false, if◌then◌else◌, List, [], ◌∷◌, ◌++◌, length, map, Option, Some, None, refl, sym, ap, ◌∙◌, subst, arith}
use Rattle.std.specs.Prelude.{reverse, filter, find, slice_get, slice_index_or, is_some}
use Rattle.std.specs.List.{AllByRecursion, cons_option, filter_map, flat_map, list_any, range_with_len}
use Rattle.std.proofs.lemmas.List.{append-nil, append_assoc, reverse-append}
use Rattle.std.proofs.lemmas.List.Elements.{filter_map-append}
use Rattle.plan_laws.proofs.Lists.{Pairwise, each_weaker, each_both}

-- ---- what is chosen
pub push_chosen : {A : Type 0} (o : Option A) (xs ys : List A) → reverse xs ++ cons_option o ys ≡ reverse (cons_option o xs) ++ ys
push_chosen None xs ys = refl
push_chosen (Some y) xs ys = sym (ap (λ l. l ++ ys) (reverse-append (y ∷ []) xs) ∙ append_assoc (reverse xs) (y ∷ []) ys)

pub none_chosen : {X Y : Type 0} (g : X → Option Y) (xs : List X) → AllByRecursion (λ x. g x ≡ None) xs → filter_map g xs ≡ []
none_chosen g [] h = refl
none_chosen g (x ∷ xs) h = ap (λ o. cons_option o (filter_map g xs)) h.0 ∙ none_chosen g xs h.1

none_of_parts : {X Y Z : Type 0} (g : Y → Option Z) (f : X → List Y) (xs : List X) → AllByRecursion (λ x. filter_map g (f x) ≡ []) xs → filter_map g (flat_map f xs) ≡ []
none_of_parts g f [] h = refl
none_of_parts g f (x ∷ xs) h = filter_map-append g (f x) (flat_map f xs) ∙ ap (λ l. l ++ filter_map g (flat_map f xs)) h.0 ∙ none_of_parts g f xs h.1

-- what is chosen of all parts for one of them is what is chosen of its own, where the others have nothing for it
pub chosen_of_own : {X Y Z : Type 0} (g : X → Y → Option Z) (f : X → List Y) (R : X → X → Type 0) → ((x y : X) → R x y → (filter_map (g y) (f x) ≡ []) × (filter_map (g x) (f y) ≡ []))
    → (xs : List X) → Pairwise R xs → AllByRecursion (λ (x : X). filter_map (g x) (flat_map f xs) ≡ filter_map (g x) (f x)) xs
chosen_of_own g f R apart [] h = tt
chosen_of_own {X} g f R apart (x ∷ xs) h = (
  filter_map-append (g x) (f x) (flat_map f xs)
      ∙ ap (λ l. filter_map (g x) (f x) ++ l) (none_of_parts (g x) f xs (each_weaker (R x) (λ (y : X). filter_map (g x) (f y) ≡ []) (λ y e. (apart x y e).1) xs h.0))
      ∙ append-nil (filter_map (g x) (f x)),
  each_both (R x) (λ (y : X). filter_map (g y) (flat_map f xs) ≡ filter_map (g y) (f y)) (λ (y : X). filter_map (g y) (flat_map f (x ∷ xs)) ≡ filter_map (g y) (f y))
      (λ y e k. filter_map-append (g y) (f x) (flat_map f xs) ∙ ap (λ l. l ++ filter_map (g y) (flat_map f xs)) (apart x y e).0 ∙ k) xs h.0 (chosen_of_own g f R apart xs h.1),
)

-- where each element gives something, what the one at a place gives stands at that place
first_chosen : {Y : Type 0} (o : Option Y) (ys : List Y) → is_some o ≡ true → slice_get (cons_option o ys) 0 ≡ o
first_chosen None ys h = absurd cc
first_chosen (Some y) ys h = refl

later_chosen : {Y : Type 0} (o : Option Y) (ys : List Y) (j : ℕ) → is_some o ≡ true → slice_get (cons_option o ys) (suc j) ≡ slice_get ys j
later_chosen None ys j h = absurd cc
later_chosen (Some y) ys j h = refl

pub chosen_at : {X Y : Type 0} (g : X → Option Y) (xs : List X) (j : ℕ) (x : X) → AllByRecursion (λ z. is_some (g z) ≡ true) xs → slice_get xs j ≡ Some x → slice_get (filter_map g xs) j ≡ g x
chosen_at g [] j x h e = absurd cc
chosen_at g (y ∷ xs) zero x h e = let same : y ≡ x = cc in first_chosen (g y) (filter_map g xs) h.0 ∙ ap g same
chosen_at g (y ∷ xs) (suc j) x h e = later_chosen (g y) (filter_map g xs) j h.0 ∙ chosen_at g xs j x h.1 e

pub chosen_cons : {Y : Type 0} (o : Option Y) (Q : Y → Type 0) (ys : List Y) → ((y : Y) → o ≡ Some y → Q y) → AllByRecursion Q ys → AllByRecursion Q (cons_option o ys)
chosen_cons None Q ys h k = k
chosen_cons (Some y) Q ys h k = (h y refl, k)

-- ---- what stands at a place
pub read_map : {A B : Type 0} (f : A → B) (xs : List A) (j : ℕ) (x : A) (d : B) → slice_get xs j ≡ Some x → slice_index_or (map f xs) j d ≡ f x
read_map f [] j x d e = absurd cc
read_map f (y ∷ xs) zero x d e = let same : y ≡ x = cc in ap f same
read_map f (y ∷ xs) (suc j) x d e = read_map f xs j x d e

pub got_some : {X : Type 0} (xs : List X) (i : ℕ) → suc i ≤ length xs → (x : X) × (slice_get xs i ≡ Some x)
got_some [] i h = absurd (omega (arith, h))
got_some (x ∷ xs) zero h = (x, refl)
got_some (x ∷ xs) (suc i) h = got_some xs i (omega (arith, h))

-- a list read along, and numbers from a on
pub map_along : {X Y : Type 0} (f : X → Y) (g : ℕ → Y) (xs : List X) (a : ℕ) → ((i : ℕ) (x : X) → slice_get xs i ≡ Some x → f x ≡ g (a + i)) → map f xs ≡ map g (range_with_len a (length xs))
map_along f g [] a h = refl
map_along f g (x ∷ xs) a h =
    let here : a + 0 ≡ a = omega arith in
    let rest = map_along f g xs (a + 1) (λ i y e. let next : a + suc i ≡ a + 1 + i = omega arith in h (suc i) y e ∙ ap g next) in
    ap (λ z. z ∷ map f xs) (h 0 x refl ∙ ap g here) ∙ ap (λ l. g a ∷ l) rest

-- ---- whether some element passes
pub or_right : (a b : Bool) → b ≡ true → (a || b) ≡ true
or_right true b e = refl
or_right false b e = e

or_more : (a b c : Bool) → (b ≡ true → c ≡ true) → (a || b) ≡ true → (a || c) ≡ true
or_more true b c f h = refl
or_more false b c f h = f h

pub any_left : {X : Type 0} (t : X → Bool) (xs ys : List X) → list_any t xs ≡ true → list_any t (xs ++ ys) ≡ true
any_left t [] ys h = absurd cc
any_left t (x ∷ xs) ys h = or_more (t x) (list_any t xs) (list_any t (xs ++ ys)) (λ k. any_left t xs ys k) h

pub any_right : {X : Type 0} (t : X → Bool) (xs ys : List X) → list_any t ys ≡ true → list_any t (xs ++ ys) ≡ true
any_right t [] ys h = h
any_right t (x ∷ xs) ys h = or_right (t x) (list_any t (xs ++ ys)) (any_right t xs ys h)

-- in one of many parts
pub any_part : {X Y : Type 0} (u : Y → Bool) (t : X → Bool) (f : X → List Y) (xs : List X) → AllByRecursion (λ x. t x ≡ true → list_any u (f x) ≡ true) xs → list_any t xs ≡ true → list_any u (flat_map f xs) ≡ true
any_part u t f [] h k = absurd cc
any_part u t f (x ∷ xs) h k = by (λ z. any_part u t f xs h.1 z) (t x) refl k
  where
    by : (list_any t xs ≡ true → list_any u (flat_map f xs) ≡ true) → (b : Bool) → t x ≡ b → (b || list_any t xs) ≡ true → list_any u (f x ++ flat_map f xs) ≡ true
    by g true e z = any_left u (f x) (flat_map f xs) (h.0 e)
    by g false e z = any_right u (f x) (flat_map f xs) (g z)

-- one that passes both tests is among those that pass the first
pub any_of_both : {X : Type 0} (a b : X → Bool) (xs : List X) → 1 ≤ length (filter (λ x. a x && b x) xs) → list_any b (filter a xs) ≡ true
any_of_both a b [] h = absurd (omega (arith, h))
any_of_both a b (x ∷ xs) h = by (λ k. any_of_both a b xs k) (a x) (b x) refl h
  where
    by : (1 ≤ length (filter (λ y. a y && b y) xs) → list_any b (filter a xs) ≡ true) → (p q : Bool) → b x ≡ q
        → 1 ≤ length (if p && q then x ∷ filter (λ y. a y && b y) xs else filter (λ y. a y && b y) xs) → list_any b (if p then x ∷ filter a xs else filter a xs) ≡ true
    by f true true e k = ap (λ z. z || list_any b (filter a xs)) e
    by f true false e k = or_right (b x) (list_any b (filter a xs)) (f k)
    by f false q e k = f k

pub any_filter : {X : Type 0} (a b : X → Bool) (xs : List X) → list_any (λ x. a x && b x) xs ≡ true → list_any a (filter b xs) ≡ true
any_filter a b [] h = absurd cc
any_filter a b (x ∷ xs) h = by (λ k. any_filter a b xs k) (a x) (b x) refl h
  where
    by : (list_any (λ y. a y && b y) xs ≡ true → list_any a (filter b xs) ≡ true) → (p q : Bool) → a x ≡ p
        → ((p && q) || list_any (λ y. a y && b y) xs) ≡ true → list_any a (if q then x ∷ filter b xs else filter b xs) ≡ true
    by f true true e k = ap (λ z. z || list_any a (filter b xs)) e
    by f true false e k = f k
    by f false true e k = or_right (a x) (list_any a (filter b xs)) (f k)
    by f false false e k = f k

pub any_weaker : {X : Type 0} (t u : X → Bool) → ((x : X) → t x ≡ true → u x ≡ true) → (xs : List X) → list_any t xs ≡ true → list_any u xs ≡ true
any_weaker t u f [] h = absurd cc
any_weaker t u f (x ∷ xs) h = by (λ k. any_weaker t u f xs k) (t x) refl h
  where
    by : (list_any t xs ≡ true → list_any u xs ≡ true) → (b : Bool) → t x ≡ b → (b || list_any t xs) ≡ true → (u x || list_any u xs) ≡ true
    by g true e k = ap (λ z. z || list_any u xs) (f x e)
    by g false e k = or_right (u x) (list_any u xs) (g k)

-- ---- what is found
pub found_passes : {X : Type 0} (t : X → Bool) (xs : List X) (x : X) → find t xs ≡ Some x → t x ≡ true
found_passes t [] x e = absurd cc
found_passes t (y ∷ xs) x e = by (λ k. found_passes t xs x k) (t y) refl e
  where
    by : (find t xs ≡ Some x → t x ≡ true) → (b : Bool) → t y ≡ b → (if b then Some y else find t xs) ≡ Some x → t x ≡ true
    by f true g k = let same : y ≡ x = cc in ap t (sym same) ∙ g
    by f false g k = f k

pub found_any : {X : Type 0} (t u : X → Bool) (xs : List X) (x : X) → find t xs ≡ Some x → u x ≡ true → list_any u xs ≡ true
found_any t u [] x e h = absurd cc
found_any t u (y ∷ xs) x e h = by (λ k. found_any t u xs x k h) (t y) e
  where
    by : (find t xs ≡ Some x → list_any u xs ≡ true) → (b : Bool) → (if b then Some y else find t xs) ≡ Some x → (u y || list_any u xs) ≡ true
    by f true k = let same : y ≡ x = cc in ap (λ z. u z || list_any u xs) same ∙ ap (λ z. z || list_any u xs) h
    by f false k = or_right (u y) (list_any u xs) (f k)

pub found_has : {X : Type 0} (P : X → Type 0) (t : X → Bool) (xs : List X) (x : X) → AllByRecursion P xs → find t xs ≡ Some x → P x
found_has P t [] x h e = absurd cc
found_has {X} P t (y ∷ xs) x h e = by (λ k. found_has P t xs x h.1 k) (t y) e
  where
    by : (find t xs ≡ Some x → P x) → (b : Bool) → (if b then Some y else find t xs) ≡ Some x → P x
    by f true k = let same : y ≡ x = cc in let Q : X → Type 0 = P in subst Q same h.0
    by f false k = f k

-- ---- what holds of each element
pub each_swap : {X Y : Type 0} (P : Y → X → Type 0) (xs : List X) → ((y : Y) → AllByRecursion (P y) xs) → AllByRecursion (λ x. (y : Y) → P y x) xs
each_swap P [] h = tt
each_swap P (x ∷ xs) h = (λ y. (h y).0, each_swap P xs (λ y. (h y).1))

pub unfiltered : {X : Type 0} (P : X → Type 0) (t : X → Bool) (xs : List X) → AllByRecursion P (filter t xs) → AllByRecursion (λ x. t x ≡ true → P x) xs
unfiltered P t [] h = tt
unfiltered {X} P t (x ∷ xs) h = by (λ k. unfiltered P t xs k) (t x) refl h
  where
    by : (AllByRecursion P (filter t xs) → AllByRecursion (λ (y : X). t y ≡ true → P y) xs) → (b : Bool) → t x ≡ b → AllByRecursion P (if b then x ∷ filter t xs else filter t xs) → AllByRecursion (λ (y : X). t y ≡ true → P y) (x ∷ xs)
    by f true e k = (λ g. k.0, f k.1)
    by f false e k = (λ g. never (sym e ∙ g), f k)
      where
        never : {A : Type 0} → false ≡ true → A
        never z = absurd cc
