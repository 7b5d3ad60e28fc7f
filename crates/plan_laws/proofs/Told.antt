-- What a wiring is told, request by request: each is taken by the changes before it.
use Rattle.std.proofs.Common.{◌≡◌, ℕ, ◌+◌, ◌≤◌, Bool, true, false, cond, List, [], ◌∷◌, ◌++◌, length, refl, ap, ◌∙◌, arith, Option, Some, None}
use Rattle.std.specs.Prelude.{nat_lt, ◌==◌, option_map}
use Rattle.std.specs.List.{AllByRecursion, cons_option, filter_map, list_any, list_all}
use Rattle.std.proofs.lemmas.Bool.Decides.{nat_tests}
use Rattle.pdu_layout.specs.declared.messages.Cfg.{Cfg}
use Rattle.pdu_layout.specs.declared.messages.Cfg.TheVariants as cfg
use Rattle.slave_desc.specs.declared.descriptions.SlaveDesc.{SlaveDesc}
use Rattle.slave_spec.specs.Changes.{Change, Set, Side, Entry, entries, has_id, ids, source, vr_for, put_ascending, ascending}
use Rattle.slave_spec.specs.Refusals.{refusal_of_setting}
use Rattle.plan_laws.proofs.Lists.{by_test, left, right}

-- requests that change the list of changes
abbrev pub is_told : Cfg → Bool
is_told (cfg.TimeRes numerator denominator) = true
is_told (cfg.Steps id q) = true
is_told (cfg.Input id position vr source) = true
is_told (cfg.Output id position vr) = true
is_told (cfg.Source net) = true
is_told (cfg.Target net) = true
is_told body = false

-- the changes after these requests
abbrev pub onto : List Cfg → List Change → List Change
onto [] changes = changes
onto (body ∷ bodies) changes = onto bodies (Set body ∷ changes)

-- none of these requests is refused, each by the changes before it
abbrev pub AreTold : SlaveDesc → List Change → List Cfg → Type 0
AreTold d changes [] = Unit {0}
AreTold d changes (body ∷ bodies) = (is_told body ≡ true) × (refusal_of_setting d changes body ≡ None) × AreTold d (Set body ∷ changes) bodies

pub told_append : (d : SlaveDesc) (changes : List Change) (xs ys : List Cfg) → AreTold d changes xs → AreTold d (onto xs changes) ys → AreTold d changes (xs ++ ys)
told_append d changes [] ys h k = k
told_append d changes (x ∷ xs) ys h k = (h.0, h.1, told_append d (Set x ∷ changes) xs ys h.2 k)

pub onto_append : (xs ys : List Cfg) (changes : List Change) → onto (xs ++ ys) changes ≡ onto ys (onto xs changes)
onto_append [] ys changes = refl
onto_append (x ∷ xs) ys changes = onto_append xs ys (Set x ∷ changes)

-- ---- what requests leave as it is

pub silent : {A : Type 0} (f : Change → Option A) (bodies : List Cfg) (changes : List Change) → AllByRecursion (λ body. f (Set body) ≡ None) bodies → filter_map f (onto bodies changes) ≡ filter_map f changes
silent f [] changes h = refl
silent f (body ∷ bodies) changes h = silent f bodies (Set body ∷ changes) h.1 ∙ rw h.0 refl

pub silent_any : (f : Change → Bool) (bodies : List Cfg) (changes : List Change) → AllByRecursion (λ body. f (Set body) ≡ false) bodies → list_any f (onto bodies changes) ≡ list_any f changes
silent_any f [] changes h = refl
silent_any f (body ∷ bodies) changes h = silent_any f bodies (Set body ∷ changes) h.1 ∙ rw h.0 refl

-- what was given stays given
kept_first : {A : Type 0} (o : Option A) (xs : List A) → nat_lt 0 (length xs) ≡ true → nat_lt 0 (length (cons_option o xs)) ≡ true
kept_first None xs h = h
kept_first (Some x) xs h = grind (arith, nat_tests)

pub kept : {A : Type 0} (f : Change → Option A) (bodies : List Cfg) (changes : List Change) → nat_lt 0 (length (filter_map f changes)) ≡ true → nat_lt 0 (length (filter_map f (onto bodies changes))) ≡ true
kept f [] changes h = h
kept f (body ∷ bodies) changes h = kept f bodies (Set body ∷ changes) (kept_first (f (Set body)) (filter_map f changes) h)

-- ---- ids

all_put : (f : ℕ → Bool) (n : ℕ) (xs : List ℕ) → f n ≡ true → list_all f xs ≡ true → list_all f (put_ascending n xs) ≡ true
all_put f n [] h k = rw h refl
all_put f n (x ∷ xs) h k =
    elim (nat_lt n x) as (λ b. list_all f (cond b (n ∷ x ∷ xs) (cond (n == x) (x ∷ xs) (x ∷ put_ascending n xs))) ≡ true) [
      | true ↦ rw h k
      | false ↦ elim (n == x) as (λ b. list_all f (cond b (x ∷ xs) (x ∷ put_ascending n xs)) ≡ true) [
        | true ↦ k
        | false ↦ let a : f x ≡ true = left (f x) (list_all f xs) k in rw a (all_put f n xs h (right (f x) (list_all f xs) k))
      ]
    ]

abbrev pub id_of : Side → Change → Option ℕ
id_of side change = option_map (λ e. e.id) (side change)

has_here : (e : Entry) (vrs : List ℕ) → nat_lt 0 (length (cons_option (vr_for e.id (Some e)) vrs)) ≡ true
has_here e vrs = let t : (e.id == e.id) ≡ true = grind (arith, nat_tests) in rw t (grind (arith, nat_tests))

all_more : (f : ℕ → Bool) (o : Option Entry) (known : ℕ → List ℕ) (all : List ℕ) → ((id : ℕ) → nat_lt 0 (length (cons_option (vr_for id o) (known id))) ≡ true → f id ≡ true) → list_all f (ascending all) ≡ true
    → list_all f (ascending (cons_option (option_map (λ (e : Entry). e.id) o) all)) ≡ true
all_more f None known all h k = k
all_more f (Some e) known all h k = all_put f e.id (ascending all) (h e.id (has_here e (known e.id))) k

-- what holds of each id that has entries holds of all ids
pub all_ids : (side : Side) (f : ℕ → Bool) (changes : List Change) → ((id : ℕ) → has_id side id changes ≡ true → f id ≡ true) → list_all f (ids side changes) ≡ true
all_ids side f [] h = refl
all_ids side f (change ∷ changes) h =
    all_more f (side change) (λ id. entries side id changes) (filter_map (id_of side) changes) h
    (all_ids side f changes (λ id k. h id (kept_first (vr_for id (side change)) (entries side id changes) k)))

pub put_few : (n : ℕ) (xs : List ℕ) → length (put_ascending n xs) ≤ length xs + 1
put_few n [] = omega arith
put_few n (x ∷ xs) =
    elim (nat_lt n x) as (λ b. length (cond b (n ∷ x ∷ xs) (cond (n == x) (x ∷ xs) (x ∷ put_ascending n xs))) ≤ length (x ∷ xs) + 1) [
      | true ↦ omega arith
      | false ↦ elim (n == x) as (λ b. length (cond b (x ∷ xs) (x ∷ put_ascending n xs)) ≤ length (x ∷ xs) + 1) [ true ↦ omega arith | false ↦ omega (arith, put_few n xs) ]
    ]

put_first : (n : ℕ) (xs : List ℕ) → put_ascending n (n ∷ xs) ≡ n ∷ xs
put_first n xs =
    let l : nat_lt n n ≡ false = grind (arith, nat_tests) in
    let e : (n == n) ≡ true = grind (arith, nat_tests) in
    rw (l, e) refl

pub put_again : (n : ℕ) (xs : List ℕ) → put_ascending n (put_ascending n xs) ≡ put_ascending n xs
put_again n [] = put_first n []
put_again n (x ∷ xs) =
    by_test (nat_lt n x)
    (λ l. rw l (put_first n (x ∷ xs)))
    (λ l. by_test (n == x)
    (λ e. rw (l, e) (rw (l, e) refl))
    (λ e. rw (l, e) (rw (l, e) (ap (λ (r : List ℕ). x ∷ r) (put_again n xs)))))
