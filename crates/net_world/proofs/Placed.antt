-- Deliveries at their places.
use Rattle.std.proofs.Common.{◌≡◌, ℕ, ◌+◌, ◌<◌, ◌≤◌, List, [], ◌∷◌, ◌++◌, length, take, drop, get_or, Bool, true, false, cond, zero, suc, refl, ap, sym, ◌∙◌, ◌⊎◌, inl, inr, arith, nat_lt}
use Rattle.std.specs.List.{filter, insert}
use Rattle.std.proofs.lemmas.Bool.{cases_Bool}
use Rattle.std.proofs.lemmas.Bool.Decides.{nat_tests}
use Rattle.std.proofs.lemmas.List.{take-append-drop}
use Rattle.net_world.specs.declared.deliveries.Arrival.{Arrival}
use Rattle.net_world.specs.Deliveries.{put_in_place}
use Rattle.net_world.specs.Queues.{NoneBefore, InOrder}

lt_true : (a b : ℕ) → nat_lt a b ≡ true → a < b
lt_true a b h = grind (arith, nat_tests)

lt_false : (a b : ℕ) → nat_lt a b ≡ false → b ≤ a
lt_false a b h = grind (arith, nat_tests)

lt_is_true : (a b : ℕ) → a < b → nat_lt a b ≡ true
lt_is_true a b h = grind (arith, nat_tests)

lt_is_false : (a b : ℕ) → b ≤ a → nat_lt a b ≡ false
lt_is_false a b h = grind (arith, nat_tests)

placed_here : (d e : Arrival) (q : List Arrival) → nat_lt d.due e.due ≡ true → put_in_place d (e ∷ q) ≡ d ∷ e ∷ q
placed_here d e q before = rw before refl

placed_on : (d e : Arrival) (q : List Arrival) → nat_lt d.due e.due ≡ false → put_in_place d (e ∷ q) ≡ e ∷ put_in_place d q
placed_on d e q behind = rw behind refl

pub NoneBefore-less : (n m : ℕ) (q : List Arrival) → n ≤ m → NoneBefore m q → NoneBefore n q
NoneBefore-less n m [] le h = tt
NoneBefore-less n m (d ∷ q) le h = (omega (arith, h.0), NoneBefore-less n m q le h.1)

pub NoneBefore-filter : (p : Arrival → Bool) (n : ℕ) (q : List Arrival) → NoneBefore n q → NoneBefore n (filter p q)
NoneBefore-filter p n [] h = tt
NoneBefore-filter p n (d ∷ q) h =
    elim (cases_Bool (p d)) [ inl passes ↦ rw passes (h.0, NoneBefore-filter p n q h.1) | inr fails ↦ rw fails (NoneBefore-filter p n q h.1) ]

NoneBefore-placed : (n : ℕ) (d : Arrival) (q : List Arrival) → n ≤ d.due → NoneBefore n q → NoneBefore n (put_in_place d q)
NoneBefore-placed n d [] le h = (le, tt)
NoneBefore-placed n d (e ∷ q) le h =
    elim (cases_Bool (nat_lt d.due e.due)) [ inl before ↦ rw (placed_here d e q before) (le, h) | inr behind ↦ rw (placed_on d e q behind) (h.0, NoneBefore-placed n d q le h.1) ]

pub InOrder-placed : (d : Arrival) (q : List Arrival) → InOrder q → InOrder (put_in_place d q)
InOrder-placed d [] h = (tt, tt)
InOrder-placed d (e ∷ q) h =
    elim (cases_Bool (nat_lt d.due e.due)) [
      | inl before ↦ let le : d.due ≤ e.due = omega (arith, lt_true d.due e.due before) in rw (placed_here d e q before) ((le, NoneBefore-less d.due e.due q le h.0), h)
      | inr behind ↦ rw (placed_on d e q behind) (NoneBefore-placed e.due d q (lt_false d.due e.due behind) h.0, InOrder-placed d q h.1)
    ]

-- a delivery that is due before all others stands first
pub placed_front : (d : Arrival) (q : List Arrival) → NoneBefore (d.due + 1) q → put_in_place d q ≡ d ∷ q
placed_front d [] h = refl
placed_front d (e ∷ q) h = let lt : d.due < e.due = omega (arith, h.0) in placed_here d e q (lt_is_true d.due e.due lt)

module _ (p : Arrival → Bool) (d : Arrival) where
  pub filter-placed_no : p d ≡ false → (q : List Arrival) → filter p (put_in_place d q) ≡ filter p q
  filter-placed_no fails [] = rw fails refl
  filter-placed_no fails (e ∷ q) =
      elim (cases_Bool (nat_lt d.due e.due)) [
        | inl before ↦ rw (placed_here d e q before, fails) refl
        | inr behind ↦ rw (placed_on d e q behind) (ap (λ (r : List Arrival). cond (p e) (e ∷ r) r) (filter-placed_no fails q))
      ]

  behind_all : (e : Arrival) (q : List Arrival) → nat_lt d.due e.due ≡ false → filter p (put_in_place d q) ≡ put_in_place d (filter p q) → (p e ≡ true) ⊎ (p e ≡ false)
      → filter p (put_in_place d (e ∷ q)) ≡ put_in_place d (filter p (e ∷ q))
  behind_all e q behind same (inl passes) = rw (placed_on d e q behind, passes) (ap (λ (r : List Arrival). e ∷ r) same ∙ sym (placed_on d e (filter p q) behind))
  behind_all e q behind same (inr fails) = rw (placed_on d e q behind, fails) same

  pub filter-placed_yes : p d ≡ true → (q : List Arrival) → InOrder q → filter p (put_in_place d q) ≡ put_in_place d (filter p q)
  filter-placed_yes passes [] h = rw passes refl
  filter-placed_yes passes (e ∷ q) h =
      elim (cases_Bool (nat_lt d.due e.due)) [
        | inl before ↦
            let later : NoneBefore (d.due + 1) (e ∷ q) = (omega (arith, lt_true d.due e.due before), NoneBefore-less (d.due + 1) e.due q (omega (arith, lt_true d.due e.due before)) h.0) in
            rw (placed_here d e q before, passes) (sym (placed_front d (filter p (e ∷ q)) (NoneBefore-filter p (d.due + 1) (e ∷ q) later)))
        | inr behind ↦ behind_all e q behind (filter-placed_yes passes q h.1) (cases_Bool (p e))
      ]

-- none of them is due after this number
abbrev pub NoneAfter : ℕ → List Arrival → Type 0
NoneAfter n [] = Unit {0}
NoneAfter n (d ∷ ds) = (d.due ≤ n) × NoneAfter n ds

placed_between : (d : Arrival) (xs ys : List Arrival) → NoneAfter d.due xs → NoneBefore (d.due + 1) ys → put_in_place d (xs ++ ys) ≡ xs ++ d ∷ ys
placed_between d [] ys before after = placed_front d ys after
placed_between d (e ∷ xs) ys before after =
    placed_on d e (xs ++ ys) (lt_is_false d.due e.due before.0) ∙ ap (λ (r : List Arrival). e ∷ r) (placed_between d xs ys before.1 after)

pub placed_at : (d : Arrival) (q : List Arrival) (i : ℕ) → NoneAfter d.due (take i q) → NoneBefore (d.due + 1) (drop i q) → put_in_place d q ≡ insert q i d
placed_at d q i before after = ap (put_in_place d) (sym (take-append-drop i q)) ∙ placed_between d (take i q) (drop i q) before after

NoneBefore-at : (n : ℕ) (q : List Arrival) (i : ℕ) (d : Arrival) → i < length q → NoneBefore n q → n ≤ (get_or q i d).due
NoneBefore-at n [] i d here h = absurd (omega arith)
NoneBefore-at n (e ∷ q) zero d here h = h.0
NoneBefore-at n (e ∷ q) (suc i) d here h = let there : i < length q = omega arith in NoneBefore-at n q i d there h.1

-- up to one that is due fails later, all are
pub NoneAfter-front : (n : ℕ) (q : List Arrival) (i : ℕ) (d : Arrival) → i < length q → InOrder q → (get_or q i d).due ≤ n → NoneAfter n (take (suc i) q)
NoneAfter-front n [] i d here h le = absurd (omega arith)
NoneAfter-front n (e ∷ q) zero d here h le = (le, tt)
NoneAfter-front n (e ∷ q) (suc i) d here h le =
    let there : i < length q = omega arith in
    let first : e.due ≤ (get_or q i d).due = NoneBefore-at e.due q i d there h.0 in
    (omega arith, NoneAfter-front n q i d there h.1 le)

-- a place behind one that is due no later, and before all that are due later
pub placed_behind : (d x : Arrival) (q : List Arrival) (i j : ℕ) → i ≡ suc j → j < length q → InOrder q → x ≡ get_or q j x → x.due ≤ d.due → NoneBefore (d.due + 1) (drop i q) → put_in_place d q ≡ insert q i d
placed_behind d x q i j next here order is le after =
    let last : (get_or q j x).due ≤ d.due = rw (← is) le in
    placed_at d q i (rw next (NoneAfter-front d.due q j x here order last)) after
