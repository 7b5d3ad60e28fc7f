-- What is kept for an address, when messages are sent and taken.
use Rattle.std.proofs.Common.{◌≡◌, ℕ, ◌+◌, ◌≤◌, ◌&&◌, List, [], ◌∷◌, length, map, Bool, true, false, cond, Option, Some, refl, ap, sym, ◌∙◌, ◌⊎◌, inl, inr, arith, nat_le, nat_lt}
use Rattle.std.specs.List.{filter}
use Rattle.std.proofs.lemmas.Bool.{cases_Bool}
use Rattle.std.proofs.lemmas.Bool.Decides.{nat_tests}
use Rattle.dcp_types.specs.declared.addresses.Address.{Address}
use Rattle.dcp_ends.specs.Logs.{same_address}
use Rattle.dcp_net.specs.Firsts.{first_that, without_first}
use Rattle.net_world.specs.declared.deliveries.Arrival.{Arrival}
use Rattle.net_world.specs.Deliveries.{all_placed, delivery, is_due_now, is_ready_for, is_young, put_in_place}
use Rattle.net_world.specs.Queues.{AllShort, InOrder, NoneBefore}
use Rattle.net_world.specs.Tied.{Queues, is_kept}
use Rattle.net_world.proofs.Placed.{InOrder-placed, filter-placed_no, filter-placed_yes}
use Rattle.net_world.proofs.Boxed.{same_is_one, same_self}

module _ {A : Type 0} where
  -- one test after another, and both at once
  pub filter-both : (p r s : A → Bool) → ((x : A) → s x ≡ (r x && p x)) → (xs : List A) → filter p (filter r xs) ≡ filter s xs
  filter-both p r s both [] = refl
  filter-both p r s both (x ∷ xs) =
      elim (cases_Bool (r x)) [
        | inl passes ↦
            let e : s x ≡ p x = both x ∙ ap (λ (b : Bool). b && p x) passes in
            rw (passes, e) (ap (λ (ys : List A). cond (p x) (x ∷ ys) ys) (filter-both p r s both xs))
        | inr fails ↦
            let e : s x ≡ false = both x ∙ ap (λ (b : Bool). b && p x) fails in
            rw (fails, e) (filter-both p r s both xs)
      ]

  module _ (p r t : A → Bool) (both : (x : A) → r x ≡ (p x && t x)) where
    pub first_both : (xs : List A) → first_that r xs ≡ first_that t (filter p xs)
    first_both [] = refl
    first_both (x ∷ xs) =
        elim (cases_Bool (p x)) [
          | inl passes ↦
              let e : r x ≡ t x = both x ∙ ap (λ (b : Bool). b && t x) passes in
              rw (passes, e) (ap (λ (o : Option A). cond (t x) (Some x) o) (first_both xs))
          | inr fails ↦
              let e : r x ≡ false = both x ∙ ap (λ (b : Bool). b && t x) fails in
              rw (fails, e) (first_both xs)
        ]

    without_cases : (x : A) (xs : List A) → filter p (without_first r xs) ≡ without_first t (filter p xs) → p x ≡ true → (t x ≡ true) ⊎ (t x ≡ false) → filter p (without_first r (x ∷ xs)) ≡ without_first t (filter p (x ∷ xs))
    without_cases x xs same passes (inl found) =
        let e : r x ≡ true = both x ∙ ap (λ (b : Bool). b && t x) passes ∙ found in rw (e, passes, found) refl
    without_cases x xs same passes (inr other) =
        let e : r x ≡ false = both x ∙ ap (λ (b : Bool). b && t x) passes ∙ other in rw (e, passes, other) (ap (λ (ys : List A). x ∷ ys) same)

    pub without_both : (xs : List A) → filter p (without_first r xs) ≡ without_first t (filter p xs)
    without_both [] = refl
    without_both (x ∷ xs) =
        elim (cases_Bool (p x)) [
          | inl passes ↦ without_cases x xs (without_both xs) passes (cases_Bool (t x))
          | inr fails ↦
              let e : r x ≡ false = both x ∙ ap (λ (b : Bool). b && t x) fails in
              rw (e, fails) (without_both xs)
        ]

  -- what is removed did not pass
  pub without_other : (p r : A → Bool) → ((x : A) → r x ≡ true → p x ≡ false) → (xs : List A) → filter p (without_first r xs) ≡ filter p xs
  without_other p r apart [] = refl
  without_other p r apart (x ∷ xs) =
      elim (cases_Bool (r x)) [
        | inl found ↦ let e : p x ≡ false = apart x found in rw (found, e) refl
        | inr other ↦ rw other (ap (λ (ys : List A). cond (p x) (x ∷ ys) ys) (without_other p r apart xs))
      ]

younger : (a b n : ℕ) → a ≤ b → nat_le b n ≡ (nat_le a n && nat_le b n)
younger a b n le = grind (arith, nat_tests)

and_twice : (s y z : Bool) → z ≡ (y && z) → (s && z) ≡ ((s && y) && z)
and_twice true y z e = e
and_twice false y z e = refl

and_apart : (s d y : Bool) → (s && (d && y)) ≡ ((s && y) && (d && y))
and_apart true true true = refl
and_apart true true false = refl
and_apart true false true = refl
and_apart true false false = refl
and_apart false d y = refl

and_swapped : (d y : Bool) → (d && y) ≡ (y && (d && y))
and_swapped true true = refl
and_swapped true false = refl
and_swapped false true = refl
and_swapped false false = refl

and_first : (a b : Bool) → (a && b) ≡ true → a ≡ true
and_first true b h = refl
and_first false b h = h

-- later, fewer are young
pub Queues-later : (now then : ℕ) (all : List Arrival) (at : Address) (queue : List Arrival) → now ≤ then → Queues now all at queue → Queues then all at queue
Queues-later now then all at queue le h = record {
  same =
      sym (filter-both (is_young then) (is_young now) (is_young then) (λ d. younger now then (d.number + 32767) le) queue)
      ∙ ap (filter (is_young then)) h.same
      ∙ filter-both (is_young then) (is_kept at now) (is_kept at then) (λ d. and_twice (same_address d.to at) (is_young now d) (is_young then d) (younger now then (d.number + 32767) le)) all;
  order = h.order;
  fit = h.fit;
}

AllFit-placed : (d : Arrival) (queue : List Arrival) → length d.bytes ≤ 1025 → AllShort queue → AllShort (put_in_place d queue)
AllFit-placed d [] fits h = (fits, tt)
AllFit-placed d (e ∷ queue) fits h =
    elim (cases_Bool (nat_lt d.due e.due)) [ inl before ↦ rw before (fits, h) | inr behind ↦ rw behind (h.0, AllFit-placed d queue fits h.1) ]

module _ (sent : ℕ) (all : List Arrival) (order : InOrder all) (d : Arrival) where
  Queues-placed : (at : Address) (queue : List Arrival) → same_address d.to at ≡ true → is_young sent d ≡ true → length d.bytes ≤ 1025 → Queues sent all at queue → Queues sent (put_in_place d all) at (put_in_place d queue)
  Queues-placed at queue mine young fits h =
      let kept : is_kept at sent d ≡ true = ap (λ (b : Bool). b && is_young sent d) mine ∙ young in
      record {
        same = filter-placed_yes (is_young sent) d young queue h.order ∙ ap (put_in_place d) h.same ∙ sym (filter-placed_yes (is_kept at sent) d kept all order);
        order = InOrder-placed d queue h.order;
        fit = AllFit-placed d queue fits h.fit;
      }

  Queues-other : (at : Address) (queue : List Arrival) → same_address d.to at ≡ false → Queues sent all at queue → Queues sent (put_in_place d all) at queue
  Queues-other at queue other h =
      let kept : is_kept at sent d ≡ false = ap (λ (b : Bool). b && is_young sent d) other in
      record { same = h.same ∙ sym (filter-placed_no (is_kept at sent) d kept all); order = h.order; fit = h.fit }

pub InOrder-all_placed : (ds all : List Arrival) → InOrder all → InOrder (all_placed ds all)
InOrder-all_placed [] all order = order
InOrder-all_placed (d ∷ ds) all order = InOrder-all_placed ds (put_in_place d all) (InOrder-placed d all order)

module _ (sent number : ℕ) (from to : Address) (bytes : List ℕ) (young : sent ≤ number + 32767) (fits : length bytes ≤ 1025) where
  is_now : nat_le sent (number + 32767) ≡ true
  is_now = grind (arith, nat_tests)

  pub Queues-sent : (lags : List ℕ) (all queue : List Arrival) → InOrder all → Queues sent all to queue
      → Queues sent (all_placed (map (delivery number from to bytes) lags) all) to (all_placed (map (delivery number from to bytes) lags) queue)
  Queues-sent [] all queue order h = h
  Queues-sent (lag ∷ lags) all queue order h =
      Queues-sent lags (put_in_place (delivery number from to bytes lag) all) (put_in_place (delivery number from to bytes lag) queue) (InOrder-placed (delivery number from to bytes lag) all order)
      (Queues-placed sent all order (delivery number from to bytes lag) to queue (same_self to) is_now fits h)

  pub Queues-sent_other : (at : Address) → same_address to at ≡ false → (lags : List ℕ) (all queue : List Arrival) → InOrder all → Queues sent all at queue
      → Queues sent (all_placed (map (delivery number from to bytes) lags) all) at queue
  Queues-sent_other at other [] all queue order h = h
  Queues-sent_other at other (lag ∷ lags) all queue order h =
      Queues-sent_other at other lags (put_in_place (delivery number from to bytes lag) all) queue (InOrder-placed (delivery number from to bytes lag) all order)
      (Queues-other sent all order (delivery number from to bytes lag) at queue other h)

module _ (sent : ℕ) (all queue : List Arrival) (at : Address) (h : Queues sent all at queue) where
  -- what is due at an address is what is due in its queue
  pub due_in_queue : first_that (is_ready_for at sent) all ≡ first_that (is_due_now sent) (filter (is_young sent) queue)
  due_in_queue =
      first_both (is_kept at sent) (is_ready_for at sent) (is_due_now sent) (λ d. and_apart (same_address d.to at) (nat_le d.due sent) (is_young sent d)) all
      ∙ ap (first_that (is_due_now sent)) (sym h.same)

  pub Queues-taken : (rest : List Arrival) → filter (is_young sent) rest ≡ without_first (is_due_now sent) (filter (is_young sent) queue) → InOrder rest → AllShort rest
      → Queues sent (without_first (is_ready_for at sent) all) at rest
  Queues-taken rest left order fit = record {
    same = left ∙ ap (without_first (is_due_now sent)) h.same
        ∙ sym (without_both (is_kept at sent) (is_ready_for at sent) (is_due_now sent) (λ d. and_apart (same_address d.to at) (nat_le d.due sent) (is_young sent d)) all);
    order = order;
    fit = fit;
  }

kept_apart : (a at : Address) (sent : ℕ) (d : Arrival) → same_address at a ≡ false → is_ready_for at sent d ≡ true → is_kept a sent d ≡ false
kept_apart a at sent d other ready =
    let here : d.to ≡ at = same_is_one d.to at (and_first (same_address d.to at) (is_due_now sent d) ready) in
    let there : same_address d.to a ≡ false = ap (λ (x : Address). same_address x a) here ∙ other in
    ap (λ (b : Bool). b && is_young sent d) there

pub Queues-taken_other : (sent : ℕ) (all queue : List Arrival) (a at : Address) → same_address at a ≡ false → Queues sent all a queue → Queues sent (without_first (is_ready_for at sent) all) a queue
Queues-taken_other sent all queue a at other h = record {
  same = h.same ∙ sym (without_other (is_kept a sent) (is_ready_for at sent) (λ d ready. kept_apart a at sent d other ready) all);
  order = h.order;
  fit = h.fit;
}

-- what is not due stays
NoneBefore-without : (p : Arrival → Bool) (n : ℕ) (all : List Arrival) → NoneBefore n all → NoneBefore n (without_first p all)
NoneBefore-without p n [] h = tt
NoneBefore-without p n (d ∷ all) h = elim (cases_Bool (p d)) [ inl found ↦ rw found h.1 | inr other ↦ rw other (h.0, NoneBefore-without p n all h.1) ]

pub InOrder-without : (p : Arrival → Bool) (all : List Arrival) → InOrder all → InOrder (without_first p all)
InOrder-without p [] h = tt
InOrder-without p (d ∷ all) h = elim (cases_Bool (p d)) [ inl found ↦ rw found h.1 | inr other ↦ rw other (NoneBefore-without p d.due all h.0, InOrder-without p all h.1) ]
