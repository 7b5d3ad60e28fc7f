-- Mailboxes, by their addresses.
use Rattle.std.proofs.Common.{◌≡◌, ℕ, ◌+◌, ◌<◌, ◌≤◌, List, [], ◌∷◌, ◌++◌, length, take, set, get_or, true, false, zero, suc, refl, sym, ap, ◌∙◌, inl, inr, arith, eq-eqb, Global}
use Rattle.std.specs.VecDeque.{deque_len, deque_capacity}
use Rattle.std.specs.declared.collections.VecDeque.{VecDeque}
use Rattle.std.proofs.lemmas.Bool.{cases_Bool}
use Rattle.std.proofs.lemmas.Bool.Decides.{nat_tests}
use Rattle.std.proofs.lemmas.List.{take_more}
use Rattle.dcp_types.specs.declared.addresses.Address.{Address}
use Rattle.dcp_ends.specs.Logs.{same_address}
use Rattle.net_world.specs.declared.deliveries.Arrival.{Arrival}
use Rattle.net_world.specs.declared.mailboxes.Mailbox.{Mailbox}
use Rattle.net_world.specs.Mailboxes.{is_box, queue_of, NoBox, IsFirstBox}

pub same_self : (a : Address) → same_address a a ≡ true
same_self a = rw (eq-eqb a.ip a.ip refl, eq-eqb a.port a.port refl) refl

NoBox-append : (at : Address) (xs ys : List Mailbox) → NoBox at xs → NoBox at ys → NoBox at (xs ++ ys)
NoBox-append at [] ys f s = s
NoBox-append at (x ∷ xs) ys f s = (f.0, NoBox-append at xs ys f.1 s)

pub none_more : (at : Address) (boxes : List Mailbox) (i : ℕ) (d : Mailbox) → i < length boxes → NoBox at (take i boxes) → is_box at (get_or boxes i d) ≡ false → NoBox at (take (i + 1) boxes)
none_more at boxes i d here none other = rw (take_more boxes i d here) (NoBox-append at (take i boxes) (get_or boxes i d ∷ []) none (other, tt))

pub first_found : (at : Address) (boxes : List Mailbox) (i : ℕ) (d : Mailbox) → i < length boxes → NoBox at (take i boxes) → is_box at (get_or boxes i d) ≡ true → IsFirstBox at boxes i
first_found at [] i d here none found = absurd (omega arith)
first_found at (b ∷ boxes) zero d here none found = found
first_found at (b ∷ boxes) (suc i) d here none found = let there : i < length boxes = omega arith in (none.0, first_found at boxes i d there none.1 found)

pub first_within : (at : Address) (boxes : List Mailbox) (i : ℕ) → IsFirstBox at boxes i → i < length boxes
first_within at [] i first = absurd first
first_within at (b ∷ boxes) zero first = omega arith
first_within at (b ∷ boxes) (suc i) first = let there : i < length boxes = first_within at boxes i first.1 in omega arith

pub first_is_box : (at : Address) (boxes : List Mailbox) (i : ℕ) (d : Mailbox) → IsFirstBox at boxes i → is_box at (get_or boxes i d) ≡ true
first_is_box at [] i d first = absurd first
first_is_box at (b ∷ boxes) zero d first = first
first_is_box at (b ∷ boxes) (suc i) d first = first_is_box at boxes i d first.1

pub queue_here : (at : Address) (boxes : List Mailbox) (i : ℕ) (d : Mailbox) → IsFirstBox at boxes i → queue_of at boxes ≡ (get_or boxes i d).queue.items
queue_here at [] i d first = absurd first
queue_here at (b ∷ boxes) zero d first = rw first refl
queue_here at (b ∷ boxes) (suc i) d first = rw first.0 (queue_here at boxes i d first.1)

-- one box is replaced by another of its address
module _ (at : Address) (box : Mailbox) (mine : is_box at box ≡ true) where
  pub first_set : (boxes : List Mailbox) (i : ℕ) → IsFirstBox at boxes i → IsFirstBox at (set boxes i box) i
  first_set [] i first = absurd first
  first_set (b ∷ boxes) zero first = mine
  first_set (b ∷ boxes) (suc i) first = (first.0, first_set boxes i first.1)

  pub queue_set_here : (boxes : List Mailbox) (i : ℕ) → IsFirstBox at boxes i → queue_of at (set boxes i box) ≡ box.queue.items
  queue_set_here [] i first = absurd first
  queue_set_here (b ∷ boxes) zero first = rw mine refl
  queue_set_here (b ∷ boxes) (suc i) first = rw first.0 (queue_set_here boxes i first.1)

pub queue_set_other : (at a : Address) (box : Mailbox) (boxes : List Mailbox) (i : ℕ) (d : Mailbox) → IsFirstBox at boxes i → box.at ≡ (get_or boxes i d).at → is_box a box ≡ false
    → queue_of a (set boxes i box) ≡ queue_of a boxes
queue_set_other at a box [] i d first same other = absurd first
queue_set_other at a box (b ∷ boxes) zero d first same other =
    let before : is_box a b ≡ false = ap (λ (p : Address). same_address p a) (sym same) ∙ other in rw (other, before) refl
queue_set_other at a box (b ∷ boxes) (suc i) d first same other =
    elim (cases_Bool (is_box a b)) [
      | inl here ↦ rw here refl
      | inr there ↦ rw there (queue_set_other at a box boxes i d first.1 same other)
    ]

-- the box is replaced by one of the same address and deliveries
pub queue_set_same : (at a : Address) (box : Mailbox) (boxes : List Mailbox) (i : ℕ) (d : Mailbox) → IsFirstBox at boxes i → box.at ≡ (get_or boxes i d).at → box.queue.items ≡ (get_or boxes i d).queue.items
    → queue_of a (set boxes i box) ≡ queue_of a boxes
queue_set_same at a box [] i d first same items = absurd first
queue_set_same at a box (b ∷ boxes) zero d first same items =
    let e : is_box a box ≡ is_box a b = ap (λ (p : Address). same_address p a) same in
    elim (cases_Bool (is_box a b)) [
      | inl here ↦ let there : is_box a box ≡ true = e ∙ here in rw (there, here) items
      | inr other ↦ let there : is_box a box ≡ false = e ∙ other in rw (there, other) refl
    ]
queue_set_same at a box (b ∷ boxes) (suc i) d first same items =
    elim (cases_Bool (is_box a b)) [
      | inl here ↦ rw here refl
      | inr other ↦ rw other (queue_set_same at a box boxes i d first.1 same items)
    ]

-- an empty box is added
module _ (box : Mailbox) (empty : box.queue.items ≡ []) where
  pub queue_added : (a : Address) (boxes : List Mailbox) → queue_of a (boxes ++ box ∷ []) ≡ queue_of a boxes
  queue_added a [] = elim (cases_Bool (is_box a box)) [ inl here ↦ rw here empty | inr other ↦ rw other refl ]
  queue_added a (b ∷ boxes) = elim (cases_Bool (is_box a b)) [ inl here ↦ rw here refl | inr other ↦ rw other (queue_added a boxes) ]

pub first_added : (at : Address) (box : Mailbox) (boxes : List Mailbox) → is_box at box ≡ true → NoBox at boxes → IsFirstBox at (boxes ++ box ∷ []) (length boxes)
first_added at box [] mine none = mine
first_added at box (b ∷ boxes) mine none = (none.0, first_added at box boxes mine none.1)

pub own_box_added : (at : Address) (box : Mailbox) (boxes : List Mailbox) (n : ℕ) → box.at ≡ at → n ≡ length boxes → NoBox at boxes → IsFirstBox at (boxes ++ box ∷ []) n
own_box_added at box boxes n is last none = rw last (first_added at box boxes (rw is (same_self at)) none)

pub room_set : (box : Mailbox) (boxes : List Mailbox) (i : ℕ) (d : Mailbox) → i < length boxes → deque_len box.queue + 2 ≤ deque_capacity box.queue
    → deque_len (get_or (set boxes i box) i d).queue + 2 ≤ deque_capacity (get_or (set boxes i box) i d).queue
room_set box [] i d here room = absurd (omega arith)
room_set box (b ∷ boxes) zero d here room = room
room_set box (b ∷ boxes) (suc i) d here room = let there : i < length boxes = omega arith in room_set box boxes i d there room

pub no_queue : (at : Address) (boxes : List Mailbox) → NoBox at boxes → queue_of at boxes ≡ []
no_queue at [] none = refl
no_queue at (b ∷ boxes) none = rw none.0 (no_queue at boxes none.1)

address : ℕ → ℕ → Address
address ip port = record { ip = ip; port = port }

-- two addresses that are the same are one
pub same_is_one : (a b : Address) → same_address a b ≡ true → a ≡ b
unfolding address
same_is_one a b h =
    let ip : a.ip ≡ b.ip = grind (arith, nat_tests) in
    let port : a.port ≡ b.port = grind (arith, nat_tests) in
    ap (λ (x : ℕ). address x a.port) ip ∙ ap (address b.ip) port

-- a box of this address is of no other
pub box_of_one : (at a : Address) (box : Mailbox) → is_box at box ≡ true → same_address at a ≡ false → is_box a box ≡ false
box_of_one at a box mine other = ap (λ (p : Address). same_address p a) (same_is_one box.at at mine) ∙ other

-- the queue of one box is replaced
module _ (at : Address) (boxes : List Mailbox) (i : ℕ) (x : Mailbox) (first : IsFirstBox at boxes i) (queue : VecDeque Arrival Global) where
  box : Mailbox
  box = record { at = (get_or boxes i x).at; queue = queue }

  mine : is_box at box ≡ true
  unfolding box
  mine = first_is_box at boxes i x first

  pub queue_after : queue_of at (set boxes i (record { at = (get_or boxes i x).at; queue = queue })) ≡ queue.items
  unfolding box
  queue_after = queue_set_here at box mine boxes i first

  pub queue_after_other : (a : Address) → same_address at a ≡ false → queue_of a (set boxes i (record { at = (get_or boxes i x).at; queue = queue })) ≡ queue_of a boxes
  unfolding box
  queue_after_other a other = queue_set_other at a box boxes i x first refl (box_of_one at a box mine other)
