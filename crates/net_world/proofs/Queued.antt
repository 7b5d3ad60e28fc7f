-- What is due in a queue, by its front.
use Rattle.std.proofs.Common.{get_or, ◌≡◌, ℕ, ◌+◌, ◌-◌, ◌<◌, ◌≤◌, List, [], ◌∷◌, length, Bool, true, false, None, refl, ap, arith, nat_le}
use Rattle.std.specs.List.{filter}
use Rattle.std.proofs.lemmas.Bool.Decides.{nat_tests}
use Rattle.dcp_net.specs.Firsts.{first_that, without_first}
use Rattle.net_world.specs.declared.deliveries.Arrival.{Arrival}
use Rattle.net_world.specs.Deliveries.{is_due_now}
use Rattle.net_world.specs.Queues.{NoneBefore, InOrder}
use Rattle.net_world.proofs.Placed.{NoneBefore-filter}

pub young_now : (sent number : ℕ) → sent - number ≤ 32767 → nat_le sent (number + 32767) ≡ true
young_now sent number h = grind (arith, nat_tests)

pub gone_now : (sent number : ℕ) → 32767 < sent - number → nat_le sent (number + 32767) ≡ false
gone_now sent number h = grind (arith, nat_tests)

due_later : (due sent : ℕ) → sent < due → nat_le due sent ≡ false
due_later due sent h = grind (arith, nat_tests)

pub due_now : (due sent : ℕ) → due ≤ sent → nat_le due sent ≡ true
due_now due sent h = grind (arith, nat_tests)

-- where nothing is due yet, none is
pub none_due : (sent n : ℕ) (q : List Arrival) → NoneBefore n q → sent < n → first_that (is_due_now sent) q ≡ None
none_due sent n [] h lt = refl
none_due sent n (d ∷ q) h lt = let later : sent < d.due = omega (arith, h.0) in rw (due_later d.due sent later) (none_due sent n q h.1 lt)

pub all_stay : (sent n : ℕ) (q : List Arrival) → NoneBefore n q → sent < n → without_first (is_due_now sent) q ≡ q
all_stay sent n [] h lt = refl
all_stay sent n (d ∷ q) h lt = let later : sent < d.due = omega (arith, h.0) in rw (due_later d.due sent later) (ap (λ (r : List Arrival). d ∷ r) (all_stay sent n q h.1 lt))

-- nothing is due in a queue whose first is due later
pub nothing_due : (p : Arrival → Bool) (sent : ℕ) (q : List Arrival) (x : Arrival) → 0 < length q → InOrder q → x ≡ get_or q 0 x → sent < x.due
    → (first_that (is_due_now sent) (filter p q) ≡ None) × (without_first (is_due_now sent) (filter p q) ≡ filter p q)
nothing_due p sent [] x some order is lt = absurd (omega arith)
nothing_due p sent (d ∷ q) x some order is lt =
    let later : sent < d.due = rw (← is) lt in
    let all : NoneBefore d.due (filter p (d ∷ q)) = NoneBefore-filter p d.due (d ∷ q) (omega arith, order.0) in
    (none_due sent d.due (filter p (d ∷ q)) all later, all_stay sent d.due (filter p (d ∷ q)) all later)
