-- What comes to wait, call by call.
use Rattle.std.proofs.Common.{◌≡◌, ◌∙◌, ℕ, ◌+◌, ◌-◌, ◌<◌, ◌≤◌, Bool, true, false, List, [], ◌∷◌, ◌++◌, length, take, refl, sym, ap, arith, append_assoc, ◌⊎◌, inl, inr, min}
use Rattle.std.specs.Prelude.{if◌then◌else◌}
use Rattle.std.proofs.Math.Seq.{take-append-add}
use Rattle.std.proofs.lemmas.Bool.{cases_lt}
use Rattle.std.proofs.lemmas.List.{append-nil, length-append, length-take, take-append-le, take_all}
use Rattle.dcp_types.specs.declared.addresses.Address.{Address}
use Rattle.dcp_ends.specs.declared.entries.LogEntry.{LogEntry}
use Rattle.dcp_ends.specs.declared.entries.LogEntry.TheVariants.{Sent, Got, Idle, Turn}
use Rattle.bridge.specs.declared.sides.BridgeSide.{BridgeSide}
use Rattle.bridge.specs.declared.crossings.Crossing.{Crossing}
use Rattle.bridge.specs.declared.passing.Passed.{Passed}
use Rattle.bridge.specs.Bridges.{WayView}
use Rattle.bridge.specs.Carried.{carried_to}
use Rattle.bridge.specs.Passes.{AllSends, came_in, gone_out, is_from_here, let_in, strange_in}
use Rattle.bridge.specs.Steps.{Admits}

-- ---- calls one after another

if-append : {A : Type 0} (b : Bool) (x : A) (xs ys : List A) → (if b then x ∷ (xs ++ ys) else xs ++ ys) ≡ (if b then x ∷ xs else xs) ++ ys
if-append true x xs ys = refl
if-append false x xs ys = refl

pub came_in-append : (living : List Address) (to : BridgeSide) (p q : List LogEntry) → came_in living to (p ++ q) ≡ came_in living to p ++ came_in living to q
came_in-append living to [] q = refl
came_in-append living to (Got at from bytes ∷ p) q =
    ap (λ (xs : List Crossing). if is_from_here living from bytes then record { from = from; to = at; bytes = carried_to to bytes } ∷ xs else xs) (came_in-append living to p q)
    ∙ if-append (is_from_here living from bytes) _ (came_in living to p) (came_in living to q)
came_in-append living to (Sent from at bytes ∷ p) q = came_in-append living to p q
came_in-append living to (Idle at ∷ p) q = came_in-append living to p q
came_in-append living to (Turn at ∷ p) q = came_in-append living to p q

pub strange_in-append : (living : List Address) (p q : List LogEntry) → strange_in living (p ++ q) ≡ strange_in living p + strange_in living q
strange_in-append living [] q = omega arith
strange_in-append living (Got at from bytes ∷ p) q = let rest = strange_in-append living p q in omega arith
strange_in-append living (Sent from at bytes ∷ p) q = strange_in-append living p q
strange_in-append living (Idle at ∷ p) q = strange_in-append living p q
strange_in-append living (Turn at ∷ p) q = strange_in-append living p q

pub gone_out-append : (p q : List LogEntry) → gone_out (p ++ q) ≡ gone_out p ++ gone_out q
gone_out-append [] q = refl
gone_out-append (Sent from to bytes ∷ p) q = ap (λ (xs : List Crossing). record { from = from; to = to; bytes = bytes } ∷ xs) (gone_out-append p q)
gone_out-append (Got at from bytes ∷ p) q = gone_out-append p q
gone_out-append (Idle at ∷ p) q = gone_out-append p q
gone_out-append (Turn at ∷ p) q = gone_out-append p q

pub AllSends-append : (p q : List LogEntry) → AllSends p → AllSends q → AllSends (p ++ q)
AllSends-append [] q ps qs = qs
AllSends-append (Sent from to bytes ∷ p) q ps qs = AllSends-append p q ps qs
AllSends-append (Got at from bytes ∷ p) q ps qs = absurd ps
AllSends-append (Idle at ∷ p) q ps qs = absurd ps
AllSends-append (Turn at ∷ p) q ps qs = absurd ps

-- sends take nothing
pub sends_take_none : (living : List Address) (to : BridgeSide) (p : List LogEntry) → AllSends p → came_in living to p ≡ []
sends_take_none living to [] all = refl
sends_take_none living to (Sent from at bytes ∷ p) all = sends_take_none living to p all
sends_take_none living to (Got at from bytes ∷ p) all = absurd all
sends_take_none living to (Idle at ∷ p) all = absurd all
sends_take_none living to (Turn at ∷ p) all = absurd all

pub sends_are_not_strange : (living : List Address) (p : List LogEntry) → AllSends p → strange_in living p ≡ 0
sends_are_not_strange living [] all = refl
sends_are_not_strange living (Sent from at bytes ∷ p) all = sends_are_not_strange living p all
sends_are_not_strange living (Got at from bytes ∷ p) all = absurd all
sends_are_not_strange living (Idle at ∷ p) all = absurd all
sends_are_not_strange living (Turn at ∷ p) all = absurd all

-- ---- room for 256

take-over : {A : Type 0} (k : ℕ) (xs ys : List A) → take k (xs ++ ys) ≡ take k xs ++ take (k - length xs) ys
take-over k xs ys = by (cases_lt k (length xs))
  where
    by : (k < length xs) ⊎ (length xs ≤ k) → take k (xs ++ ys) ≡ take k xs ++ take (k - length xs) ys
    by (inl below) =
        let n : k ≤ length xs = omega arith in
        let none : k - length xs ≡ 0 = omega arith in
        take-append-le k xs ys n ∙ sym (append-nil (take k xs)) ∙ ap (λ (m : ℕ). take k xs ++ take m ys) (sym none)
    by (inr above) =
        let is : k ≡ length xs + (k - length xs) = omega arith in
        ap (λ (m : ℕ). take m (xs ++ ys)) is ∙ take-append-add xs ys (k - length xs) ∙ ap (λ (zs : List _). zs ++ take (k - length xs) ys) (sym (take_all k xs above))

-- what is let in after others were
pub let_in-append : (waiting p q : List Crossing) → (waiting ++ let_in waiting p) ++ let_in (waiting ++ let_in waiting p) q ≡ waiting ++ let_in waiting (p ++ q)
let_in-append waiting p q =
    let k : ℕ = 256 - length waiting in
    let lengths : length (waiting ++ let_in waiting p) ≡ length waiting + min k (length p) = length-append waiting (take k p) ∙ ap (λ (m : ℕ). length waiting + m) (length-take k p) in
    let room : 256 - length (waiting ++ let_in waiting p) ≡ k - length p = omega arith in
    ap (λ (m : ℕ). (waiting ++ let_in waiting p) ++ take m q) room
    ∙ append_assoc waiting (take k p) (take (k - length p) q)
    ∙ ap (λ (xs : List Crossing). waiting ++ xs) (sym (take-over k p q))

-- ---- what is admitted

take-nil : {A : Type 0} (n : ℕ) → take n (let none : List A = [] in none) ≡ []
take-nil n = take_all n [] (omega arith)

pub Admits-none : (way : WayView) (passed : Passed) → Admits [] way way passed passed
Admits-none way passed = record {
  to = refl;
  living = refl;
  waits = sym (ap (λ (xs : List Crossing). way.waiting ++ xs) (take-nil (256 - length way.waiting)) ∙ append-nil way.waiting);
  kept = refl;
  came = omega arith;
  strange = omega arith;
}

module _ (p q : List LogEntry) (a b c : WayView) (x y z : Passed) (first : Admits p a b x y) (second : Admits q b c y z) where
  all_came : came_in a.living a.to (p ++ q) ≡ came_in a.living a.to p ++ came_in a.living a.to q
  all_came = came_in-append a.living a.to p q

  came_too : came_in b.living b.to q ≡ came_in a.living a.to q
  came_too = ap (λ (living : List Address). came_in living b.to q) first.living ∙ ap (λ (to : BridgeSide). came_in a.living to q) first.to

  strange_too : strange_in b.living q ≡ strange_in a.living q
  strange_too = ap (λ (living : List Address). strange_in living q) first.living

  waits_then : c.waiting ≡ a.waiting ++ let_in a.waiting (came_in a.living a.to (p ++ q))
  waits_then =
      second.waits
      ∙ ap (λ (xs : List Crossing). b.waiting ++ let_in b.waiting xs) came_too
      ∙ ap (λ (ws : List Crossing). ws ++ let_in ws (came_in a.living a.to q)) first.waits
      ∙ let_in-append a.waiting (came_in a.living a.to p) (came_in a.living a.to q)
      ∙ ap (λ (xs : List Crossing). a.waiting ++ let_in a.waiting xs) (sym all_came)

  pub Admits-join : Admits (p ++ q) a c x z
  Admits-join =
      let count : length (came_in a.living a.to (p ++ q)) ≡ length (came_in a.living a.to p) + length (came_in a.living a.to q) = ap length all_came ∙ length-append _ _ in
      let counted : length (came_in b.living b.to q) ≡ length (came_in a.living a.to q) = ap length came_too in
      let odd : strange_in a.living (p ++ q) ≡ strange_in a.living p + strange_in a.living q = strange_in-append a.living p q in
      let odd_too : strange_in b.living q ≡ strange_in a.living q = strange_too in
      let kept : (y.carried + length a.waiting ≡ x.carried + length b.waiting) × (z.carried + length b.waiting ≡ y.carried + length c.waiting) = (first.kept, second.kept) in
      let came : y.carried + y.dropped ≡ (x.carried + x.dropped) + length (came_in a.living a.to p) = first.came in
      let came_next : z.carried + z.dropped ≡ (y.carried + y.dropped) + length (came_in b.living b.to q) = second.came in
      record {
        to = second.to ∙ first.to;
        living = second.living ∙ first.living;
        waits = waits_then;
        kept = omega arith;
        came = omega arith;
        strange = omega (arith, first.strange, second.strange);
      }
