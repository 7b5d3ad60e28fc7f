use Rattle.std.proofs.Common.{◌≡◌, length, ap, sym, refl, ◌∙◌, arith, Some, None}
use Rattle.net_world.specs.Calls.{Carried}
use Rattle.net_world.specs.Deliveries.{due}
use Rattle.net_world.proofs.TiedSteps.{due_told, tied_got, tied_idle, whole}
use Rattle.net_world.proofs.traffics.Traffic.take.Goals as goal

pub returns-in_default-clause-due : goal.returns-in_default-clause-due
returns-in_default-clause-due c =
    let none = rw c.deref_mut.ensures.value at c.in_default.ensures.due in
    let due = ap (λ (t : Carried). due t.opening t.calls c.args.at) (sym c.self.view_is) ∙ due_told _ _ _ _ _ _ c.self.invariant c.args.at None none in
    rw due tt

pub invariant_of-self : goal.invariant_of-self
invariant_of-self c =
    let n = rw c.deref_mut.ensures.value at c.in_default.ensures in
    let boxes : c.self.inside.boxes.len ≡ length c.next_for.new.boxes = omega (arith, c.next_for.auto.boxes, c.deref_mut.ensures.len) in
    rw (whole _ _ _ boxes, c.then-self-inside.ensures)
    (tied_idle _ _ _ _ _ _ c.self.invariant c.args.at c.next_for.new.boxes n.rest n.order n.fit n.others n.due)

pub returns-clause-due : goal.returns-clause-due
returns-clause-due c =
    let n = rw c.deref_mut.ensures.value at c.in-Some.ensures in
    let due = ap (λ (t : Carried). due t.opening t.calls c.args.at) (sym c.self.view_is) ∙ due_told _ _ _ _ _ _ c.self.invariant c.args.at (Some c.in-Some.next) n.due in
    rw due (refl, rw (c.as_slice-len.ensures, ← c.as_slice.ensures) c.put_front.ensures)

pub invariant_of-self-2 : goal.invariant_of-self-2
invariant_of-self-2 c =
    let n = rw c.deref_mut.ensures.value at c.in-Some.ensures in
    let boxes : c.self.inside.boxes.len ≡ length c.next_for.new.boxes = omega (arith, c.next_for.auto.boxes, c.deref_mut.ensures.len) in
    rw (whole _ _ _ boxes, c.then-self-inside-2.ensures)
    (tied_got _ _ _ _ _ _ c.self.invariant c.args.at c.next_for.new.boxes n.rest n.order n.fit n.others c.in-Some.next.from c.as_slice-2.result.now c.in-Some.next n.due refl c.as_slice-2.ensures)
