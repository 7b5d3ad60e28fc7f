use Rattle.std.proofs.Common.{◌≡◌, length, arith, refl}
use Rattle.net_world.proofs.Boxed.{own_box_added, queue_added}
use Rattle.net_world.proofs.mailboxes.own_box.Goals as goal

pub returns-clause-same : goal.returns-clause-same
returns-clause-same c = λ a. rw (c.push_reserved.ensures.items, c.reserve.ensures.items) (queue_added _ c.new.ensures.items a c.args.boxes.now.items)

pub returns-clause-found : goal.returns-clause-found
returns-clause-found c =
    let last : c.len-i.result ≡ length c.args.boxes.now.items = omega (arith, c.len-i.ensures, c.reserve.ensures.len) in
    rw (c.push_reserved.ensures.items, c.reserve.ensures.items) (own_box_added c.args.at _ c.args.boxes.now.items c.len-i.result refl last (rw c.deref.ensures.value at c.in_default.ensures.found))
