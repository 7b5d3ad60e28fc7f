use Rattle.std.proofs.Common.{◌<◌, length, sym, rules}
use Rattle.net_world.specs.Deliveries.{is_young}
use Rattle.net_world.proofs.Queued.{nothing_due}
use Rattle.net_world.proofs.queues.next_due.Goals as goal

pub returns-then-sent-front-clause-due : goal.returns-then-sent-front-clause-due
returns-then-sent-front-clause-due c =
    let some : 0 < length c.drop_gone.new.queue.items = search rules in
    let nothing = nothing_due (is_young c.args.sent) c.args.sent c.drop_gone.new.queue.items c.in-Some.front.now some c.drop_gone.ensures.order c.in-Some.ensures.lookup c.if-sent-front.true in
    sym (rw c.drop_gone.ensures.young at nothing.0)

pub returns-then-sent-front-clause-rest : goal.returns-then-sent-front-clause-rest
returns-then-sent-front-clause-rest c =
    let some : 0 < length c.drop_gone.new.queue.items = search rules in
    let nothing = nothing_due (is_young c.args.sent) c.args.sent c.drop_gone.new.queue.items c.in-Some.front.now some c.drop_gone.ensures.order c.in-Some.ensures.lookup c.if-sent-front.true in
    rw (← c.drop_gone.ensures.young) (sym nothing.1)
