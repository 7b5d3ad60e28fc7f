use Rattle.std.proofs.Common.{refl}
use Rattle.net_world.proofs.Placed.{InOrder-placed}
use Rattle.net_world.proofs.queues.place.Goals as goal

pub returns-clause-order : goal.returns-clause-order
returns-clause-order c = rw (c.in-Ok.ensures.items, ← c.place_of-i.ensures.place c.args.delivery refl) (InOrder-placed c.args.delivery c.args.queue.now.items c.requires.order)
