use Rattle.net_world.proofs.Boxed.{queue_after, queue_after_other, queue_here}
use Rattle.net_world.proofs.mailboxes.post.Goals as goal

pub place_all-requires-clause-order : goal.place_all-requires-clause-order
place_all-requires-clause-order c = rw (← queue_here c.args.to c.args.boxes.now c.args.i c.index-boxes-i.result c.requires.found) c.requires.order

pub returns-clause-after : goal.returns-clause-after
returns-clause-after c = rw (queue_after c.args.to c.args.boxes.now c.args.i c.index-boxes-i.result c.requires.found c.place_all.new.queue, queue_here c.args.to c.args.boxes.now c.args.i c.index-boxes-i.result c.requires.found) c.place_all.ensures

pub returns-clause-others : goal.returns-clause-others
returns-clause-others c = queue_after_other c.args.to c.args.boxes.now c.args.i c.index-boxes-i.result c.requires.found c.place_all.new.queue
