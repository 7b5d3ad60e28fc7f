use Rattle.std.proofs.Common.{refl}
use Rattle.net_world.proofs.Boxed.{no_queue, queue_after, queue_after_other, queue_here}
use Rattle.net_world.proofs.mailboxes.next_for.Goals as goal

pub returns-in_default-clause-due : goal.returns-in_default-clause-due
returns-in_default-clause-due c = rw (no_queue c.args.at c.args.boxes.now c.in_default.ensures.found) refl

pub returns-in_default-clause-rest : goal.returns-in_default-clause-rest
returns-in_default-clause-rest c = rw (no_queue c.args.at c.args.boxes.now c.in_default.ensures.found) refl

pub next_due-requires-clause-order : goal.next_due-requires-clause-order
next_due-requires-clause-order c = rw (← queue_here c.args.at c.args.boxes.now c.in-Some.i c.index-boxes-i.result c.in-Some.ensures.found) c.requires.order

pub next_due-requires-clause-fit : goal.next_due-requires-clause-fit
next_due-requires-clause-fit c = rw (← queue_here c.args.at c.args.boxes.now c.in-Some.i c.index-boxes-i.result c.in-Some.ensures.found) c.requires.fit

pub returns-clause-due : goal.returns-clause-due
returns-clause-due c = rw (queue_here c.args.at c.args.boxes.now c.in-Some.i c.index-boxes-i.result c.in-Some.ensures.found) c.next_due.ensures.due

pub returns-clause-rest : goal.returns-clause-rest
returns-clause-rest c = rw (queue_after c.args.at c.args.boxes.now c.in-Some.i c.index-boxes-i.result c.in-Some.ensures.found c.next_due.new.queue, queue_here c.args.at c.args.boxes.now c.in-Some.i c.index-boxes-i.result c.in-Some.ensures.found) c.next_due.ensures.rest

pub returns-clause-order : goal.returns-clause-order
returns-clause-order c = rw (queue_after c.args.at c.args.boxes.now c.in-Some.i c.index-boxes-i.result c.in-Some.ensures.found c.next_due.new.queue) c.next_due.ensures.order

pub returns-clause-fit : goal.returns-clause-fit
returns-clause-fit c = rw (queue_after c.args.at c.args.boxes.now c.in-Some.i c.index-boxes-i.result c.in-Some.ensures.found c.next_due.new.queue) c.next_due.ensures.fit

pub returns-clause-others : goal.returns-clause-others
returns-clause-others c = queue_after_other c.args.at c.args.boxes.now c.in-Some.i c.index-boxes-i.result c.in-Some.ensures.found c.next_due.new.queue
