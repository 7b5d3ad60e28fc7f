use Rattle.std.proofs.Common.{◌≡◌, ◌-◌, arith}
use Rattle.net_world.proofs.Placed.{placed_behind, placed_front}
use Rattle.net_world.proofs.queues.place_of.Goals as goal

pub returns-then-index-due-clause-place : goal.returns-then-index-due-clause-place
returns-then-index-due-clause-place c =
    λ d e. placed_behind d c.index.result.now c.args.queue.now.items c.loop-i.i (c.loop-i.i - 1) (omega arith) (omega arith) c.requires c.index.ensures (rw e c.if-index-due.true) (rw e c.loop-i.invariant.above)

pub returns-clause-place : goal.returns-clause-place
returns-clause-place c =
    λ d e. let none : c.loop-i.i ≡ 0 = omega arith in placed_front d c.args.queue.now.items (rw e (rw none at c.loop-i.invariant.above))
