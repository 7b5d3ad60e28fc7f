use Rattle.std.proofs.Common.{◌≤◌, ◌+◌, length, drop}
use Rattle.net_world.specs.Queues.{NoneBefore}
use Rattle.net_world.proofs.queues.place_of.Given as goal

abbrev pub invariant-loop-i : goal.invariant-loop-i
invariant-loop-i l = record { within : l.i ≤ length l.queue.items; above : NoneBefore (l.due + 1) (drop l.i l.queue.items) }

abbrev pub decreases-loop-i : goal.decreases-loop-i
decreases-loop-i l = l.i
