use Rattle.std.proofs.Common.{◌≡◌}
use Rattle.std.specs.List.{filter}
use Rattle.std.specs.VecDeque.{deque_len}
use Rattle.net_world.specs.Deliveries.{is_young}
use Rattle.net_world.specs.Queues.{AllShort, InOrder}
use Rattle.net_world.proofs.queues.drop_gone.Given as goal

abbrev pub invariant-loop-front : goal.invariant-loop-front
invariant-loop-front l =
    record {
      young : filter (is_young l.sent) l.queue.items ≡ filter (is_young l.sent) l.fn.queue.items;
      order : InOrder l.queue.items;
      fit : AllShort l.queue.items;
    }

abbrev pub decreases-loop-front : goal.decreases-loop-front
decreases-loop-front l = deque_len l.queue
