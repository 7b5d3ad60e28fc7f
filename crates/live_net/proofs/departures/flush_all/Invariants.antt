-- The connections before were written to, and the others stand as they were.
use Rattle.live_net.proofs.Flushing.{IsFlushedTo}
use Rattle.live_net.proofs.departures.flush_all.Given as goal

abbrev pub invariant-loop-outward : goal.invariant-loop-outward
invariant-loop-outward l = IsFlushedTo l.outward-index l.initial.connections l.connections
