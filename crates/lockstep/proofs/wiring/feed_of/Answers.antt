use Rattle.std.proofs.Common.{arith}
use Rattle.lockstep.proofs.wiring.feed_of.Goals as goal

pub slice_bounds-before-count : goal.slice_bounds-before-count
slice_bounds-before-count c = let w = c.requires.wire c.in-Some.wire c.in-Some.is in omega (arith, w.from.0, c.from.ensures)
