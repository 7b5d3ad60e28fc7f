use Rattle.std.proofs.Common.{arith, refl, subst}
use Rattle.dcp_io.specs.Turns.{Means}
use Rattle.dcp_io.proofs.Calling.{once_more}
use Rattle.dcp_io.proofs.std_sinks.last_write.Goals as goal

pub loop-interrupted-init : goal.loop-interrupted-init
loop-interrupted-init g c = record { within = omega arith; again = refl }

pub loop-interrupted-preserved : goal.loop-interrupted-preserved
loop-interrupted-preserved g c = record {
  within = omega (arith, c.loop-interrupted-test.true);
  again = once_more (g.W.Writer.answers c.args.piece.now) c.loop-interrupted.interrupted c.args.writer.now c.loop-interrupted.writer c.call.new.self c.call.result c.loop-interrupted.invariant.again c.call.ensures (subst (λ t. Means t c.call.result) c.in-Again.is c.turn_of.ensures);
}
