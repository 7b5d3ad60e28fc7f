use Rattle.std.proofs.Common.{arith, refl, subst}
use Rattle.dcp_io.specs.Turns.{Means}
use Rattle.dcp_io.proofs.Calling.{once_more}
use Rattle.dcp_io.proofs.std_sources.last_read.Goals as goal

pub loop-interrupted-init : goal.loop-interrupted-init
loop-interrupted-init g c = record { within = omega arith; again = refl }

pub loop-interrupted-preserved : goal.loop-interrupted-preserved
loop-interrupted-preserved g c = record {
  within = omega (arith, c.loop-interrupted-test.true);
  again = once_more g.R.Reader.answers c.loop-interrupted.interrupted (c.args.reader.now, c.args.room.now) (c.loop-interrupted.reader, c.loop-interrupted.room) (c.call.new.self, c.call.new.room) c.call.result c.loop-interrupted.invariant.again c.call.ensures (subst (λ t. Means t c.call.result) c.in-Again.is c.turn_of.ensures);
}

pub returns-in_default : goal.returns-in_default
returns-in_default g c = (
  c.loop-interrupted.interrupted,
  (c.loop-interrupted.reader, c.loop-interrupted.room),
  c.call.result,
  omega (arith, c.loop-interrupted.invariant.within),
  c.loop-interrupted.invariant.again,
  c.call.ensures,
  c.turn_of.ensures,
  λ e. absurd (c.in_default.not-Again e),
)

pub returns : goal.returns
returns g c = (
  c.loop-interrupted.interrupted,
  (c.loop-interrupted.reader, c.loop-interrupted.room),
  c.call-2.result,
  omega (arith, c.loop-interrupted.invariant.within),
  c.loop-interrupted.invariant.again,
  c.call-2.ensures,
  c.turn_of-2.ensures,
  λ e. omega (arith, c.loop-interrupted.invariant.within, c.loop-interrupted-test.false),
)
