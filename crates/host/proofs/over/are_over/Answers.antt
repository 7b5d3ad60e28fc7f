use Rattle.host.proofs.AllOver.{not_all_over, more_over, at_read}
use Rattle.host.proofs.over.are_over.Goals as goal

pub returns-then-not-is_over : goal.returns-then-not-is_over
returns-then-not-is_over g c = λ log told.
    not_all_over g.S.Seat.stands g.S.Seat.rules c.args.slaves.now c.loop-seat.seat-index c.seat-item.result c.loop-seat-test.true c.is_over.result
    (at_read g.S.Seat.stands g.S.Seat.rules c.args.slaves.now c.loop-seat.seat-index c.seat-item.result c.is_over.result c.seat-item.is c.is_over.ensures) log told c.if-not-is_over.true

pub loop-seat-preserved : goal.loop-seat-preserved
loop-seat-preserved g c = λ log told.
    more_over g.S.Seat.stands g.S.Seat.rules c.args.slaves.now c.loop-seat.seat-index c.seat-item.result c.loop-seat-test.true c.is_over.result
    (at_read g.S.Seat.stands g.S.Seat.rules c.args.slaves.now c.loop-seat.seat-index c.seat-item.result c.is_over.result c.seat-item.is c.is_over.ensures) log told c.if-not-is_over.false (c.loop-seat.invariant log told)
