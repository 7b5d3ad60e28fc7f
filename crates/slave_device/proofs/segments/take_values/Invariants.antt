use Rattle.slave_device.proofs.Wires.Wired.{TakenUpTo}
use Rattle.slave_device.proofs.segments.take_values.Given as goal

abbrev pub invariant-loop-i : goal.invariant-loop-i
invariant-loop-i l = TakenUpTo l.segments l.fn.values l.values l.id l.payload l.i
