use Rattle.std.proofs.Common.{arith}
use Rattle.slave_device.proofs.Wires.Finding.{port_found, nowhere}
use Rattle.slave_device.proofs.ports.place_of.Goals as goal

pub returns-then-port-vr : goal.returns-then-port-vr
returns-then-port-vr c = port_found _ _ _ _ (omega arith) c.loop-index.invariant c.if-port-vr.true

pub returns : goal.returns
returns c = nowhere _ _ (λ k d h. c.loop-index.invariant k d (omega arith))
