use Rattle.slave_device.proofs.Wires.Building.{Written}
use Rattle.slave_device.proofs.payloads.write_payload.Given as goal

abbrev pub invariant-loop-place : goal.invariant-loop-place
invariant-loop-place l = Written l.outputs l.places l.room l.at l.place-index
