use Rattle.std.proofs.Common.{◌≡◌, map, take}
use Rattle.slave_device.proofs.devices.types_of.Given as goal

abbrev pub invariant-loop-port : goal.invariant-loop-port
invariant-loop-port l = l.types.items ≡ map (λ port. port.kind) (take l.port-index l.port-items)
