use Rattle.slave_device.proofs.Shown.{Shown}
use Rattle.slave_device.proofs.devices.Device.outputs.Given as goal

abbrev pub invariant-loop-port : goal.invariant-loop-port
invariant-loop-port g l = Shown l.fn.self.works.model l.room l.port
