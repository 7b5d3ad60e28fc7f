use Rattle.std.proofs.Common.{refl}
use Rattle.slave_device.proofs.Wires.Receiving.{paced, unpaced}
use Rattle.slave_device.proofs.tables.Inputs.set_interval.Goals as goal

pub returns-in-Ok : goal.returns-in-Ok
returns-in-Ok c = λ d w h. paced d w c.args.self.now _ _ _ c.in-Ok.i c.index_mut.result.now h c.in-Ok.ensures c.index_mut.ensures.value refl refl refl refl refl

pub returns-in_default : goal.returns-in_default
returns-in_default c = λ d w h. unpaced d w c.args.self.now _ _ _ h c.in_default.ensures
