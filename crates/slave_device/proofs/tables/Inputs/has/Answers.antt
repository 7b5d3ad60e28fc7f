use Rattle.std.proofs.Common.{◌∙◌}
use Rattle.slave_device.proofs.Wires.Receiving.{has_found}
use Rattle.slave_device.proofs.tables.Inputs.has.Goals as goal

pub returns : goal.returns
returns c = λ d w h. c.is_ok.ensures.value ∙ has_found d w c.args.self.now c.args.id c.find.result h c.find.ensures
