use Rattle.std.proofs.Common.{◌∙◌}
use Rattle.slave_device.proofs.Wires.Sending.{has_found}
use Rattle.slave_device.proofs.tables.Outputs.has.Goals as goal

pub returns : goal.returns
returns c = λ d changes h. c.is_ok.ensures.value ∙ has_found d changes c.args.self.now c.args.id c.find.result h c.find.ensures
