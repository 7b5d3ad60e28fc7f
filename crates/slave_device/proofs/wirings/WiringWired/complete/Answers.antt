use Rattle.std.proofs.Common.{◌∙◌}
use Rattle.slave_device.proofs.Wires.Whole.{complete_is}
use Rattle.slave_device.proofs.wirings.WiringWired.complete.Goals as goal

pub returns : goal.returns
returns c = λ d x h. c.is_complete.ensures ∙ complete_is c.args.self.now d x h
