use Rattle.std.proofs.Common.{◌∙◌}
use Rattle.slave_device.proofs.Wires.Whole.{ready_is}
use Rattle.slave_device.proofs.wirings.WiringWired.ready.Goals as goal

pub returns : goal.returns
returns c = λ d x h. c.ready.ensures ∙ ready_is c.args.self.now d x c.args.steps h
