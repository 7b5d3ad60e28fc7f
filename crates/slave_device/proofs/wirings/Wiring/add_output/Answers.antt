use Rattle.slave_device.proofs.Wires.Receiving.{not_output}
use Rattle.slave_device.proofs.Wires.Whole.{match_both}
use Rattle.slave_device.proofs.wirings.Wiring.add_output.Goals as goal

pub returns : goal.returns
returns c = λ d x h. match_both c.add.result
    (λ v m. (m.0, record { numerator = h.numerator; denominator = h.denominator; time = h.time; inputs = not_output d x _ _ _ _ h.inputs; outputs = m.1 }))
    (λ e m. (m.0, record { numerator = h.numerator; denominator = h.denominator; time = h.time; inputs = h.inputs; outputs = m.1 }))
    (c.add.ensures d x.changes h.outputs)
