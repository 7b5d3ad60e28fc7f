use Rattle.slave_device.proofs.Wires.Whole.{match_both, not_input}
use Rattle.slave_device.proofs.wirings.Wiring.add_input.Goals as goal

pub returns : goal.returns
returns c = λ d x h. match_both c.add.result
    (λ v m. (m.0, record { numerator = h.numerator; denominator = h.denominator; time = h.time; inputs = m.1; outputs = not_input d x.changes _ _ _ _ _ h.outputs }))
    (λ e m. (m.0, record { numerator = h.numerator; denominator = h.denominator; time = h.time; inputs = m.1; outputs = h.outputs }))
    (c.add.ensures d x h.inputs)
