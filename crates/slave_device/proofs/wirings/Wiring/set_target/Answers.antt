use Rattle.std.proofs.Common.{sym, ◌∙◌}
use Rattle.slave_device.proofs.Wires.Receiving.{not_target}
use Rattle.slave_device.proofs.Wires.Whole.{match_both, no_target_way}
use Rattle.slave_device.proofs.wirings.Wiring.set_target.Goals as goal

pub returns-then-not-is_transport : goal.returns-then-not-is_transport
returns-then-not-is_transport c = λ d x h. (no_target_way d x.changes _ (sym c.is_transport.ensures ∙ c.if-not-is_transport.true), h)

pub returns : goal.returns
returns c = λ d x h. match_both c.set_target.result
    (λ v m. (m.0, record { numerator = h.numerator; denominator = h.denominator; time = h.time; inputs = not_target d x _ _ h.inputs; outputs = m.1 }))
    (λ e m. (m.0, record { numerator = h.numerator; denominator = h.denominator; time = h.time; inputs = h.inputs; outputs = m.1 }))
    (c.set_target.ensures d x.changes h.outputs)
