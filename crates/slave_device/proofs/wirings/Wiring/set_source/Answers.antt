use Rattle.std.proofs.Common.{sym, ◌∙◌}
use Rattle.slave_device.proofs.Wires.Whole.{match_both, not_source, no_source_way}
use Rattle.slave_device.proofs.wirings.Wiring.set_source.Goals as goal

pub returns-then-not-is_transport : goal.returns-then-not-is_transport
returns-then-not-is_transport c = λ d x h. (no_source_way d x.changes _ (sym c.is_transport.ensures ∙ c.if-not-is_transport.true), h)

pub returns : goal.returns
returns c = λ d x h. match_both c.set_source.result
    (λ v m. (m.0, record { numerator = h.numerator; denominator = h.denominator; time = h.time; inputs = m.1; outputs = not_source d x.changes _ _ h.outputs }))
    (λ e m. (m.0, record { numerator = h.numerator; denominator = h.denominator; time = h.time; inputs = m.1; outputs = h.outputs }))
    (c.set_source.ensures d x h.inputs)
