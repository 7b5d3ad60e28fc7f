use Rattle.std.proofs.Common.{ap, ◌∙◌}
use Rattle.dcp_types.specs.declared.error_codes.ErrorCode.TheVariants.{NotSupported}
use Rattle.slave_spec.specs.Refusals.{refused_unless}
use Rattle.slave_device.proofs.Wires.Whole.{interval_judged}
use Rattle.slave_device.proofs.wirings.Wiring.set_interval.Goals as goal

pub returns-then-not-allows : goal.returns-then-not-allows
returns-then-not-allows c = λ d x h. (interval_judged d x.changes _ _ _ (c.allows.ensures d x h) ∙ ap (λ b. refused_unless b NotSupported) c.if-not-allows.true, h)

pub returns : goal.returns
returns c = λ d x h. (
  interval_judged d x.changes _ _ _ (c.allows.ensures d x h) ∙ ap (λ b. refused_unless b NotSupported) c.if-not-allows.false,
  record { numerator = h.numerator; denominator = h.denominator; time = h.time; inputs = c.set_interval.ensures d x h.inputs; outputs = c.set_interval-2.ensures d x.changes h.outputs },
)
