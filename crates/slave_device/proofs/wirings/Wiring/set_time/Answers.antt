use Rattle.std.proofs.Common.{refl, ap, ◌∙◌}
use Rattle.dcp_types.specs.declared.error_codes.ErrorCode.TheVariants.{NotSupported}
use Rattle.slave_spec.specs.Refusals.{refused_unless}
use Rattle.slave_device.proofs.Wires.Whole.{time_judged, time_told}
use Rattle.slave_device.proofs.wirings.Wiring.set_time.Goals as goal

pub returns-then-not-has_resolution : goal.returns-then-not-has_resolution
returns-then-not-has_resolution c = λ d x h. (time_judged d x.changes _ _ _ (c.has_resolution.ensures d x h) ∙ ap (λ b. refused_unless b NotSupported) c.if-not-has_resolution.true, h)

pub returns : goal.returns
returns c = λ d x h. (time_judged d x.changes _ _ _ (c.has_resolution.ensures d x h) ∙ ap (λ b. refused_unless b NotSupported) c.if-not-has_resolution.false, time_told c.args.self.now _ d x _ _ h refl refl refl refl refl)
