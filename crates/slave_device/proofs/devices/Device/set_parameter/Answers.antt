use Rattle.std.proofs.Common.{◌≡◌, length, ap, sym, subst, ◌∙◌, arith, rules, Some, false, to_z, of_z}
use Rattle.std.specs.Prelude.{slice_set}
use Rattle.std.specs.Int.{w64, w128}
use Rattle.std.proofs.lemmas.Int.{to_z-of_z}
use Rattle.fixed_models.specs.Kinds.{takes}
use Rattle.dcp_types.specs.declared.error_codes.ErrorCode.TheVariants.{ValueRange}
use Rattle.slave_spec.specs.Requests.{parameter_refusal}
use Rattle.slave_device.proofs.Parameters.{parameter_refused}
use Rattle.slave_device.proofs.devices.Device.set_parameter.Goals as goal

pub returns-in-Err-clause-stands : goal.returns-in-Err-clause-stands
returns-in-Err-clause-stands g c = λ p h.
    let few : length c.as_slice.result.now ≡ length c.args.self.now.works.setup.desc.parameters = ap length c.as_slice.ensures in
    let cast : to_z w64 (of_z w64 (to_z w128 (of_z w128 c.args.value))) ≡ c.args.value =
    ap (λ y. to_z w64 (of_z w64 y)) (to_z-of_z w128 c.args.value (search rules)) ∙ to_z-of_z w64 c.args.value (search rules) in
    let made = c.args.self.now.works.made in
    let refused = parameter_refused c.args.self.now.works.model c.args.vr c.args.kind c.args.value (omega (arith, c.if-vr-as_slice.false, few, made.count))
    (sym c.code.ensures ∙ c.if-code.false ∙ c.code-2.ensures) (subst (λ y. takes c.args.self.now.works.model.kind (slice_set c.args.self.now.works.model.parameters c.args.vr y) ≡ false) cast c.in-Err.ensures.0) in (
      subst (λ m. parameter_refusal m c.args.vr c.args.kind c.args.value ≡ Some ValueRange) h.model refused,
      record { state = h.state; steps = h.steps; outputs_sent = h.outputs_sent; busy_left = h.busy_left; fault = h.fault; wiring = h.wiring; model = c.in-Err.ensures.1 ∙ h.model; log = h.log },
    )
