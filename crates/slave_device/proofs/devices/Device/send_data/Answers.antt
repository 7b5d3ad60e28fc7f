use Rattle.std.proofs.Common.{◌≡◌, ℕ, true, ℤ, List, map, take, ap, sym, subst, ◌∙◌}
use Rattle.dcp_types.specs.declared.data_types.DataType.{DataType}
use Rattle.fixed_models.specs.Steps.{all_fit}
use Rattle.slave_spec.specs.Payloads.{values_fit_ports}
use Rattle.slave_spec.specs.Transport.{parcel_send}
use Rattle.slave_spec.specs.Turns.{values, data_parcels}
use Rattle.slave_device.proofs.Shown.{value_count}
use Rattle.slave_device.proofs.Sent.{ports_fit}
use Rattle.slave_device.proofs.devices.Device.send_data.Goals as goal

pub returns-in-Ok-clause-out : goal.returns-in-Ok-clause-out
returns-in-Ok-clause-out g c = λ p h fits.
    let s = c.args.self.now.works.setup in
    let model = c.args.self.now.works.model in
    let made = c.args.self.now.works.made in
    let shown = c.in-Ok.ensures in
    let fit = subst (λ (vs : List ℤ). values_fit_ports s.desc.outputs vs ≡ true) (sym shown.1)
    (ports_fit s.desc.outputs (values model) (value_count s model made) (subst (λ (ts : List DataType). all_fit ts (values model) ≡ true) made.types shown.0)) in
    c.send_values.ensures.out s.desc p.wires h.wiring fit
    ∙ ap (λ (n : ℕ). map parcel_send (data_parcels s.desc p.wires.changes n (take c.in-Ok.count c.outputs.new.room))) h.steps
    ∙ ap (λ (vs : List ℤ). map parcel_send (data_parcels s.desc p.wires.changes p.steps vs)) (shown.1 ∙ ap values h.model)
