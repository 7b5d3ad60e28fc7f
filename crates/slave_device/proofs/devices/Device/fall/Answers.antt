use Rattle.std.proofs.Common.{◌≡◌, ℕ, [], ◌∷◌, refl, subst, Some}
use Rattle.dcp_types.specs.declared.states.State.TheVariants.{ErrorHandling}
use Rattle.slave_spec.specs.Transport.{turned_sends}
use Rattle.slave_spec.specs.Requests.{note}
use Rattle.slave_spec.specs.Turns.{reached}
use Rattle.slave_device.specs.Devices.{DeviceFor}
use Rattle.slave_device.proofs.devices.Device.fall.Goals as goal

pub returns-clause-after : goal.returns-clause-after
returns-clause-after g c = λ p h.
    let q = record p { state = ErrorHandling; fault = Some c.args.code } in
    subst (λ (n : ℕ). DeviceFor g.W.Wired.stands c.reach_by.new.self (reached [] (note 3 1 n ∷ []) q).after) c.code.ensures
    (c.reach_by.ensures.after q (record { state = refl; steps = h.steps; outputs_sent = h.outputs_sent; busy_left = h.busy_left; fault = refl; wiring = h.wiring; model = h.model; log = h.log }))

pub returns-clause-sends : goal.returns-clause-sends
returns-clause-sends g c = λ p h.
    let q = record p { state = ErrorHandling; fault = Some c.args.code } in
    subst (λ (n : ℕ). c.reach_by.new.out ≡ turned_sends c.args.master c.args.id (reached [] (note 3 1 n ∷ []) q)) c.code.ensures
    (c.reach_by.ensures.sends q (record { state = refl; steps = h.steps; outputs_sent = h.outputs_sent; busy_left = h.busy_left; fault = refl; wiring = h.wiring; model = h.model; log = h.log }))
