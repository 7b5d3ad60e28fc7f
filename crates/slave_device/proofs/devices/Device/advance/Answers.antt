use Rattle.std.proofs.Common.{refl, ap, ◌∙◌}
use Rattle.dcp_types.specs.declared.states.State.TheVariants.{Computed}
use Rattle.slave_spec.specs.Turns.{counted}
use Rattle.slave_device.proofs.devices.Device.advance.Goals as goal

pub returns-clause-after : goal.returns-clause-after
returns-clause-after g c = λ p h. c.reach_by.ensures.after (record p { state = Computed; steps = counted p.steps })
    (record { state = refl; steps = c.saturating_add-self.ensures ∙ ap counted h.steps; outputs_sent = h.outputs_sent; busy_left = h.busy_left; fault = h.fault; wiring = h.wiring; model = h.model; log = h.log })

pub returns-clause-sends : goal.returns-clause-sends
returns-clause-sends g c = λ p h. c.reach_by.ensures.sends (record p { state = Computed; steps = counted p.steps })
    (record { state = refl; steps = c.saturating_add-self.ensures ∙ ap counted h.steps; outputs_sent = h.outputs_sent; busy_left = h.busy_left; fault = h.fault; wiring = h.wiring; model = h.model; log = h.log })
