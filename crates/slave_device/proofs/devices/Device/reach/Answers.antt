use Rattle.std.proofs.Common.{ap, ◌∙◌}
use Rattle.slave_states.specs.Transitions.{next_on_turn}
use Rattle.slave_spec.specs.Turns.{sent_after}
use Rattle.slave_device.proofs.Telling.{and_then}
use Rattle.slave_device.proofs.devices.Device.reach.Goals as goal

pub returns-clause-after : goal.returns-clause-after
returns-clause-after g c = λ p h.
    c.note_state.ensures.stands (record p { state = next_on_turn p.state 0; outputs_sent = sent_after p.state p.outputs_sent }) (record { state = c.next_on_turn-next.ensures ∙ ap (λ s. next_on_turn s 0) h.state; steps = h.steps; outputs_sent = c.sent_after-sent.ensures ∙ ap (λ s. sent_after s c.args.self.now.outputs_sent) h.state ∙ ap (λ b. sent_after p.state b) h.outputs_sent; busy_left = h.busy_left; fault = h.fault; wiring = h.wiring; model = h.model; log = h.log })

pub returns-clause-sends : goal.returns-clause-sends
returns-clause-sends g c = λ p h.
    let q = record p { state = next_on_turn p.state 0; outputs_sent = sent_after p.state p.outputs_sent } in
    and_then _ _ _ _ _ (c.tell.ensures.out q (record { state = c.next_on_turn-next.ensures ∙ ap (λ s. next_on_turn s 0) h.state; steps = h.steps; outputs_sent = c.sent_after-sent.ensures ∙ ap (λ s. sent_after s c.args.self.now.outputs_sent) h.state ∙ ap (λ b. sent_after p.state b) h.outputs_sent; busy_left = h.busy_left; fault = h.fault; wiring = h.wiring; model = h.model; log = h.log })) (c.note_state.ensures.out q (record { state = c.next_on_turn-next.ensures ∙ ap (λ s. next_on_turn s 0) h.state; steps = h.steps; outputs_sent = c.sent_after-sent.ensures ∙ ap (λ s. sent_after s c.args.self.now.outputs_sent) h.state ∙ ap (λ b. sent_after p.state b) h.outputs_sent; busy_left = h.busy_left; fault = h.fault; wiring = h.wiring; model = h.model; log = h.log }))
