use Rattle.slave_device.proofs.Telling.{both_told, in_turn}
use Rattle.slave_device.proofs.devices.Device.reach_by.Goals as goal

pub returns-clause-after : goal.returns-clause-after
returns-clause-after g c = λ p h. c.note_state.ensures.stands _ (c.enter_note.ensures.stands p h)

pub returns-clause-sends : goal.returns-clause-sends
returns-clause-sends g c = λ p h.
    in_turn _ _ _ _ _ _ _ _ c.requires.out (c.tell.ensures.out p h) (c.enter_note.ensures.out p h) (c.note_state.ensures.out _ (c.enter_note.ensures.stands p h))
    (both_told c.args.master c.args.id p.log p.steps c.args.first (record { category = 1; level = 2; code = _ }))
