use Rattle.slave_device.proofs.wirings.WiringWired.apply.Goals as goal

pub returns-in-Input : goal.returns-in-Input
returns-in-Input c = λ d x h. rw c.in-Input.is (c.add_input.ensures d x h)
