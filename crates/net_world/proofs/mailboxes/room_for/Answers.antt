use Rattle.std.proofs.Common.{◌∙◌, ap}
use Rattle.net_world.specs.declared.mailboxes.Mailbox.{Mailbox}
use Rattle.net_world.proofs.Boxed.{first_set, first_is_box, queue_set_same, room_set}
use Rattle.net_world.proofs.mailboxes.room_for.Goals as goal

pub returns-in_err-reserve-clause-same : goal.returns-in_err-reserve-clause-same
returns-in_err-reserve-clause-same c =
    λ a. queue_set_same c.args.at a _ _ _ c.index_mut-mailbox.result.now c.in_ok-i.ensures.found (ap (λ (box : Mailbox). box.at) c.index_mut-mailbox.ensures.value) (c.reserve.ensures.items ∙ ap (λ (box : Mailbox). box.queue.items) c.index_mut-mailbox.ensures.value)
    ∙ c.own_box.ensures.same a

pub returns-clause-same : goal.returns-clause-same
returns-clause-same c =
    λ a. queue_set_same c.args.at a _ _ _ c.index_mut-mailbox.result.now c.in_ok-i.ensures.found (ap (λ (box : Mailbox). box.at) c.index_mut-mailbox.ensures.value) (c.reserve.ensures.items ∙ ap (λ (box : Mailbox). box.queue.items) c.index_mut-mailbox.ensures.value)
    ∙ c.own_box.ensures.same a

pub returns-clause-found : goal.returns-clause-found
returns-clause-found c =
    first_set c.args.at _ (rw c.index_mut-mailbox.ensures.value (first_is_box c.args.at _ _ c.index_mut-mailbox.result.now c.in_ok-i.ensures.found)) _ _ c.in_ok-i.ensures.found

pub returns-clause-room : goal.returns-clause-room
returns-clause-room c = λ d. room_set _ _ _ d c.in_ok-i.ensures.within c.in_ok-reserve.ensures.ok
