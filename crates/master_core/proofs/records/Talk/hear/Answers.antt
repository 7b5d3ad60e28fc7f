use Rattle.std.proofs.Common.{ap, ◌∙◌, refl}
use Rattle.master_spec.specs.Course.{payload_size}
use Rattle.master_core.proofs.Hearings.{small_taken, heard_stands, heard_sends}
use Rattle.master_core.proofs.records.Talk.hear.Goals as goal

pub put_taken-requires : goal.put_taken-requires
put_taken-requires c = small_taken (λ r. r.now) _ c.args.self.now.slave.types _ c.hear-taken.ensures.sized (c.payload_size-size.ensures ∙ ap payload_size c.as_slice.ensures) c.args.self.now.few

pub returns-clause-stands : goal.returns-clause-stands
returns-clause-stands c = λ limits now talk s fit.
    heard_stands (λ r. r.now) limits now c.args.self.now _ talk c.hear-taken.new.talk c.hear-taken.result c.args.schedule.now _ _ _ s fit
    (record { stands = c.hear-taken.ensures.stands; due = c.hear-taken.ensures.due; taken_is = c.hear-taken.ensures.taken; sized = c.hear-taken.ensures.sized; given = c.hear-taken.ensures.given })
    (c.payload_size-size.ensures ∙ ap payload_size c.as_slice.ensures) c.list-list.ensures c.put_taken.ensures c.send_due.ensures.cleared refl

pub returns-clause-sends : goal.returns-clause-sends
returns-clause-sends c = λ limits now talk s fit.
    heard_sends (λ r. r.now) limits now c.args.self.now talk c.hear-taken.new.talk c.hear-taken.result c.args.schedule.now _ _ _ c.args.out.now c.send_due.new.out s fit
    (record { stands = c.hear-taken.ensures.stands; due = c.hear-taken.ensures.due; taken_is = c.hear-taken.ensures.taken; sized = c.hear-taken.ensures.sized; given = c.hear-taken.ensures.given })
    (c.payload_size-size.ensures ∙ ap payload_size c.as_slice.ensures) c.list-list.ensures c.send_due.ensures.sends
