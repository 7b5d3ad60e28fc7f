use Rattle.std.proofs.Common.{Some, ap, ◌∙◌, refl, List, ◌++◌}
use Rattle.dcp_ends.specs.Events.{Send}
use Rattle.conversation.specs.Standing.{due_of}
use Rattle.master_spec.specs.Marks.{Turned}
use Rattle.master_core.proofs.Carried.{turned_carried}
use Rattle.master_core.proofs.Cleared.{can_after, sent_after}
use Rattle.master_core.proofs.records.Talk.turn.Goals as goal

pub returns-clause-stands : goal.returns-clause-stands
returns-clause-stands c = λ limits now talk s.
    turned_carried limits now c.args.self.now _ talk c.on_turn.new.self c.args.settled s (c.on_turn.ensures.stands talk.marks s.stands) c.on_turn.ensures.given c.send_due.ensures.cleared refl refl

pub returns-clause-sends : goal.returns-clause-sends
returns-clause-sends c = λ limits now talk s.
    let can = can_after limits now c.args.self.now talk (Some (Turned c.args.settled)) s tt in
    let due = c.on_turn.ensures.due talk.marks s.stands can in
    c.send_due.ensures.sends ∙ ap (λ (l : List Send). c.args.out.now ++ l) (sent_after limits now c.args.self.now talk (Some (Turned c.args.settled)) (due_of c.on_turn.new.self) s can due)
