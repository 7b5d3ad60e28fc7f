use Rattle.std.proofs.Common.{refl}
use Rattle.master_core.proofs.Begins.{begin_stands, begin_sends}
use Rattle.master_core.proofs.records.Talk.begin.Goals as goal

pub returns-clause-stands : goal.returns-clause-stands
returns-clause-stands c = λ limits now talk s.
    begin_stands limits now c.args.self.now _ talk c.begin.new.self c.args.schedule.now.steps c.args.schedule.now.stage _ _ s c.task-task.ensures c.list-list.ensures (c.begin.ensures.stands talk.marks s.stands) c.begin.ensures.given c.send_due.ensures.cleared refl

pub returns-clause-sends : goal.returns-clause-sends
returns-clause-sends c = λ limits now talk s.
    begin_sends limits now c.args.self.now talk c.begin.new.self c.args.schedule.now.steps c.args.schedule.now.stage _ _ c.args.out.now c.send_due.new.out s c.task-task.ensures c.list-list.ensures (c.begin.ensures.due talk.marks s.stands) c.send_due.ensures.sends
