use Rattle.std.proofs.Common.{Some, List, map, sym, subst, arith}
use Rattle.master_spec.specs.Marks.{Begun}
use Rattle.master_core.specs.Stages.{job_at}
use Rattle.master_core.specs.Talking.{at_stage}
use Rattle.master_spec.specs.Course.{CourseTalk as Said, marked}
use Rattle.master_core.specs.declared.records.Talk.{Talk}
use Rattle.master_core.specs.Each.{Each}
use Rattle.master_core.specs.Talking.{TalkStandsAt}
use Rattle.master_core.proofs.Progress.{progress_init, progress_step, progress_stands, progress_sends, progress_whole}
use Rattle.master_core.proofs.turns.begin_all.Goals as goal

pub loop-talk-init : goal.loop-talk-init
loop-talk-init c = progress_init _ _ _ _ _ _ c.deref_mut-talk-items.ensures.value

pub loop-talk-preserved : goal.loop-talk-preserved
loop-talk-preserved c = progress_step _ _ _ _ _ _ _ _ _ c.talk-item.result _ c.loop-talk.invariant (omega arith)
    (λ limits now talk s fit. c.begin.ensures.stands limits now talk s)
    (λ limits now talk s fit. c.begin.ensures.sends limits now talk s)
    c.begin.ensures.room c.begin.ensures.slave

pub returns-clause-stands : goal.returns-clause-stands
returns-clause-stands c = λ limits now said e.
    subst (λ (xs : List Talk). Each (TalkStandsAt limits (at_stage c.args.schedule.now.steps c.args.schedule.now.stage)) xs (map (λ (talk : Said). marked limits talk (Some (Begun (job_at c.args.schedule.now.steps c.args.schedule.now.stage talk.slave.script)))) said)) (sym (progress_whole _ _ _ _ _ _ _ _ _ c.loop-talk.invariant (omega (arith, c.args.talks.now.ok))))
    (progress_stands _ _ _ _ _ _ _ _ c.loop-talk.invariant (omega arith) limits now said e tt)

pub returns-clause-sends : goal.returns-clause-sends
returns-clause-sends c = λ limits now said e. progress_sends _ _ _ _ _ _ _ _ c.loop-talk.invariant (omega arith) limits now said e tt
