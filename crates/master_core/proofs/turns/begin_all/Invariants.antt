use Rattle.std.specs.Prelude.{Some}
use Rattle.master_spec.specs.Marks.{Begun}
use Rattle.master_core.specs.Stages.{job_at}
use Rattle.master_core.specs.Talking.{at_stage}
use Rattle.master_core.proofs.Progress.{Progress}
use Rattle.master_core.proofs.turns.begin_all.Given as goal

abbrev pub invariant-loop-talk : goal.invariant-loop-talk
invariant-loop-talk l = Progress (λ now. at_stage l.schedule.steps l.schedule.stage) (λ talk. Some (Begun (job_at l.schedule.steps l.schedule.stage talk.slave.script))) (λ now. Unit {0}) l.talk-index l.fn.talks.items l.talk-items l.fn.out l.out
