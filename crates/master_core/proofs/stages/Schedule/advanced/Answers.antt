use Rattle.std.proofs.Common.{sym, ◌∙◌}
use Rattle.master_core.proofs.Within.{next_inside}
use Rattle.master_core.proofs.stages.Schedule.advanced.Goals as goal

pub invariant_of-result : goal.invariant_of-result
invariant_of-result c =
    let s = c.args.self.now in
    let n = next_inside s.steps s.runs s.stage.run s.stage.part c.in-Some.stage s.first s.last s.within (sym c.next.ensures ∙ c.in-Some.is) in
    record { few_steps = s.few_steps; few_runs = s.few_runs; first = n.first; last = n.last; within = n.within }
