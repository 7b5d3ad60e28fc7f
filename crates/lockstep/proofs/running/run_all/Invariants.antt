use Rattle.std.proofs.Common.{◌-◌, ◌*◌, ◌+◌}
use Rattle.lockstep.specs.Filling.{SoFar}
use Rattle.lockstep.proofs.running.run_all.Given as goal

abbrev pub invariant-loop-run : goal.invariant-loop-run
invariant-loop-run l = SoFar l.scenario ((l.run - 1) * (l.scenario.steps + 1)) l.rows
