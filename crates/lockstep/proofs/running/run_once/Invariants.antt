use Rattle.lockstep.proofs.Growing.{Standing}
use Rattle.lockstep.proofs.running.run_once.Given as goal

abbrev pub invariant-loop-step : goal.invariant-loop-step
invariant-loop-step l = Standing l.scenario l.run l.step l.rows l.parts.items
