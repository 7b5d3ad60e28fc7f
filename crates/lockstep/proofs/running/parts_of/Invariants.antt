use Rattle.lockstep.proofs.Growing.{PartsSoFar}
use Rattle.lockstep.proofs.running.parts_of.Given as goal

abbrev pub invariant-loop-index : goal.invariant-loop-index
invariant-loop-index l = PartsSoFar l.scenario l.run l.index l.parts.items
