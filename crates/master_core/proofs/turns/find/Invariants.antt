use Rattle.master_core.specs.Speaking.{AreSilent}
use Rattle.master_core.proofs.turns.find.Given as goal

abbrev pub invariant-loop-i : goal.invariant-loop-i
invariant-loop-i l = AreSilent l.from l.first l.i l.talks
