use Rattle.lockstep.specs.Cut.{SameRows}
use Rattle.lockstep.specs.Filling.{Filled}
use Rattle.lockstep.proofs.filling.fill.Given as goal

abbrev pub invariant-loop-index : goal.invariant-loop-index
invariant-loop-index l = record {
  filled : Filled l.scenario l.initial.rows.rows l.at.run l.at.step l.index l.parts.items l.rows.begun;
  kept : SameRows l.initial.rows l.rows;
}
