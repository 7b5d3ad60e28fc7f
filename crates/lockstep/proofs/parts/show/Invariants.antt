use Rattle.std.proofs.Common.{◌≡◌, ◌++◌, take}
use Rattle.lockstep.specs.Cut.{SameRows}
use Rattle.lockstep.proofs.Showing.{values, FitsSoFar}
use Rattle.lockstep.proofs.parts.show.Given as goal

abbrev pub invariant-loop-port : goal.invariant-loop-port
invariant-loop-port l = record {
  begun : l.rows.begun ≡ l.initial.rows.begun ++ take l.port (values l.model);
  fits : FitsSoFar l.model l.port;
  kept : SameRows l.initial.rows l.rows;
}
