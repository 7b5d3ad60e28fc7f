-- The calls so far were interrupted.
use Rattle.std.proofs.Common.{◌-◌, ◌≤◌}
use Rattle.dcp_io.specs.Tries.{AllAgain}
use Rattle.dcp_io.proofs.std_sinks.last_write.Given as goal

abbrev pub invariant-loop-interrupted : goal.invariant-loop-interrupted
invariant-loop-interrupted g l = record {
  within : l.interrupted ≤ 999;
  again : AllAgain (g.W.Writer.answers l.piece) l.interrupted l.fn.writer l.writer;
}

abbrev pub decreases-loop-interrupted : goal.decreases-loop-interrupted
decreases-loop-interrupted g l = 999 - l.interrupted
