-- The calls so far were interrupted.
use Rattle.std.proofs.Common.{◌-◌, ◌≤◌}
use Rattle.dcp_io.specs.Tries.{AllAgain}
use Rattle.dcp_io.proofs.std_sources.last_read.Given as goal

abbrev pub invariant-loop-interrupted : goal.invariant-loop-interrupted
invariant-loop-interrupted g l = record {
  within : l.interrupted ≤ 999;
  again : AllAgain g.R.Reader.answers l.interrupted (l.fn.reader, l.fn.room) (l.reader, l.room);
}

abbrev pub decreases-loop-interrupted : goal.decreases-loop-interrupted
decreases-loop-interrupted g l = 999 - l.interrupted
