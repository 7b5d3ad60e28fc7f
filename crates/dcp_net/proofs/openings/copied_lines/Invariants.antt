use Rattle.std.proofs.Common.{◌≡◌, take}
use Rattle.dcp_net.proofs.openings.copied_lines.Given as goal

abbrev pub invariant-loop-line : goal.invariant-loop-line
invariant-loop-line l = l.copy ≡ take l.line-index l.fn.lines
