use Rattle.dcp_net.specs.Scripts.{is_for}
use Rattle.dcp_net.proofs.Firsts.{Passed}
use Rattle.dcp_net.proofs.scripts.first_for.Given as goal

abbrev pub invariant-loop-i : goal.invariant-loop-i
invariant-loop-i l = Passed (is_for l.at) l.grams l.i
