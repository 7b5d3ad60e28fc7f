use Rattle.dcp_net.specs.Scripts.{AllFit}
use Rattle.net_tests.proofs.networks.a_script.Given as goal

abbrev pub invariant-loop-at : goal.invariant-loop-at
invariant-loop-at g l = AllFit l.grams.items
