use Rattle.std.proofs.Common.{IsTrue}
use Rattle.net_world.specs.World.{is_opened}
use Rattle.net_tests.proofs.networks.given.Given as goal

abbrev pub invariant-loop-i : goal.invariant-loop-i
invariant-loop-i l = IsTrue (is_opened l.net.net.traffic)
