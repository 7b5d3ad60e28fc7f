use Rattle.std.proofs.Common.{IsTrue}
use Rattle.net_world.specs.World.{is_opened}
use Rattle.net_tests.proofs.networks.a_call_that_fails.Given as goal

abbrev pub invariant-loop-taken : goal.invariant-loop-taken
invariant-loop-taken g l = IsTrue (is_opened l.net.net.traffic)
