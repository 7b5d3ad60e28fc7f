use Rattle.std.proofs.Common.{◌≤◌, arith, length}
use Rattle.std.proofs.lemmas.List.Elements.{All-push}
use Rattle.dcp_net.specs.declared.grams.ScriptGram.{ScriptGram}
use Rattle.net_tests.proofs.networks.a_script.Goals as goal

pub new-net-requires : goal.new-net-requires
new-net-requires g c = c.loop-at.invariant
