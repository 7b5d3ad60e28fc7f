use Rattle.std.proofs.Common.{[]}
use Rattle.net_world.proofs.Recent.{all_recent}
use Rattle.net_world.proofs.sure_nets.SureNet.sent.Goals as goal

pub returns-in-Some-clause-recent : goal.returns-in-Some-clause-recent
returns-in-Some-clause-recent c = rw c.in-Some.is (all_recent c.in-Some.traffic.opening [] c.in-Some.traffic.calls c.sent.ensures.given)
