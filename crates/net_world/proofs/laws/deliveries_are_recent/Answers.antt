use Rattle.std.proofs.Common.{[]}
use Rattle.net_world.proofs.Recent.{all_recent}
use Rattle.net_world.proofs.laws.deliveries_are_recent.Goals as goal

pub returns : goal.returns
returns c = λ o calls given. all_recent o [] calls given
