use Rattle.run_laws.proofs.Headline.Moments.{taken_always}
use Rattle.run_laws.proofs.headline_laws.taken_once_and_in_order.Goals as goal

pub returns : goal.returns
returns c = taken_always
