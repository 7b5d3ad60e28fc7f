use Rattle.run_laws.proofs.Headline.Moments.{asked_always}
use Rattle.run_laws.proofs.headline_laws.asked_in_order.Goals as goal

pub returns : goal.returns
returns c = asked_always
