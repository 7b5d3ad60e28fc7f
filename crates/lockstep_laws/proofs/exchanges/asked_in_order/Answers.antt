use Rattle.lockstep_laws.proofs.Moments.{asked}
use Rattle.lockstep_laws.proofs.exchanges.asked_in_order.Goals as goal

pub returns : goal.returns
returns c = asked
