use Rattle.lockstep_laws.proofs.Deciding.{taken}
use Rattle.lockstep_laws.proofs.exchanges.taken_once_and_in_order.Goals as goal

pub returns : goal.returns
returns c = taken
