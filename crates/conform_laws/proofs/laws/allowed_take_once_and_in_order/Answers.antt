use Rattle.conform_laws.proofs.Once.{taken_once}
use Rattle.conform_laws.proofs.laws.allowed_take_once_and_in_order.Goals as goal

pub returns : goal.returns
returns c = taken_once
