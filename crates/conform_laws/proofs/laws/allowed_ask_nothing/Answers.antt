use Rattle.conform_laws.proofs.Once.{allowed_quiet}
use Rattle.conform_laws.proofs.laws.allowed_ask_nothing.Goals as goal

pub returns : goal.returns
returns c = allowed_quiet
