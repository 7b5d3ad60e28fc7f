use Rattle.conform_laws.proofs.Behind.{stand_behind}
use Rattle.conform_laws.proofs.laws.answers_stand_behind.Goals as goal

pub returns : goal.returns
returns c = stand_behind
