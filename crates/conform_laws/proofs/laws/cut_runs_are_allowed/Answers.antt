use Rattle.conform_laws.proofs.Following.{cut_allowed}
use Rattle.conform_laws.proofs.laws.cut_runs_are_allowed.Goals as goal

pub returns : goal.returns
returns c = cut_allowed
