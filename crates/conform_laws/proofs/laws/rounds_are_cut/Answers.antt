use Rattle.conform_laws.proofs.Cutting.{rounds_cut}
use Rattle.conform_laws.proofs.laws.rounds_are_cut.Goals as goal

pub returns : goal.returns
returns c = rounds_cut
