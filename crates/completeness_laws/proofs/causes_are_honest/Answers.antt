use Rattle.completeness_laws.proofs.Honest.{causes_honest}
use Rattle.completeness_laws.proofs.causes_are_honest.Goals as goal

pub returns : goal.returns
returns c = causes_honest
