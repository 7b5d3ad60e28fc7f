use Rattle.completeness_laws.proofs.Quiet.Young.{none_asked_again}
use Rattle.completeness_laws.proofs.none_is_asked_again.Goals as goal

pub returns : goal.returns
returns c = none_asked_again
