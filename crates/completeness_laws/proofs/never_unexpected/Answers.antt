use Rattle.completeness_laws.proofs.Causes.Unexpected.{never_unexpected}
use Rattle.completeness_laws.proofs.never_unexpected.Goals as goal

pub returns : goal.returns
returns c = never_unexpected
