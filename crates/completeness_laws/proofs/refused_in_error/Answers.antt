use Rattle.completeness_laws.proofs.Causes.Refused.{refused_in_error}
use Rattle.completeness_laws.proofs.refused_in_error.Goals as goal

pub returns : goal.returns
returns c = refused_in_error
