use Rattle.completeness_laws.proofs.Delivery.Unshown.{unshown}
use Rattle.completeness_laws.proofs.outputs_were_unshown.Goals as goal

pub returns : goal.returns
returns c = unshown
