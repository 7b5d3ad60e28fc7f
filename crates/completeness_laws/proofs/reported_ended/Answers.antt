use Rattle.completeness_laws.proofs.Delivery.Reported.{reported}
use Rattle.completeness_laws.proofs.reported_ended.Goals as goal

pub returns : goal.returns
returns c = reported
