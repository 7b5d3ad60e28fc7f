use Rattle.completeness_laws.proofs.Delivery.Stuck.{stuck}
use Rattle.completeness_laws.proofs.stuck_were_busy.Goals as goal

pub returns : goal.returns
returns c = stuck
