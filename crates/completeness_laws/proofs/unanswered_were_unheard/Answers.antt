use Rattle.completeness_laws.proofs.Delivery.Unanswered.{unanswered}
use Rattle.completeness_laws.proofs.unanswered_were_unheard.Goals as goal

pub returns : goal.returns
returns c = unanswered
