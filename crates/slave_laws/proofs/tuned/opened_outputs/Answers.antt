use Rattle.slave_laws.proofs.Model.Opened.{outputs_fit}
use Rattle.slave_laws.proofs.tuned.opened_outputs.Goals as goal

pub returns : goal.returns
returns c = outputs_fit
