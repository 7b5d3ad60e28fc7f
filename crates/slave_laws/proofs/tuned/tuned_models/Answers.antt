use Rattle.slave_laws.proofs.Model.Parameters.{have_parameters}
use Rattle.slave_laws.proofs.tuned.tuned_models.Goals as goal

pub returns : goal.returns
returns c = have_parameters
