use Rattle.slave_laws.proofs.Model.Inputs.{are_there}
use Rattle.slave_laws.proofs.holds.inputs_are_there.Goals as goal

pub returns : goal.returns
returns c = are_there
