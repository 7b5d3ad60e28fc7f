use Rattle.slave_laws.proofs.Data.Held.{holds_inputs}
use Rattle.slave_laws.proofs.data_laws.inputs_are_fed.Goals as goal

pub returns : goal.returns
returns c = holds_inputs
