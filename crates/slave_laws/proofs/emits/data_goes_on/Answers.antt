use Rattle.slave_laws.proofs.Data.Goes.{goes_on}
use Rattle.slave_laws.proofs.emits.data_goes_on.Goals as goal

pub returns : goal.returns
returns c = goes_on
