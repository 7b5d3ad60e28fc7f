use Rattle.slave_laws.proofs.Data.Owing.{owes_own}
use Rattle.slave_laws.proofs.data_laws.data_is_its_own.Goals as goal

pub returns : goal.returns
returns c = owes_own
