use Rattle.slave_laws.proofs.Data.Keeping.{keeps_data}
use Rattle.slave_laws.proofs.data_laws.data_is_kept.Goals as goal

pub returns : goal.returns
returns c = keeps_data
