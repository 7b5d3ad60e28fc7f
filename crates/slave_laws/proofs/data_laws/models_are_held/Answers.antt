use Rattle.slave_laws.proofs.Data.Held.{holds_model}
use Rattle.slave_laws.proofs.data_laws.models_are_held.Goals as goal

pub returns : goal.returns
returns c = holds_model
