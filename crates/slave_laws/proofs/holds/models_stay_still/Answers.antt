use Rattle.slave_laws.proofs.Model.Still.{stays_still}
use Rattle.slave_laws.proofs.holds.models_stay_still.Goals as goal

pub returns : goal.returns
returns c = stays_still
