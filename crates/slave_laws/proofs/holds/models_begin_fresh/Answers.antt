use Rattle.slave_laws.proofs.Model.Fresh.{begins_fresh}
use Rattle.slave_laws.proofs.holds.models_begin_fresh.Goals as goal

pub returns : goal.returns
returns c = begins_fresh
