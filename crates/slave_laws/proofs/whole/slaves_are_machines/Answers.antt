use Rattle.slave_laws.proofs.Data.Whole.{are_machines}
use Rattle.slave_laws.proofs.whole.slaves_are_machines.Goals as goal

pub returns : goal.returns
returns c = are_machines
