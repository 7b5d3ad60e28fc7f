use Rattle.slave_laws.proofs.Wiring.Rows.{slaves_are}
use Rattle.slave_laws.proofs.reads.scenario_slaves_are_machines.Goals as goal

pub returns : goal.returns
returns c = slaves_are
