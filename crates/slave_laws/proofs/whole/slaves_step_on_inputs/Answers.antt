use Rattle.slave_laws.proofs.Data.Stepping.{step_on_inputs}
use Rattle.slave_laws.proofs.whole.slaves_step_on_inputs.Goals as goal

pub returns : goal.returns
returns c = step_on_inputs
