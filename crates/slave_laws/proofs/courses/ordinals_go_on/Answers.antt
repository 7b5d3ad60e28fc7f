use Rattle.slave_laws.proofs.Wiring.Counting.{inputs_go_on, outputs_go_on}
use Rattle.slave_laws.proofs.courses.ordinals_go_on.Goals as goal

pub returns-clause-inputs : goal.returns-clause-inputs
returns-clause-inputs c = inputs_go_on

pub returns-clause-outputs : goal.returns-clause-outputs
returns-clause-outputs c = outputs_go_on
