use Rattle.slave_laws.proofs.Wiring.Planned.{input_intervals, output_intervals}
use Rattle.slave_laws.proofs.links.intervals_are_planned.Goals as goal

pub returns-clause-inputs : goal.returns-clause-inputs
returns-clause-inputs c = input_intervals

pub returns-clause-outputs : goal.returns-clause-outputs
returns-clause-outputs c = output_intervals
