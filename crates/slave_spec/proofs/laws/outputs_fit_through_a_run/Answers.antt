use Rattle.slave_spec.proofs.Regular.{regular_after}
use Rattle.slave_spec.proofs.laws.outputs_fit_through_a_run.Goals as goal

pub returns : goal.returns
returns c = λ setup events. regular_after setup events
