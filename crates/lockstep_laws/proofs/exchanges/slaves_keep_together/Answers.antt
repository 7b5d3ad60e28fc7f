use Rattle.lockstep_laws.proofs.Places.{step_together, in_step}
use Rattle.lockstep_laws.proofs.exchanges.slaves_keep_together.Goals as goal

pub returns-clause-places : goal.returns-clause-places
returns-clause-places c = step_together

pub returns-clause-steps : goal.returns-clause-steps
returns-clause-steps c = in_step
