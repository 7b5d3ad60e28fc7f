use Rattle.run_laws.proofs.Headline.Moments.{together_always, in_step_always}
use Rattle.run_laws.proofs.headline_laws.slaves_keep_together.Goals as goal

pub returns-clause-places : goal.returns-clause-places
returns-clause-places c = together_always

pub returns-clause-steps : goal.returns-clause-steps
returns-clause-steps c = in_step_always
