use Rattle.completeness_laws.proofs.Timely.Witnesses.{slow, short}
use Rattle.completeness_laws.proofs.slow_slaves_do_not.Goals as goal

pub returns-clause-steps : goal.returns-clause-steps
returns-clause-steps c = slow

pub returns-clause-hearts : goal.returns-clause-hearts
returns-clause-hearts c = short
