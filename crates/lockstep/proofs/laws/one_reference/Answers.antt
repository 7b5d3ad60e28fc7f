use Rattle.lockstep.proofs.Existence.{reference_exists, reference_unique}
use Rattle.lockstep.proofs.laws.one_reference.Goals as goal

pub returns-clause-exists : goal.returns-clause-exists
returns-clause-exists c = reference_exists c.args._scenario.now

pub returns-clause-unique : goal.returns-clause-unique
returns-clause-unique c rows others fault fault' one two = reference_unique c.args._scenario.now rows others fault fault' one two
