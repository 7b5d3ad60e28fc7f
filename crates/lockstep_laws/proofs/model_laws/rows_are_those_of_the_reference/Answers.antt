use Rattle.lockstep_laws.proofs.Models.Collected.{collected, finished}
use Rattle.lockstep_laws.proofs.model_laws.rows_are_those_of_the_reference.Goals as goal

pub returns-clause-front : goal.returns-clause-front
returns-clause-front c = collected

pub returns-clause-whole : goal.returns-clause-whole
returns-clause-whole c = finished
