use Rattle.run_laws.proofs.Headline.Rows.{front_always, whole_always}
use Rattle.run_laws.proofs.headline_laws.rows_are_those_of_the_reference.Goals as goal

pub returns-clause-front : goal.returns-clause-front
returns-clause-front c = front_always

pub returns-clause-whole : goal.returns-clause-whole
returns-clause-whole c = whole_always
