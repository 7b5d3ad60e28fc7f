use Rattle.run_laws.proofs.Headline.Moments.{deciding_always, served_always}
use Rattle.run_laws.proofs.headline_laws.decided_as_given.Goals as goal

pub returns-clause-deciding : goal.returns-clause-deciding
returns-clause-deciding c = deciding_always

pub returns-clause-served : goal.returns-clause-served
returns-clause-served c = served_always
