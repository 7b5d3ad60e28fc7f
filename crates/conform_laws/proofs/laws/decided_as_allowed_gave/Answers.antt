use Rattle.conform_laws.proofs.Once.{decided_so, given_so}
use Rattle.conform_laws.proofs.laws.decided_as_allowed_gave.Goals as goal

pub returns-clause-deciding : goal.returns-clause-deciding
returns-clause-deciding c = given_so

pub returns-clause-taken : goal.returns-clause-taken
returns-clause-taken c = decided_so
