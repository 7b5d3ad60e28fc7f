use Rattle.lockstep_laws.proofs.Deciding.{deciding, served}
use Rattle.lockstep_laws.proofs.exchanges.decided_as_given.Goals as goal

pub returns-clause-deciding : goal.returns-clause-deciding
returns-clause-deciding c = deciding

pub returns-clause-served : goal.returns-clause-served
returns-clause-served c = served
