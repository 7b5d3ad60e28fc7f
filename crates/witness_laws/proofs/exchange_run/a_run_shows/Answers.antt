use Rattle.witness_laws.proofs.Exchange.Running.{two_sent, taken, decided}
use Rattle.witness_laws.proofs.exchange_run.a_run_shows.Goals as goal

pub returns-clause-sent : goal.returns-clause-sent
returns-clause-sent c = two_sent

pub returns-clause-taken : goal.returns-clause-taken
returns-clause-taken c = taken

pub returns-clause-decided : goal.returns-clause-decided
returns-clause-decided c = decided
