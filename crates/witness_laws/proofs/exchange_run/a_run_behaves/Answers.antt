use Rattle.witness_laws.proofs.Exchange.Running.{are_slaves, behaves}
use Rattle.witness_laws.proofs.exchange_run.a_run_behaves.Goals as goal

pub returns-clause-slaves : goal.returns-clause-slaves
returns-clause-slaves c = are_slaves

pub returns-clause-run : goal.returns-clause-run
returns-clause-run c = behaves
