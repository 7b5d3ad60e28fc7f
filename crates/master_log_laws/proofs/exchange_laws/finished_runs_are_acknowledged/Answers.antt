use Rattle.master_log_laws.proofs.Exchanges.Finished.{finished_is_acknowledged}
use Rattle.master_log_laws.proofs.exchange_laws.finished_runs_are_acknowledged.Goals as goal

pub returns : goal.returns
returns c = finished_is_acknowledged
