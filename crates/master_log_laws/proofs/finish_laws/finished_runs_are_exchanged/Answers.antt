use Rattle.master_log_laws.proofs.Finish.Whole.{finished_is_exchanged}
use Rattle.master_log_laws.proofs.finish_laws.finished_runs_are_exchanged.Goals as goal

pub returns : goal.returns
returns c = finished_is_exchanged
