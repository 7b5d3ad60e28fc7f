use Rattle.master_log_laws.proofs.Scenarios.Scenarios.{finished_acknowledged}
use Rattle.master_log_laws.proofs.scenario_laws.finished_runs_are_acknowledged.Goals as goal

pub returns : goal.returns
returns c = finished_acknowledged
