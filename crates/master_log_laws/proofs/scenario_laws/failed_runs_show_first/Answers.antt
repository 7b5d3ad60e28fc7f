use Rattle.master_log_laws.proofs.Scenarios.Scenarios.{failed_first}
use Rattle.master_log_laws.proofs.scenario_laws.failed_runs_show_first.Goals as goal

pub returns : goal.returns
returns c = failed_first
