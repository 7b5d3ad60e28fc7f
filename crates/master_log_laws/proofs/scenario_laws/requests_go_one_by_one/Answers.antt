use Rattle.master_log_laws.proofs.Scenarios.Scenarios.{go_one_by_one}
use Rattle.master_log_laws.proofs.scenario_laws.requests_go_one_by_one.Goals as goal

pub returns : goal.returns
returns c = go_one_by_one
