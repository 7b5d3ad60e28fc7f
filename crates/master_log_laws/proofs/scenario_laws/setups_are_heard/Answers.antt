use Rattle.master_log_laws.proofs.Scenarios.Heard.{setups_heard}
use Rattle.master_log_laws.proofs.scenario_laws.setups_are_heard.Goals as goal

pub returns : goal.returns
returns c = setups_heard
