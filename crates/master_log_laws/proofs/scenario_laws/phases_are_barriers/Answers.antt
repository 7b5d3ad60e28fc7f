use Rattle.master_log_laws.proofs.Scenarios.Scenarios.{are_barriers}
use Rattle.master_log_laws.proofs.scenario_laws.phases_are_barriers.Goals as goal

pub returns : goal.returns
returns c = are_barriers
