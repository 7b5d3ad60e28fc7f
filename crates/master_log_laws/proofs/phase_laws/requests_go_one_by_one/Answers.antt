use Rattle.master_log_laws.proofs.Phases.Numbered.{one_by_one}
use Rattle.master_log_laws.proofs.phase_laws.requests_go_one_by_one.Goals as goal

pub returns : goal.returns
returns c = one_by_one
