use Rattle.master_log_laws.proofs.Failures.First.{failed_is_first}
use Rattle.master_log_laws.proofs.failure_laws.failed_shows_first.Goals as goal

pub returns : goal.returns
returns c = failed_is_first
