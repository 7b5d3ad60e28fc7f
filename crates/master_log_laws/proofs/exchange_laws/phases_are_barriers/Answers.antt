use Rattle.master_log_laws.proofs.Exchanges.Barriers.{barriers}
use Rattle.master_log_laws.proofs.exchange_laws.phases_are_barriers.Goals as goal

pub returns : goal.returns
returns c = barriers
