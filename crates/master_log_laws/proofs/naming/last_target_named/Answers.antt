use Rattle.master_log_laws.proofs.Bound.Chains.{last_named}
use Rattle.master_log_laws.proofs.naming.last_target_named.Goals as goal

pub returns : goal.returns
returns c = λ steps runs p script job e. last_named steps runs script p job e
