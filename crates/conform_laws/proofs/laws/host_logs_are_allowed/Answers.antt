use Rattle.slave_spec.specs.Slaves.{slave_rules_from}
use Rattle.conform_laws.proofs.Cutting.{rounds_cut}
use Rattle.conform_laws.proofs.Following.{cut_allowed}
use Rattle.conform_laws.proofs.laws.host_logs_are_allowed.Goals as goal

pub returns : goal.returns
returns c = λ master slaves n log setup rounds follows. cut_allowed setup log (rounds_cut master slaves n log (slave_rules_from setup) rounds follows)
