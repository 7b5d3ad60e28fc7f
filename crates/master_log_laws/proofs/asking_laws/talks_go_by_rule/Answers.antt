use Rattle.master_log_laws.proofs.Asking.Legal.{talks_go_by_rule}
use Rattle.master_log_laws.proofs.asking_laws.talks_go_by_rule.Goals as goal

pub returns : goal.returns
returns c = talks_go_by_rule
