use Rattle.master_log_laws.proofs.Bound.Entries.{turns_of_log}
use Rattle.master_log_laws.proofs.turns.turns_are_in_log.Goals as goal

pub returns : goal.returns
returns c = turns_of_log
