use Rattle.witness_laws.proofs.Shown.FirstPhases.{none_for_log}
use Rattle.witness_laws.proofs.unexpected.told_logs_show_nothing.Goals as goal

pub returns : goal.returns
returns c = none_for_log
