use Rattle.witness_laws.proofs.Shown.Unexchanged.{early_values_not, late_values_not}
use Rattle.witness_laws.proofs.finished.exchanges_need_their_values.Goals as goal

pub returns-clause-early : goal.returns-clause-early
returns-clause-early c = early_values_not

pub returns-clause-late : goal.returns-clause-late
returns-clause-late c = late_values_not
