use Rattle.witness_laws.proofs.Shown.FirstPhases.{none_not_told, none_no_error}
use Rattle.witness_laws.proofs.faulted.fault_needs_its_question.Goals as goal

pub returns-clause-untold : goal.returns-clause-untold
returns-clause-untold c = none_not_told

pub returns-clause-no_error : goal.returns-clause-no_error
returns-clause-no_error c = none_no_error
