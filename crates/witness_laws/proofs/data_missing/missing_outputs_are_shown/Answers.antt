use Rattle.witness_laws.proofs.Shown.LaterPhases.{tells_missing, only_missing, tells_other, tells_late}
use Rattle.witness_laws.proofs.data_missing.missing_outputs_are_shown.Goals as goal

pub returns-clause-first : goal.returns-clause-first
returns-clause-first c = tells_missing

pub returns-clause-only : goal.returns-clause-only
returns-clause-only c = only_missing

pub returns-clause-other : goal.returns-clause-other
returns-clause-other c = tells_other

pub returns-clause-late : goal.returns-clause-late
returns-clause-late c = tells_late
