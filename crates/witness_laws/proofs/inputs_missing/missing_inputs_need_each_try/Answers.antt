use Rattle.witness_laws.proofs.Shown.LaterPhases.{none_once, tells_otherwise, only_otherwise}
use Rattle.witness_laws.proofs.inputs_missing.missing_inputs_need_each_try.Goals as goal

pub returns-clause-once : goal.returns-clause-once
returns-clause-once c = none_once

pub returns-clause-first : goal.returns-clause-first
returns-clause-first c = tells_otherwise

pub returns-clause-only : goal.returns-clause-only
returns-clause-only c = only_otherwise
