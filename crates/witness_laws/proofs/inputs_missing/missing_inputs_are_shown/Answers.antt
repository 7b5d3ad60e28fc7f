use Rattle.witness_laws.proofs.Shown.LaterPhases.{tells_inputs, only_inputs}
use Rattle.witness_laws.proofs.inputs_missing.missing_inputs_are_shown.Goals as goal

pub returns-clause-first : goal.returns-clause-first
returns-clause-first c = tells_inputs

pub returns-clause-only : goal.returns-clause-only
returns-clause-only c = only_inputs
