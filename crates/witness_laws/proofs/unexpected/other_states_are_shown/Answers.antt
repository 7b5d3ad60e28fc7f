use Rattle.witness_laws.proofs.Shown.FirstPhases.{tells_other_state, only_other_state}
use Rattle.witness_laws.proofs.unexpected.other_states_are_shown.Goals as goal

pub returns-clause-first : goal.returns-clause-first
returns-clause-first c = tells_other_state

pub returns-clause-only : goal.returns-clause-only
returns-clause-only c = only_other_state
