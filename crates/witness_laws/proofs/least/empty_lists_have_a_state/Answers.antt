use Rattle.witness_laws.proofs.Shown.Pairs.{tells_adjust, none_in_adjust, tells_stopped}
use Rattle.witness_laws.proofs.least.empty_lists_have_a_state.Goals as goal

pub returns-clause-second : goal.returns-clause-second
returns-clause-second c = tells_adjust

pub returns-clause-first : goal.returns-clause-first
returns-clause-first c = none_in_adjust

pub returns-clause-stopped : goal.returns-clause-stopped
returns-clause-stopped c = tells_stopped
