use Rattle.witness_laws.proofs.Shown.Pairs.{tells_reset, none_in_reset}
use Rattle.witness_laws.proofs.least.phases_without_outputs_miss_none.Goals as goal

pub returns-clause-second : goal.returns-clause-second
returns-clause-second c = tells_reset

pub returns-clause-first : goal.returns-clause-first
returns-clause-first c = none_in_reset
