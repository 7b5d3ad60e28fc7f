use Rattle.witness_laws.proofs.Shown.LaterPhases.{tells_stuck, only_stuck}
use Rattle.witness_laws.proofs.stuck.stuck_slaves_are_shown.Goals as goal

pub returns-clause-first : goal.returns-clause-first
returns-clause-first c = tells_stuck

pub returns-clause-only : goal.returns-clause-only
returns-clause-only c = only_stuck
