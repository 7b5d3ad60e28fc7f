use Rattle.witness_laws.proofs.Shown.FirstPhases.{tells_refusing, only_refusing}
use Rattle.witness_laws.proofs.refused.refusals_are_shown.Goals as goal

pub returns-clause-first : goal.returns-clause-first
returns-clause-first c = tells_refusing

pub returns-clause-only : goal.returns-clause-only
returns-clause-only c = only_refusing
