use Rattle.witness_laws.proofs.Shown.Silences.{only, tells}
use Rattle.witness_laws.proofs.no_answer.silence_is_shown.Goals as goal

pub returns-clause-only : goal.returns-clause-only
returns-clause-only c = only

pub returns-clause-first : goal.returns-clause-first
returns-clause-first c = tells
