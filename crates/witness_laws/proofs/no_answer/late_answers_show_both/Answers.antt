use Rattle.witness_laws.proofs.Shown.Silences.{tells_late, shown_too}
use Rattle.witness_laws.proofs.no_answer.late_answers_show_both.Goals as goal

pub returns-clause-first : goal.returns-clause-first
returns-clause-first c = tells_late

pub returns-clause-both : goal.returns-clause-both
returns-clause-both c = shown_too
