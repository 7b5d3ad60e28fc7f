use Rattle.witness_laws.proofs.Shown.Silences.{none_early, none_once, none_slow, none_answered}
use Rattle.witness_laws.proofs.no_answer.silence_needs_each_sending.Goals as goal

pub returns-clause-turn : goal.returns-clause-turn
returns-clause-turn c = none_early

pub returns-clause-sending : goal.returns-clause-sending
returns-clause-sending c = none_once

pub returns-clause-repeat : goal.returns-clause-repeat
returns-clause-repeat c = none_slow

pub returns-clause-answer : goal.returns-clause-answer
returns-clause-answer c = none_answered
