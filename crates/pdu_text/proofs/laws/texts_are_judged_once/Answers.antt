use Rattle.pdu_text.proofs.Once.{reads_or_breaks, never_both, one_reading, one_cause}
use Rattle.pdu_text.proofs.laws.texts_are_judged_once.Goals as goal

pub returns-clause-judged : goal.returns-clause-judged
returns-clause-judged c = reads_or_breaks

pub returns-clause-never_both : goal.returns-clause-never_both
returns-clause-never_both c = never_both

pub returns-clause-one_message : goal.returns-clause-one_message
returns-clause-one_message c = one_reading

pub returns-clause-one_cause : goal.returns-clause-one_cause
returns-clause-one_cause c = one_cause

pub returns-clause-spelled : goal.returns-clause-spelled
returns-clause-spelled c = λ text p h. h.spelled
