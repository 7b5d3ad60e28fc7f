use Rattle.desc_text.proofs.Answered.{either, one_value}
use Rattle.desc_text.proofs.Apart.{reads_not_bad, one_bad}
use Rattle.desc_text.proofs.reading.reads_or_refused.Goals as goal

pub returns : goal.returns
returns c = record { either = either; never_both = reads_not_bad; one_value = one_value; one_fault = one_bad }
