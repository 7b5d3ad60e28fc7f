use Rattle.talk_text.proofs.Answered.{either}
use Rattle.talk_text.proofs.Apart.{talk_not_bad, one_talk, one_bad}
use Rattle.talk_text.proofs.reading.talks_read_or_are_refused.Goals as goal

pub returns : goal.returns
returns c = record { either = either; never_both = talk_not_bad; one_value = one_talk; one_fault = one_bad }
