use Rattle.pdu_text.specs.Contents.{message_of_said}
use Rattle.pdu_text.proofs.handing.put_pdu_text.Goals as goal

pub put_said-requires : goal.put_said-requires
put_said-requires c = c.in_ok-said.ensures.ok.spelled

pub returns-clause-ok : goal.returns-clause-ok
returns-clause-ok c = record { message = message_of_said c.in_ok-said.said; reads = c.in_ok-said.ensures.ok; spells = c.in_ok-length.ensures.spelled }
