use Rattle.std.proofs.Common.{ap, ◌∙◌}
use Rattle.pdu_layout.specs.declared.messages.Pdu.{Pdu}
use Rattle.pdu_layout.specs.Message.{message_of}
use Rattle.pdu_layout.specs.Reading.{spelling}
use Rattle.master_spec.specs.News.{request_bytes}
use Rattle.conversation.proofs.Spelling.{spelled_is}
use Rattle.conversation.proofs.asking.put_request.Goals as goal

pub returns-then-in_range-clause-bytes : goal.returns-then-in_range-clause-bytes
unfolding request_bytes
returns-then-in_range-clause-bytes c = λ h. spelled_is _ _ c.encode.ensures.spelled ∙ ap (λ (p : Pdu). spelling (message_of p)) c.pdu_of-pdu.ensures
