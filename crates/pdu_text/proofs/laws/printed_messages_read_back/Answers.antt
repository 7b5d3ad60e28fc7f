use Rattle.pdu_text.proofs.ReadBack.{printed_reads}
use Rattle.pdu_text.proofs.laws.printed_messages_read_back.Goals as goal

pub returns : goal.returns
returns c = printed_reads
