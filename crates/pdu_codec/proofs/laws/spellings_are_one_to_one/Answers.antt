use Rattle.pdu_codec.proofs.OneSpelling.{one_message}
use Rattle.pdu_codec.proofs.laws.spellings_are_one_to_one.Goals as goal

pub returns : goal.returns
returns c = one_message
