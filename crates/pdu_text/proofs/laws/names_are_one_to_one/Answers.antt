use Rattle.pdu_text.proofs.ReadBack.{named_back}
use Rattle.pdu_text.proofs.laws.names_are_one_to_one.Goals as goal

pub returns : goal.returns
returns c = named_back
