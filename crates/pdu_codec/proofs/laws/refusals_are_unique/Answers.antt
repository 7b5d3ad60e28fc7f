use Rattle.pdu_codec.proofs.OneRefusal.{one_refusal}
use Rattle.pdu_codec.proofs.laws.refusals_are_unique.Goals as goal

pub returns : goal.returns
returns c = one_refusal
