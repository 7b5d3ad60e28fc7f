use Rattle.pdu_codec.proofs.Told.{read_as_spelled}
use Rattle.pdu_codec.proofs.laws.bytes_say_what_they_spell.Goals as goal

pub returns : goal.returns
returns c = read_as_spelled
