use Rattle.pdu_codec.proofs.Told.{spelling_is, has_spelling}
use Rattle.pdu_codec.proofs.laws.messages_have_one_spelling.Goals as goal

pub returns-clause-once : goal.returns-clause-once
returns-clause-once c = spelling_is

pub returns-clause-spells : goal.returns-clause-spells
returns-clause-spells c = has_spelling
