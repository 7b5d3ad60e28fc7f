use Rattle.std.proofs.Common.{sym, subst}
use Rattle.pdu_layout.specs.Message.{message_of, Spells}
use Rattle.pdu_layout.proofs.Spellings.{fill_of}
use Rattle.pdu_codec.proofs.Told.{spelling_is}
use Rattle.pdu_codec.proofs.Writing.{spells_parts}
use Rattle.pdu_codec.proofs.to_bytes.encode.Goals as goal

pub put_message-requires-clause-fill : goal.put_message-requires-clause-fill
put_message-requires-clause-fill c = fill_of (message_of c.args.pdu.now) c.parts_of-parts.result c.parts_of-parts.ensures c.requires

pub returns-clause-spelled : goal.returns-clause-spelled
returns-clause-spelled c =
    subst (Spells (message_of c.args.pdu.now)) (sym c.put_message.ensures.bytes) (spells_parts (message_of c.args.pdu.now) c.parts_of-parts.result c.parts_of-parts.ensures (fill_of (message_of c.args.pdu.now) c.parts_of-parts.result c.parts_of-parts.ensures c.requires))

pub returns-clause-told : goal.returns-clause-told
returns-clause-told c = spelling_is (message_of c.args.pdu.now) _ (returns-clause-spelled c)
