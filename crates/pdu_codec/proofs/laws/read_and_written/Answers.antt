use Rattle.std.proofs.Common.{sym, ◌∙◌}
use Rattle.pdu_layout.specs.Message.{message_of}
use Rattle.pdu_codec.proofs.Told.{spelling_is}
use Rattle.pdu_codec.proofs.laws.read_and_written.Goals as goal

pub encode-length-requires : goal.encode-length-requires
encode-length-requires c = (c.args.bytes.now, c.in_ok-message.ensures.ok)

pub returns-clause-same : goal.returns-clause-same
returns-clause-same c = c.encode-length.ensures.told ∙ sym (spelling_is (message_of c.in_ok-message.message) c.args.bytes.now c.in_ok-message.ensures.ok)
