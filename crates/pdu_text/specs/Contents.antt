-- What was read of a line, as a message.
use Rattle.std.specs.Prelude.{map}
use Rattle.pdu_layout.specs.Fields.{FieldValue}
use Rattle.pdu_layout.specs.Fields.FieldValue.{Number, Signed, Bytes}
use Rattle.pdu_layout.specs.Message.{Message}
use Rattle.pdu_text.specs.declared.contents.Said.{Said}
use Rattle.pdu_text.specs.declared.contents.Said.TheVariants as said
use Rattle.pdu_text.specs.declared.contents.SaidMessage.{SaidMessage}

abbrev pub value_of_said : Said → FieldValue
value_of_said (said.Number n) = Number n
value_of_said (said.Signed z) = Signed z
value_of_said (said.Bytes bytes) = Bytes bytes.items

abbrev pub message_of_said : SaidMessage → Message
message_of_said m = record { code = m.code; values = map value_of_said m.values.items }
