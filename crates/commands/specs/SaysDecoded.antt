-- What `decode` says of bytes.
use Rattle.std.specs.Prelude.{◌≡◌, ℕ, List, codes}
use Rattle.pdu_layout.specs.Message.{Message, Spells}
use Rattle.pdu_codec.specs.declared.faults.DecodeWhy.{DecodeWhy}
use Rattle.pdu_codec.specs.declared.faults.DecodeWhy.TheVariants.{Empty, UnknownType, Short, Long, BadState, BadType, TooLong}
use Rattle.pdu_codec.specs.Refusals.{Refusal}
use Rattle.pdu_text.specs.Printed.{line_of_message}
use Rattle.commands.specs.declared.statuses.Judgement.{Judgement}
use Rattle.commands.specs.declared.statuses.Judgement.TheVariants as judged
use Rattle.commands.specs.Refusals.{byte_refusal}

-- the word for why bytes spell no message
abbrev pub decode_word : DecodeWhy → List ℕ
decode_word Empty = codes "EMPTY"
decode_word UnknownType = codes "UNKNOWN_TYPE"
decode_word Short = codes "SHORT"
decode_word Long = codes "LONG"
decode_word BadState = codes "BAD_STATE"
decode_word BadType = codes "BAD_TYPE"
decode_word TooLong = codes "TOO_LONG"

-- the line of the message that the bytes spell, or where and why they spell none
abbrev pub SaysDecoded : List ℕ → Judgement → List ℕ → Type 0
SaysDecoded input judged.Good text = (message : Message) × Spells message input × (text ≡ line_of_message message)
SaysDecoded input judged.Refused text = (at : ℕ) × (why : DecodeWhy) × Refusal input at why × (text ≡ byte_refusal at (decode_word why))
SaysDecoded input judged.Failed text = ⊥
SaysDecoded input judged.Differs text = ⊥
