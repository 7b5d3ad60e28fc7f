-- What `encode` says of a text.
use Rattle.std.specs.Prelude.{◌≡◌, ℕ, List}
use Rattle.pdu_layout.specs.Message.{Message, Spells}
use Rattle.pdu_text.specs.declared.reasons.PduTextWhy.{PduTextWhy}
use Rattle.pdu_text.specs.Reasons.{why_word}
use Rattle.pdu_text.specs.Reading.{ReadsMessage}
use Rattle.pdu_text.specs.Refusals.{RefusedFor}
use Rattle.commands.specs.declared.statuses.Judgement.{Judgement}
use Rattle.commands.specs.declared.statuses.Judgement.TheVariants as judged
use Rattle.commands.specs.Refusals.{line_refusal}

-- the bytes of the message that the one line says, or the first rule that it breaks
abbrev pub SaysEncoded : List ℕ → Judgement → List ℕ → Type 0
SaysEncoded input judged.Good text = (message : Message) × ReadsMessage input message × Spells message text
SaysEncoded input judged.Refused text = (why : PduTextWhy) × RefusedFor input why × (text ≡ line_refusal 1 (why_word why))
SaysEncoded input judged.Failed text = ⊥
SaysEncoded input judged.Differs text = ⊥
