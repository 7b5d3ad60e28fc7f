-- Each text reads as one message or breaks one rule first.
use Rattle.std.proofs.Common.{◌≡◌, ◌⊎◌, inl, inr, ℕ, List, Result, Ok, Err, refl, sym, ◌∙◌}
use Rattle.pdu_layout.specs.Message.{Message}
use Rattle.pdu_text.specs.Reading.{ReadsMessage}
use Rattle.pdu_text.specs.Refusals.{RefusedFor}
use Rattle.pdu_text.specs.Machine.{text_said}
use Rattle.pdu_text.specs.Laws.{ReadsOrBreaks, NeverBoth, OneMessage, OneCause}
use Rattle.pdu_text.specs.declared.reasons.PduTextWhy.{PduTextWhy}
use Rattle.pdu_text.proofs.Judged.{reads_said, said_reads, refused_said, said_refused}

abbrev good : Message → Result Message PduTextWhy
good p = Ok p

abbrev bad : PduTextWhy → Result Message PduTextWhy
bad why = Err why

judge : (text : List ℕ) (r : Result Message PduTextWhy) → text_said text ≡ r → ((p : Message) × ReadsMessage text p) ⊎ ((why : PduTextWhy) × RefusedFor text why)
judge text (Ok p) e = inl (p, said_reads text p e)
judge text (Err why) e = inr (why, said_refused text why e)

same_message : (p q : Message) → good p ≡ good q → p ≡ q
same_message p q e = cc

same_cause : (v w : PduTextWhy) → bad v ≡ bad w → v ≡ w
same_cause v w e = cc

not_both : (p : Message) (why : PduTextWhy) → good p ≡ bad why → ⊥
not_both p why e = cc

pub reads_or_breaks : ReadsOrBreaks
reads_or_breaks text = judge text (text_said text) refl

pub never_both : NeverBoth
never_both text p why h k = not_both p why (sym (reads_said text p h) ∙ refused_said text why k)

pub one_reading : OneMessage
one_reading text p q h k = same_message p q (sym (reads_said text p h) ∙ reads_said text q k)

pub one_cause : OneCause
one_cause text v w h k = same_cause v w (sym (refused_said text v h) ∙ refused_said text w k)
