-- The event of a line is the message as which it reads.
use Rattle.std.proofs.Common.{◌≡◌, ℕ, List, Ok, Err, ap, sym, subst, ◌∙◌}
use Rattle.pdu_layout.specs.Message.{Message, Spells}
use Rattle.pdu_layout.specs.Reading.{spelling}
use Rattle.pdu_text.specs.Takers.{ReadsAndSpells}
use Rattle.pdu_text.specs.Refusals.{RefusedFor}
use Rattle.pdu_text.specs.Machine.{text_said}
use Rattle.pdu_text.specs.declared.reasons.PduTextWhy.{PduTextWhy}
use Rattle.pdu_text.proofs.Judged.{reads_said, said_reads, refused_said}
use Rattle.text_lines.proofs.Results.{given}
use Rattle.talk_text.specs.Judging.{why_of}
use Rattle.talk_text.specs.Machine.{message_event}
use Rattle.talk_text.specs.declared.events.TalkEvent.TheVariants as talk

pub spelled_is : (m : Message) (b : List ℕ) → Spells m b → b ≡ spelling m
unfolding spelling
spelled_is m b s = rw s.listed s.bytes

pub message_is : (line bytes : List ℕ) → ReadsAndSpells line bytes → message_event (text_said line) ≡ Ok (talk.Message bytes)
message_is line bytes h =
    ap message_event (reads_said line h.message h.reads) ∙ ap (λ (b : List ℕ). given (talk.Message b)) (sym (spelled_is h.message bytes h.spells))

pub message_refused : (line : List ℕ) (why : PduTextWhy) → RefusedFor line why → message_event (text_said line) ≡ Err (why_of why)
message_refused line why h = ap message_event (refused_said line why h)

pub tells : (line : List ℕ) (m : Message) → text_said line ≡ Ok m → ReadsAndSpells line (spelling m)
tells line m e =
    let h = said_reads line m e in
    record { message = m; reads = h; spells = subst (Spells m) (spelled_is m h.spelled.0 h.spelled.1) h.spelled.1 }
