use Rattle.std.proofs.Common.{sym, ap, subst, ◌∙◌, Err}
use Rattle.std.proofs.Common.{Result}
use Rattle.pdu_text.specs.Takers.{ReadsAndSpells}
use Rattle.pdu_text.specs.declared.reasons.PduTextWhy.{PduTextWhy}
use Rattle.talk_text.specs.Judging.{why_of}
use Rattle.talk_text.specs.declared.events.TalkEvent.{TalkEvent}
use Rattle.text_lines.specs.declared.reasons.TextWhy.{TextWhy}
use Rattle.talk_text.proofs.Messages.{message_is, message_refused}
use Rattle.talk_text.proofs.message_lines.message_event.Goals as goal

abbrev bad : TextWhy → Result TalkEvent TextWhy
bad w = Err w

pub returns-in_ok-bytes-in-Ok : goal.returns-in_ok-bytes-in-Ok
returns-in_ok-bytes-in-Ok c =
    message_is c.args.line.now _ (subst (ReadsAndSpells c.args.line.now) (sym c.in_ok-bytes-in-Ok.ensures) c.in-Ok.ensures.ok)

pub returns-in-Err-Line : goal.returns-in-Err-Line
returns-in-Err-Line c =
    let refused = message_refused c.args.line.now _ (rw c.in-Err-Line.field-0-is at c.in-Err-Line.ensures.err) in
    refused ∙ ap (λ (w : PduTextWhy). bad (why_of w)) (sym c.in-Err-Line.why-is) ∙ ap (λ (w : TextWhy). bad w) (sym c.why_of.ensures)
