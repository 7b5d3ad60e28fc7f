use Rattle.std.proofs.Common.{ℕ, List, sym, ◌∙◌, subst}
use Rattle.pdu_layout.specs.Message.{message_of}
use Rattle.pdu_text.specs.Reading.{ReadsMessage}
use Rattle.pdu_text.proofs.PrintedLines.{line_is}
use Rattle.pdu_text.proofs.ReadBack.{printed_reads}
use Rattle.pdu_text.proofs.print.print_pdu.Goals as goal

pub returns-clause-line : goal.returns-clause-line
returns-clause-line c = c.in_ok-line.ensures ∙ sym (line_is _ c.parts_of-parts.result c.parts_of-parts.ensures)

pub returns-clause-back : goal.returns-clause-back
returns-clause-back c = λ h. subst (λ (text : List ℕ). ReadsMessage text (message_of c.args.pdu.now)) (sym (returns-clause-line c)) (printed_reads (message_of c.args.pdu.now) h)
