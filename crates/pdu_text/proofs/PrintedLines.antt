-- The line of a message in parts.
use Rattle.std.proofs.Common.{◌≡◌, ap, ◌∙◌}
use Rattle.pdu_layout.specs.declared.message_parts.Parts.{Parts}
use Rattle.pdu_layout.specs.Parts.{AreParts, values_of}
use Rattle.pdu_layout.specs.Table.{rows_of}
use Rattle.pdu_layout.specs.Message.{Message}
use Rattle.pdu_text.specs.Printed.{row_line, printed_row, line_of_message}

pub line_is : (p : Message) (parts : Parts) → AreParts p parts → line_of_message p ≡ row_line parts.name.now (rows_of parts.fields.now) (values_of parts)
unfolding line_of_message
line_is p parts h = ap line_of_message h.message ∙ ap (λ r. printed_row r (values_of parts)) h.row
