use Rattle.std.proofs.Common.{◌≡◌, sym, ◌∙◌, ap, subst, length}
use Rattle.dcp_types.specs.Codes.{type_code}
use Rattle.pdu_layout.specs.declared.message_parts.FieldContent.{FieldContent}
use Rattle.pdu_layout.specs.Fields.{Fits, bytes_of}
use Rattle.pdu_layout.specs.Parts.{value_of}
use Rattle.pdu_layout.proofs.Contents.{length-number, length-signed}
use Rattle.pdu_layout.proofs.ranges.content_length.Goals as goal

pub returns-in-Number : goal.returns-in-Number
returns-in-Number c =
    c.width.ensures ∙ sym (length-number c.args.kind (type_code c.args.last) c.in-Number.field-0) ∙ ap (λ (d : FieldContent). length (bytes_of c.args.kind (type_code c.args.last) (value_of d))) (sym c.in-Number.is)

pub returns-in-Signed : goal.returns-in-Signed
returns-in-Signed c =
    c.width-in-Signed.ensures ∙ sym (length-signed c.args.kind (type_code c.args.last) c.in-Signed.field-0 (subst (λ (d : FieldContent). Fits c.args.kind (type_code c.args.last) (value_of d)) c.in-Signed.is c.requires)) ∙ ap (λ (d : FieldContent). length (bytes_of c.args.kind (type_code c.args.last) (value_of d))) (sym c.in-Signed.is)
