use Rattle.std.proofs.Common.{refl, sym, ◌∙◌, ◌<◌, subst, arith}
use Rattle.std.proofs.lemmas.Option.{MatchOption-at_some}
use Rattle.pdu_layout.specs.declared.message_parts.FieldContent.{FieldContent}
use Rattle.pdu_layout.specs.declared.fields.FieldKind.TheVariants.{TypeCode}
use Rattle.pdu_layout.specs.Fields.{Fits}
use Rattle.pdu_layout.specs.Parts.{value_of}
use Rattle.pdu_layout.proofs.Contents.{type_is}
use Rattle.pdu_layout.proofs.ranges.named_type.Goals as goal

pub returns : goal.returns
returns c =
    let small : c.in-Number.n < 8 = subst (λ (d : FieldContent). Fits TypeCode 0 (value_of d)) c.in-Number.is c.requires in
    MatchOption-at_some _ _ c.unwrap.result c.unwrap.ensures c.from_code.ensures ∙ sym (type_is TypeCode 0 c.args.content c.in-Number.n refl c.in-Number.is (omega (arith, small)))
