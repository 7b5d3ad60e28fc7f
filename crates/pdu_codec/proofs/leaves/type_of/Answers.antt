use Rattle.std.proofs.Common.{◌≡◌, ℕ, arith, sym, ◌∙◌, subst}
use Rattle.pdu_layout.specs.Fields.FieldValue.{Number}
use Rattle.pdu_layout.specs.declared.fields.FieldKind.TheVariants as kinds
use Rattle.pdu_codec.specs.Pieces.{Holds}
use Rattle.pdu_codec.proofs.Digits.{number}
use Rattle.pdu_codec.proofs.Values.{holds, number-one}
use Rattle.std.proofs.lemmas.Option.{MatchOption-at_some}
use Rattle.dcp_types.specs.Codes.{type_code}
use Rattle.pdu_codec.proofs.leaves.type_of.Goals as goal

pub returns-clause-held : goal.returns-clause-held
returns-clause-held c =
    let code = MatchOption-at_some _ _ c.unwrap.result c.unwrap.ensures c.from_code.ensures in
    let e : number c.args.piece.now ≡ type_code c.unwrap.result = number-one c.args.piece.now c.requires.one ∙ sym code in
    subst (λ (n : ℕ). Holds kinds.TypeCode 0 (Number n) c.args.piece.now) e (holds kinds.TypeCode 0 c.args.piece.now (λ i. omega (arith, c.type_inv.piece i)) (c.requires.one, c.requires.known))
