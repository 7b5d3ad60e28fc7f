use Rattle.std.proofs.Common.{◌≡◌, ℕ, arith, sym, ◌∙◌, subst}
use Rattle.pdu_layout.specs.Fields.FieldValue.{Number}
use Rattle.pdu_layout.specs.declared.fields.FieldKind.TheVariants as kinds
use Rattle.pdu_codec.specs.Pieces.{Holds}
use Rattle.pdu_codec.proofs.Digits.{number}
use Rattle.pdu_codec.proofs.Values.{holds, number-one}
use Rattle.std.proofs.lemmas.Option.{MatchOption-at_some}
use Rattle.dcp_types.specs.Codes.{state_code}
use Rattle.pdu_codec.proofs.leaves.state_of.Goals as goal

pub returns : goal.returns
returns c =
    let code = MatchOption-at_some _ _ c.unwrap.result c.unwrap.ensures c.from_code.ensures in
    let e : number c.args.piece.now ≡ state_code c.unwrap.result = number-one c.args.piece.now c.requires.one ∙ sym code in
    subst (λ (n : ℕ). Holds kinds.StateCode 0 (Number n) c.args.piece.now) e (holds kinds.StateCode 0 c.args.piece.now (λ i. omega (arith, c.type_inv.piece i)) (c.requires.one, c.requires.known))
