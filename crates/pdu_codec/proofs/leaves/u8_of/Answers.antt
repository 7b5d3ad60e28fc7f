use Rattle.std.proofs.Common.{◌≡◌, ℕ, arith, subst}
use Rattle.pdu_layout.specs.Fields.FieldValue.{Number}
use Rattle.pdu_layout.specs.declared.fields.FieldKind.TheVariants as kinds
use Rattle.pdu_codec.specs.Pieces.{Holds}
use Rattle.pdu_codec.proofs.Digits.{number}
use Rattle.pdu_codec.proofs.Values.{holds, number-one}
use Rattle.pdu_codec.proofs.leaves.u8_of.Goals as goal

pub returns : goal.returns
returns c =
    let e : number c.args.piece.now ≡ _ = number-one c.args.piece.now c.requires in
    subst (λ (n : ℕ). Holds kinds.U8 0 (Number n) c.args.piece.now) e (holds kinds.U8 0 c.args.piece.now (λ i. omega (arith, c.type_inv.piece i)) c.requires)
