use Rattle.std.proofs.Common.{◌≡◌, ℕ, arith, sym, ◌∙◌, subst}
use Rattle.pdu_layout.specs.Fields.FieldValue.{Number}
use Rattle.pdu_layout.specs.declared.fields.FieldKind.TheVariants as kinds
use Rattle.pdu_codec.specs.Pieces.{Holds}
use Rattle.pdu_codec.proofs.Digits.{number, number-little}
use Rattle.pdu_codec.proofs.Values.{holds}
use Rattle.pdu_codec.proofs.leaves.u64_of.Goals as goal

pub returns : goal.returns
returns c =
    let e : number c.args.piece.now ≡ c.read_u64.result = number-little 8 c.args.piece.now c.requires ∙ sym c.read_u64.ensures in
    subst (λ (n : ℕ). Holds kinds.U64 0 (Number n) c.args.piece.now) e (holds kinds.U64 0 c.args.piece.now (λ i. omega (arith, c.type_inv.piece i)) c.requires)
