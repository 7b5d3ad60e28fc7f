use Rattle.std.proofs.Common.{◌≡◌, ℕ, arith, sym, ◌∙◌, subst}
use Rattle.pdu_layout.specs.Fields.FieldValue.{Number}
use Rattle.pdu_layout.specs.declared.fields.FieldKind.TheVariants as kinds
use Rattle.pdu_codec.specs.Pieces.{Holds}
use Rattle.pdu_codec.proofs.Digits.{number, number-little}
use Rattle.pdu_codec.proofs.Values.{holds}
use Rattle.pdu_codec.proofs.leaves.u32_of.Goals as goal

pub returns-clause-number : goal.returns-clause-number
returns-clause-number c =
    let e : number c.args.piece.now ≡ c.read_u32.result = number-little 4 c.args.piece.now c.requires ∙ sym c.read_u32.ensures in
    subst (λ (n : ℕ). Holds kinds.U32 0 (Number n) c.args.piece.now) e (holds kinds.U32 0 c.args.piece.now (λ i. omega (arith, c.type_inv.piece i)) c.requires)

pub returns-clause-ip : goal.returns-clause-ip
returns-clause-ip c =
    let e : number c.args.piece.now ≡ c.read_u32.result = number-little 4 c.args.piece.now c.requires ∙ sym c.read_u32.ensures in
    subst (λ (n : ℕ). Holds kinds.Ip 0 (Number n) c.args.piece.now) e (holds kinds.Ip 0 c.args.piece.now (λ i. omega (arith, c.type_inv.piece i)) c.requires)
