use Rattle.std.proofs.Common.{◌≡◌, ℕ, arith, sym, ◌∙◌, subst}
use Rattle.pdu_layout.specs.Fields.FieldValue.{Number}
use Rattle.pdu_layout.specs.declared.fields.FieldKind.TheVariants as kinds
use Rattle.pdu_codec.specs.Pieces.{Holds}
use Rattle.pdu_codec.proofs.Digits.{number, number-big}
use Rattle.pdu_codec.proofs.Values.{holds}
use Rattle.std.proofs.Common.{reverse}
use Rattle.pdu_codec.proofs.leaves.uuid_of.Goals as goal

pub returns : goal.returns
returns c =
    let e : number (reverse c.args.piece.now) ≡ c.read_u128.result = number-big 16 c.args.piece.now c.requires ∙ sym c.read_u128.ensures in
    subst (λ (n : ℕ). Holds kinds.Uuid 0 (Number n) c.args.piece.now) e (holds kinds.Uuid 0 c.args.piece.now (λ i. omega (arith, c.type_inv.piece i)) c.requires)
