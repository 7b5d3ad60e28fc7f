use Rattle.std.proofs.Common.{◌≡◌, ℕ, sym, subst, rules}
use Rattle.std.proofs.lemmas.Int.{to_z-of_z}
use mir.Syntax.{w128}
use mir.Val.{to_z, of_z}
use Rattle.dcp_types.specs.Codes.{type_code}
use Rattle.dcp_types.specs.Values.{fits, value_bytes}
use Rattle.dcp_types.specs.declared.data_types.DataType.{DataType}
use Rattle.std.specs.Prelude.{ℤ, List, IsTrue}
use Rattle.pdu_layout.specs.Fields.FieldValue.{Signed}
use Rattle.pdu_layout.specs.declared.fields.FieldKind.TheVariants as kinds
use Rattle.pdu_codec.specs.Pieces.{Holds}
use Rattle.pdu_layout.proofs.Contents.{type_from-code}
use Rattle.pdu_codec.proofs.leaves.value_of.Goals as goal

held : (kind : DataType) (z : ℤ) (x : List ℕ) (t : ℕ) → IsTrue (fits kind z) → value_bytes kind z ≡ x → t ≡ type_code kind → Holds kinds.Value t (Signed z) x
held kind z x t f b e =
    subst (λ (u : ℕ). Holds kinds.Value u (Signed z) x) (sym e) (record {
      fits = subst (λ (k : DataType). IsTrue (fits k z)) (sym (type_from-code kind)) f;
      bytes = subst (λ (k : DataType). value_bytes k z ≡ x) (sym (type_from-code kind)) b;
    })

pub returns : goal.returns
returns c =
    let r = c.get_value.result in
    let same : to_z w128 (of_z w128 r) ≡ r = to_z-of_z w128 r (search rules) in
    λ t e. rw same (held c.args.kind r c.args.piece.now t c.get_value.ensures.fits c.get_value.ensures.bytes e)
