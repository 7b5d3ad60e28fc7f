-- How bytes are cut is a fact: there is one proof of it at most.
use Rattle.std.specs.Prelude.{◌≡◌, ℕ, ◌<◌, ◌≤◌, List, [], ◌∷◌, length, slice_index, slice_range}
use Rattle.std.proofs.Props.{props}
use Rattle.pdu_layout.specs.declared.fields.FieldKind.{FieldKind}
use Rattle.pdu_layout.specs.declared.fields.FieldKind.TheVariants.{StateCode, TypeCode, Rest}
use Rattle.pdu_layout.specs.Fields.{type_after}
use Rattle.pdu_codec.specs.Pieces.{AreEnds, IsPiece}
use Rattle.pdu_codec.specs.Cuts.{IsCut}

piece_prop : (k : FieldKind) (t : ℕ) (x : List ℕ) → IsProp (IsPiece k t x)
piece_prop StateCode t x = Prim.hlevel props
piece_prop TypeCode t x = Prim.hlevel props
piece_prop Rest t x = Prim.hlevel props
piece_prop k t x = Prim.hlevel props

ends_prop : (ks : List FieldKind) (t : ℕ) (b : List ℕ) (from : ℕ) (ends : List ℕ) → IsProp (AreEnds ks t b from ends)
ends_prop [] t b from [] = Prim.hlevel props
ends_prop [] t b from (end ∷ ends) = Prim.hlevel props
ends_prop (k ∷ ks) t b from [] = Prim.hlevel props
ends_prop (k ∷ ks) t b from (end ∷ ends) =
    let x = slice_range b from end in
    Prim.hlevel (props, piece_prop k t x, ends_prop ks (type_after k t x) b end ends)

pub cut_prop : (code : ℕ) (ks : List FieldKind) (b ends : List ℕ) → IsProp (IsCut code ks b ends)
cut_prop code ks b ends = Prim.hlevel (props, ends_prop ks 0 b 1 ends)
