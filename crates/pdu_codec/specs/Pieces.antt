-- The bytes of a message in pieces, one for each field.
use Rattle.std.specs.Prelude.{◌≡◌, ℕ, Option, Some, None, zero, suc, ◌+◌, ◌<◌, ◌≤◌, List, [], ◌∷◌, length, slice_index, slice_range}
use Rattle.pdu_layout.specs.declared.fields.FieldKind.{FieldKind}
use Rattle.pdu_layout.specs.declared.fields.FieldKind.TheVariants.{StateCode, TypeCode, Value, Rest}
use Rattle.pdu_codec.specs.declared.faults.DecodeWhy.{DecodeWhy}
use Rattle.pdu_codec.specs.declared.faults.DecodeWhy.TheVariants.{Short, BadState, BadType, TooLong}
use Rattle.pdu_layout.specs.Fields.{FieldValue, field_width, Fits, bytes_of, type_after}

-- these bytes are those of some value of the field
abbrev pub IsPiece : FieldKind → ℕ → List ℕ → Type 0
IsPiece StateCode t x = (length x ≡ 1) × (slice_index x 0 < 19)
IsPiece TypeCode t x = (length x ≡ 1) × (slice_index x 0 < 8)
IsPiece Rest t x = Unit {0}
IsPiece kind t x = length x ≡ field_width kind t

-- the bytes are those of the value
pub record Holds (kind : FieldKind) (t : ℕ) (v : FieldValue) (x : List ℕ) : Type 0 where
  pub fits : Fits kind t v
  pub bytes : bytes_of kind t v ≡ x

-- The fields after t stand one after another in b from a place on, and end with b.
abbrev pub AreEnds : List FieldKind → ℕ → List ℕ → ℕ → List ℕ → Type 0
AreEnds [] t b from [] = from ≡ length b
AreEnds (kind ∷ kinds) t b from (end ∷ ends) =
    let x = slice_range b from end in
    (from ≤ end) × (end ≤ length b) × IsPiece kind t x × AreEnds kinds (type_after kind t x) b end ends
AreEnds _ t b from _ = ⊥

-- the place where field i begins
abbrev pub begin_of : List ℕ → ℕ → ℕ
begin_of ends zero = 1
begin_of ends (suc i) = slice_index ends i

-- the bytes of field i
abbrev pub piece_at : List ℕ → List ℕ → ℕ → List ℕ
piece_at b ends i = slice_range b (begin_of ends i) (slice_index ends i)

-- the values of the fields from i on are those that stand between the ends
abbrev pub HeldFrom : List FieldKind → ℕ → List ℕ → List ℕ → ℕ → List FieldValue → Type 0
HeldFrom [] t b ends i [] = Unit {0}
HeldFrom (kind ∷ kinds) t b ends i (v ∷ values) =
    Holds kind t v (piece_at b ends i) × HeldFrom kinds (type_after kind t (piece_at b ends i)) b ends (suc i) values
HeldFrom _ t b ends i _ = ⊥

-- a field of its own width
abbrev pub IsSized : FieldKind → Type 0
IsSized Rest = ⊥
IsSized _ = Unit {0}

-- why no value of the field stands in b from a place on
abbrev pub FieldFault : FieldKind → ℕ → List ℕ → ℕ → ℕ → DecodeWhy → Type 0
FieldFault kind t b from at Short = IsSized kind × (length b < from + field_width kind t) × (at ≡ length b)
FieldFault kind t b from at BadState = (kind ≡ StateCode) × (from < length b) × (18 < slice_index b from) × (at ≡ from)
FieldFault kind t b from at BadType = (kind ≡ TypeCode) × (from < length b) × (7 < slice_index b from) × (at ≡ from)
FieldFault kind t b from at TooLong = (kind ≡ Rest) × (1024 < length b) × (at ≡ 1024)
FieldFault kind t b from at _ = ⊥

-- a piece of such a field, after whatever type field
abbrev pub IsPieceAnyhow : Option FieldKind → List ℕ → Type 0
IsPieceAnyhow None x = ⊥
IsPieceAnyhow (Some Value) x = Unit {0}
IsPieceAnyhow (Some kind) x = IsPiece kind 0 x
