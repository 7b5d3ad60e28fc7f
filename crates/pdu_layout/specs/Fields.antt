-- What a field of each kind holds, and the bytes of its value.
use Rattle.std.specs.Prelude.{ℕ, zero, suc, ◌-◌, ◌^◌, ◌<◌, ℤ, IsTrue, List, [], ◌∷◌, ◌++◌, length, reverse, slice_index, Option, Some, None, nat_lt, if◌then◌else◌}
use Rattle.dcp_types.specs.declared.data_types.DataType.{DataType}
use Rattle.dcp_types.specs.declared.data_types.DataType.TheVariants as types
use Rattle.dcp_types.specs.Values as values
use Rattle.dcp_types.specs.Values.{digits, fits, value_bytes}
use Rattle.pdu_layout.specs.declared.fields.FieldKind.{FieldKind}
use Rattle.pdu_layout.specs.declared.fields.FieldKind.TheVariants.{U8, U16, U32, U64, I64, StateCode, TypeCode, Value, Uuid, Ip, Rest}

-- what a field holds: a number (a state, a type, an identity and an address too), a signed number, or bytes
pub data FieldValue : Type 0 where
  Number : ℕ → FieldValue
  Signed : ℤ → FieldValue
  Bytes : List ℕ → FieldValue

-- the type with a code; no type field holds a code above 7
abbrev pub type_from : ℕ → DataType
type_from zero = types.U8
type_from (suc zero) = types.U16
type_from (suc (suc zero)) = types.U32
type_from (suc (suc (suc zero))) = types.U64
type_from (suc (suc (suc (suc zero)))) = types.I8
type_from (suc (suc (suc (suc (suc zero))))) = types.I16
type_from (suc (suc (suc (suc (suc (suc zero)))))) = types.I32
type_from (suc (suc (suc (suc (suc (suc (suc code))))))) = types.I64

-- how many bytes a field has, after a type field of code t; a rest has what is left
abbrev pub field_width : FieldKind → ℕ → ℕ
field_width U8 t = 1
field_width U16 t = 2
field_width U32 t = 4
field_width U64 t = 8
field_width I64 t = 8
field_width StateCode t = 1
field_width TypeCode t = 1
field_width Value t = values.width (type_from t)
field_width Uuid t = 16
field_width Ip t = 4
field_width Rest t = 0

-- a field of this kind holds the numbers below this
abbrev pub limit : FieldKind → ℕ
limit U8 = 256
limit U16 = 256 ^ 2
limit U32 = 256 ^ 4
limit U64 = 256 ^ 8
limit StateCode = 19
limit TypeCode = 8
limit Uuid = 256 ^ 16
limit Ip = 256 ^ 4
limit I64 = 0
limit Value = 0
limit Rest = 0

-- the value fits the field, after a type field of code t
abbrev pub Fits : FieldKind → ℕ → FieldValue → Type 0
Fits kind t (Number n) = n < limit kind
Fits I64 t (Signed z) = IsTrue (fits types.I64 z)
Fits Value t (Signed z) = IsTrue (fits (type_from t) z)
Fits Rest t (Bytes bytes) = (i : ℕ) → slice_index bytes i < 256
Fits _ t _ = ⊥

-- the bytes of a value in a field: the lowest first, but for an identity, which stands in the order of its printed form
abbrev pub bytes_of : FieldKind → ℕ → FieldValue → List ℕ
bytes_of Uuid t (Number n) = reverse (digits 16 n)
bytes_of kind t (Number n) = digits (field_width kind t) n
bytes_of I64 t (Signed z) = value_bytes types.I64 z
bytes_of kind t (Signed z) = value_bytes (type_from t) z
bytes_of kind t (Bytes bytes) = bytes

-- the code of the type that the fields after this one go by
abbrev pub type_after : FieldKind → ℕ → List ℕ → ℕ
type_after TypeCode t bytes = slice_index bytes 0
type_after _ t bytes = t

-- the bytes of a layout's fields, in their order
abbrev pub spelled : List FieldKind → ℕ → List FieldValue → List ℕ
spelled [] t values = []
spelled (kind ∷ kinds) t [] = []
spelled (kind ∷ kinds) t (v ∷ values) = bytes_of kind t v ++ spelled kinds (type_after kind t (bytes_of kind t v)) values

-- each field has a value that fits it
abbrev pub FitEach : List FieldKind → ℕ → List FieldValue → Type 0
FitEach [] t [] = Unit {0}
FitEach (kind ∷ kinds) t (v ∷ values) = Fits kind t v × FitEach kinds (type_after kind t (bytes_of kind t v)) values
FitEach _ t _ = ⊥

-- the kind of the field in which the byte at a place stands
abbrev pub kind_at : List FieldKind → ℕ → List FieldValue → ℕ → Option FieldKind
kind_at [] t values i = None
kind_at (kind ∷ kinds) t [] i = None
kind_at (kind ∷ kinds) t (v ∷ values) i =
    let bytes = bytes_of kind t v in
    if nat_lt i (length bytes) then Some kind else kind_at kinds (type_after kind t bytes) values (i - length bytes)
