-- The bytes of a field are those of one value.
use Rattle.std.proofs.Common.{◌≡◌, ℕ, ◌^◌, ◌<◌, ◌≤◌, List, [], ◌∷◌, length, get_or, reverse, refl, ap, subst, ◌∙◌, arith}
use Rattle.std.specs.Prelude.{ℤ, pos}
use Rattle.std.proofs.lemmas.List.{length-reverse, reverse-reverse}
use Rattle.pdu_layout.specs.declared.fields.FieldKind.{FieldKind}
use Rattle.pdu_layout.specs.declared.fields.FieldKind.TheVariants.{U8, U16, U32, U64, I64, StateCode, TypeCode, Value, Uuid, Ip, Rest}
use Rattle.dcp_types.specs.Values.{digits, residue}
use Rattle.pdu_layout.specs.Fields.{type_from, field_width, Fits, bytes_of, FieldValue}
use Rattle.pdu_layout.specs.Fields.FieldValue.{Number, Signed, Bytes}
use Rattle.std.specs.Prelude.{IsTrue}
use Rattle.std.proofs.lemmas.Bool.Decides.{nat_tests}
use Rattle.dcp_types.specs.declared.data_types.DataType.{DataType}
use Rattle.dcp_types.specs.declared.data_types.DataType.TheVariants as types
use Rattle.dcp_types.specs.Values as values
use Rattle.dcp_types.specs.Values.{fits, value_bytes}
use Rattle.dcp_types.proofs.Residues.{value_of}
use Rattle.pdu_codec.specs.Pieces.{IsPiece, Holds, IsSized}
use Rattle.pdu_codec.proofs.Digits.{number}
use Rattle.pdu_codec.proofs.Digits.{IsBytes-reverse, digits-number, number_below}
use Rattle.dcp_types.proofs.Digits.{length-digits, IsBytes}

pub length-bytes_of : (k : FieldKind) (t : ℕ) (v : FieldValue) → IsSized k → Fits k t v → length (bytes_of k t v) ≡ field_width k t
length-bytes_of Uuid t (Number n) s f = rw length-reverse (length-digits 16 n)
length-bytes_of k t (Number n) s f = length-digits (field_width k t) n
length-bytes_of I64 t (Signed z) s f = length-digits 8 (residue 8 z)
length-bytes_of Value t (Signed z) s f = length-digits (values.width (type_from t)) (residue (values.width (type_from t)) z)
length-bytes_of k t (Signed z) s f = absurd f
length-bytes_of Rest t (Bytes x) s f = absurd s
length-bytes_of k t (Bytes x) s f = absurd f

-- the value that a number stands for lies in the type's range, and its residue is the number
pub value_fits : (kind : DataType) (n : ℕ) → n < 256 ^ values.width kind → IsTrue (fits kind (value_of kind n))
value_fits types.U8 n lt = grind (arith, nat_tests)
value_fits types.U16 n lt = grind (arith, nat_tests)
value_fits types.U32 n lt = grind (arith, nat_tests)
value_fits types.U64 n lt = grind (arith, nat_tests)
value_fits types.I8 n lt = grind (arith, nat_tests)
value_fits types.I16 n lt = grind (arith, nat_tests)
value_fits types.I32 n lt = grind (arith, nat_tests)
value_fits types.I64 n lt = grind (arith, nat_tests)

pub residue-value_of : (kind : DataType) (n : ℕ) → n < 256 ^ values.width kind → residue (values.width kind) (value_of kind n) ≡ n
residue-value_of types.U8 n lt = refl
residue-value_of types.U16 n lt = refl
residue-value_of types.U32 n lt = refl
residue-value_of types.U64 n lt = refl
residue-value_of types.I8 n lt = grind (arith, nat_tests)
residue-value_of types.I16 n lt = grind (arith, nat_tests)
residue-value_of types.I32 n lt = grind (arith, nat_tests)
residue-value_of types.I64 n lt = grind (arith, nat_tests)

type_width : (kind : DataType) → values.width kind ≤ 8
type_width types.U8 = omega arith
type_width types.U16 = omega arith
type_width types.U32 = omega arith
type_width types.U64 = omega arith
type_width types.I8 = omega arith
type_width types.I16 = omega arith
type_width types.I32 = omega arith
type_width types.I64 = omega arith

pub width-below : (t : ℕ) → values.width (type_from t) ≤ 8
width-below t = type_width (type_from t)

pub zero_fits : (kind : DataType) → IsTrue (fits kind (pos 0))
zero_fits types.U8 = refl
zero_fits types.U16 = refl
zero_fits types.U32 = refl
zero_fits types.U64 = refl
zero_fits types.I8 = refl
zero_fits types.I16 = refl
zero_fits types.I32 = refl
zero_fits types.I64 = refl

-- the value in a field's bytes
abbrev pub value_in : FieldKind → ℕ → List ℕ → FieldValue
value_in Uuid t x = Number (number (reverse x))
value_in I64 t x = Signed (value_of types.I64 (number x))
value_in Value t x = Signed (value_of (type_from t) (number x))
value_in Rest t x = Bytes x
value_in k t x = Number (number x)

-- a number of w bytes
pub same_digits : (w : ℕ) (x : List ℕ) → IsBytes x → length x ≡ w → digits w (number x) ≡ x
same_digits w x h e = subst (λ (k : ℕ). digits k (number x) ≡ x) e (digits-number x h)

pub in_bytes : (w : ℕ) (x : List ℕ) → IsBytes x → length x ≡ w → number x < 256 ^ w
in_bytes w x h e = subst (λ (k : ℕ). number x < 256 ^ k) e (number_below x h)

pub number-one : (x : List ℕ) → length x ≡ 1 → number x ≡ get_or x 0 0
number-one [] e = absurd (omega arith)
number-one (c ∷ []) e = omega arith
number-one (c ∷ d ∷ x) e = absurd (omega arith)

abbrev IsValue : DataType → ℤ → List ℕ → Type 0
IsValue kind z x = IsTrue (fits kind z) × (value_bytes kind z ≡ x)

value_is : (kind : DataType) (x : List ℕ) → IsBytes x → length x ≡ values.width kind → IsValue kind (value_of kind (number x)) x
value_is kind x h e =
    let below = in_bytes (values.width kind) x h e in
    (value_fits kind (number x) below, ap (digits (values.width kind)) (residue-value_of kind (number x) below) ∙ same_digits (values.width kind) x h e)

pub holds : (k : FieldKind) (t : ℕ) (x : List ℕ) → IsBytes x → IsPiece k t x → Holds k t (value_in k t x) x
holds U8 t x h e = record { fits = in_bytes 1 x h e; bytes = same_digits 1 x h e }
holds U16 t x h e = record { fits = in_bytes 2 x h e; bytes = same_digits 2 x h e }
holds U32 t x h e = record { fits = in_bytes 4 x h e; bytes = same_digits 4 x h e }
holds U64 t x h e = record { fits = in_bytes 8 x h e; bytes = same_digits 8 x h e }
holds Ip t x h e = record { fits = in_bytes 4 x h e; bytes = same_digits 4 x h e }
holds StateCode t x h e = record { fits = omega (arith, number-one x e.0, e.1); bytes = same_digits 1 x h e.0 }
holds TypeCode t x h e = record { fits = omega (arith, number-one x e.0, e.1); bytes = same_digits 1 x h e.0 }
holds Uuid t x h e =
    let r : length (reverse x) ≡ 16 = length-reverse x ∙ e in
    record { fits = in_bytes 16 (reverse x) (IsBytes-reverse x h) r; bytes = ap reverse (same_digits 16 (reverse x) (IsBytes-reverse x h) r) ∙ reverse-reverse x }
holds I64 t x h e = let v = value_is types.I64 x h e in record { fits = v.0; bytes = v.1 }
holds Value t x h e = let v = value_is (type_from t) x h e in record { fits = v.0; bytes = v.1 }
holds Rest t x h e = record { fits = h; bytes = refl }
