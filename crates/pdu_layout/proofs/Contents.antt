-- The fields of a message one after the other: what is known of those that are left.
use Rattle.std.proofs.Common.{◌≡◌, ℕ, zero, suc, ◌+◌, ◌-◌, ◌<◌, ◌≤◌, ◌%◌, List, [], ◌∷◌, ◌++◌, length, get_or, take, drop, map, refl, sym, ap, subst, ◌∙◌, arith, Some}
use Rattle.std.specs.List.{drop-map}
use Rattle.std.proofs.lemmas.List.{length-append, length-map, length-reverse, length-take, drop_more, drop_all, get_or-take}
use Rattle.dcp_types.proofs.Digits.{length-digits}
use Rattle.dcp_types.specs.Values as values
use Rattle.dcp_types.specs.Values.{residue, digits}
use Rattle.dcp_types.specs.declared.data_types.DataType.{DataType}
use Rattle.dcp_types.specs.declared.data_types.DataType.TheVariants as types
use Rattle.std.specs.Prelude.{ℤ}
use Rattle.dcp_types.specs.Codes.{type_code}
use Rattle.pdu_layout.specs.declared.fields.FieldKind.{FieldKind}
use Rattle.pdu_layout.specs.declared.fields.FieldKind.TheVariants.{U8, U16, U32, U64, I64, StateCode, TypeCode, Value, Uuid, Ip, Rest}
use Rattle.pdu_layout.specs.declared.fields.Field.{Field}
use Rattle.pdu_layout.specs.declared.message_parts.FieldContent.{FieldContent}
use Rattle.pdu_layout.specs.declared.message_parts.FieldContent.TheVariants as contents
use Rattle.pdu_layout.specs.Fields.{type_from, field_width, Fits, bytes_of, type_after, spelled, FitEach, FieldValue}
use Rattle.pdu_layout.specs.Fields.FieldValue.{Number, Signed, Bytes}
use Rattle.pdu_layout.specs.Table.{kinds_of}
use Rattle.pdu_layout.specs.Parts.{value_of}
use Rattle.pdu_layout.specs.Ranges.{Fill}

pub type_from-code : (kind : DataType) → type_from (type_code kind) ≡ kind
type_from-code types.U8 = refl
type_from-code types.U16 = refl
type_from-code types.U32 = refl
type_from-code types.U64 = refl
type_from-code types.I8 = refl
type_from-code types.I16 = refl
type_from-code types.I32 = refl
type_from-code types.I64 = refl

-- a number or a signed number that fits has the field's width
pub length-number : (k : FieldKind) (t n : ℕ) → length (bytes_of k t (Number n)) ≡ field_width k t
length-number Uuid t n = length-reverse (digits 16 n) ∙ length-digits 16 n
length-number k t n = length-digits (field_width k t) n

pub length-signed : (k : FieldKind) (t : ℕ) (z : ℤ) → Fits k t (Signed z) → length (bytes_of k t (Signed z)) ≡ field_width k t
length-signed I64 t z f = length-digits 8 (residue 8 z)
length-signed Value t z f = length-digits (values.width (type_from t)) (residue (values.width (type_from t)) z)
length-signed k t z f = absurd f

-- the type that a type field names
pub type_is : (k : FieldKind) (t : ℕ) (c : FieldContent) (n : ℕ) → k ≡ TypeCode → c ≡ contents.Number n → n < 256 → type_after k t (bytes_of k t (value_of c)) ≡ n
unfolding digits
type_is k t c n ek ec small =
    let low : n % 256 ≡ n = omega arith in
    ap (λ (j : FieldKind). type_after j t (bytes_of j t (value_of c))) ek ∙ ap (λ (d : FieldContent). type_after TypeCode t (bytes_of TypeCode t (value_of d))) ec ∙ low

pub same_type : (k : FieldKind) (t : ℕ) (x : List ℕ) → (k ≡ TypeCode → ⊥) → type_after k t x ≡ t
same_type TypeCode t x other = absurd (other refl)
same_type k t x other = refl

-- the fields and the contents from i on
pub kinds_here : (fields : List Field) (i : ℕ) (d : Field) → i < length fields → drop i (kinds_of fields) ≡ (get_or fields i d).kind ∷ drop (i + 1) (kinds_of fields)
kinds_here fields i d lt =
    drop-map (λ f. f.kind) i fields ∙ ap (map (λ f. f.kind)) (drop_more fields i d lt) ∙ ap (λ l. (get_or fields i d).kind ∷ l) (sym (drop-map (λ f. f.kind) (i + 1) fields))

pub values_here : (held : List FieldContent) (n i : ℕ) (d : FieldContent) → n ≤ length held → i < n → drop i (map value_of (take n held)) ≡ value_of (get_or held i d) ∷ drop (i + 1) (map value_of (take n held))
values_here held n i d few lt =
    drop-map value_of i (take n held)
    ∙ ap (map value_of) (drop_more (take n held) i d (omega (arith, length-take n held)))
    ∙ ap (λ l. value_of (get_or (take n held) i d) ∷ l) (sym (drop-map value_of (i + 1) (take n held)))
    ∙ ap (λ (c : FieldContent). value_of c ∷ drop (i + 1) (map value_of (take n held))) (get_or-take n held i d lt)

-- The fields before i fit and end before at; the whole fits exactly where the rest does.
pub record Judged (kinds : List FieldKind) (values : List FieldValue) (t at i : ℕ) : Type 0 where
  pub forward : FitEach (drop i kinds) t (drop i values) → FitEach kinds 0 values
  pub back : FitEach kinds 0 values → FitEach (drop i kinds) t (drop i values)
  pub size : 1 + length (spelled kinds 0 values) ≡ at + length (spelled (drop i kinds) t (drop i values))
  pub at_most : at ≤ 1024

pub judged_start : (kinds : List FieldKind) (values : List FieldValue) → Judged kinds values 0 1 0
judged_start kinds values = record { forward = λ f. f; back = λ f. f; size = refl; at_most = omega arith }

module _ (kinds : List FieldKind) (values : List FieldValue) (t at i : ℕ) (k : FieldKind) (v : FieldValue) (ks : drop i kinds ≡ k ∷ drop (i + 1) kinds) (vs : drop i values ≡ v ∷ drop (i + 1) values) (j : Judged kinds values t at i) where
  abbrev next : ℕ
  next = type_after k t (bytes_of k t v)

  pub fit_here : FitEach kinds 0 values → Fits k t v × FitEach (drop (i + 1) kinds) next (drop (i + 1) values)
  fit_here f = subst (λ l. FitEach (k ∷ drop (i + 1) kinds) t l) vs (subst (λ l. FitEach l t (drop i values)) ks (j.back f))

  pub size_here : length (spelled (drop i kinds) t (drop i values)) ≡ length (bytes_of k t v) + length (spelled (drop (i + 1) kinds) next (drop (i + 1) values))
  size_here = ap (λ l. length (spelled l t (drop i values))) ks ∙ ap (λ l. length (spelled (k ∷ drop (i + 1) kinds) t l)) vs ∙ length-append (bytes_of k t v) (spelled (drop (i + 1) kinds) next (drop (i + 1) values))

  pub judged_more : (t' : ℕ) → Fits k t v → t' ≡ next → at + length (bytes_of k t v) ≤ 1024 → Judged kinds values t' (at + length (bytes_of k t v)) (i + 1)
  judged_more t' fits same room = subst (λ u. Judged kinds values u (at + length (bytes_of k t v)) (i + 1)) (sym same) (record {
    forward = λ f. j.forward (subst (λ l. FitEach l t (drop i values)) (sym ks) (subst (λ l. FitEach (k ∷ drop (i + 1) kinds) t l) (sym vs) (fits, f)));
    back = λ f. (fit_here f).1;
    size = omega (arith, j.size, size_here);
    at_most = room;
  })

  pub unfit : (Fits k t v → ⊥) → Fill kinds values → ⊥
  unfit never f = never (fit_here f.0).0

  pub too_long : 1024 < at + length (bytes_of k t v) → Fill kinds values → ⊥
  too_long long f = let small = f.1 in omega (arith, j.size, size_here)

pub judged_all : (kinds : List FieldKind) (values : List FieldValue) (t at i : ℕ) → Judged kinds values t at i → length kinds ≤ i → length values ≤ i → Fill kinds values
judged_all kinds values t at i j pk pv =
    let nk : drop i kinds ≡ [] = drop_all i kinds pk in
    let nv : drop i values ≡ [] = drop_all i values pv in
    let none : FitEach (drop i kinds) t (drop i values) = subst (λ l. FitEach l t (drop i values)) (sym nk) (subst (λ l. FitEach [] t l) (sym nv) tt) in
    let size : length (spelled (drop i kinds) t (drop i values)) ≡ 0 = ap (λ l. length (spelled l t (drop i values))) nk in
    (j.forward none, omega (arith, j.size, size, j.at_most))
