-- The message in bytes is the one that they spell.
use Rattle.std.proofs.Common.{◌≡◌, ℕ, zero, suc, ◌+◌, ◌*◌, ◌/◌, ◌%◌, ◌^◌, ◌<◌, ◌≤◌, nat_lt, nat_le, Bool, true, false, ◌&&◌, List, [], ◌∷◌, ◌++◌, length, take, drop, get_or, reverse, Option, Some, None, refl, ap, sym, subst, ◌∙◌, inl, inr, arith, append-nil, length-append, if◌then◌else◌}
use Rattle.std.specs.Prelude.{ℤ, option_map, IsTrue}
use Rattle.std.specs.List.{list_all}
use Rattle.std.proofs.Math.Seq.{take-append_seam, drop-append_seam}
use Rattle.std.proofs.lemmas.List.{take-append-drop, length-take, reverse-reverse}
use Rattle.std.proofs.lemmas.Bool.{and_parts, le-leb, lt-ltb, leb-true, ltb-true}
use Rattle.std.proofs.Math.Nat.{pow-suc}
use Rattle.dcp_types.specs.declared.data_types.DataType.{DataType}
use Rattle.dcp_types.specs.declared.data_types.DataType.TheVariants as types
use Rattle.dcp_types.specs.Values as values
use Rattle.dcp_types.specs.Values.{digits, residue, fits, value_bytes}
use Rattle.dcp_types.proofs.Digits.{IsBytes}
use Rattle.dcp_types.proofs.Residues.{value_of, value_of-residue, residue_below}
use Rattle.pdu_layout.specs.declared.fields.FieldKind.{FieldKind}
use Rattle.pdu_layout.specs.declared.fields.FieldKind.TheVariants.{U8, U16, U32, U64, I64, StateCode, TypeCode, Value, Uuid, Ip, Rest}
use Rattle.pdu_layout.specs.Fields.{FieldValue, type_from, field_width, type_after, spelled, bytes_of, Fits, FitEach}
use Rattle.pdu_layout.specs.Fields.FieldValue.{Number, Signed, Bytes}
use Rattle.pdu_layout.specs.Message.{Message, Spells}
use Rattle.pdu_layout.specs.Table.{kinds_for}
use Rattle.pdu_codec.specs.Pieces.{IsPiece, Holds, IsSized}
use Rattle.pdu_codec.proofs.Digits as codec
use Rattle.pdu_codec.proofs.Digits.{IsBytes-take, IsBytes-drop, IsBytes-tail}
use Rattle.pdu_codec.proofs.Values as pieces
use Rattle.pdu_codec.proofs.Values.{holds, number-one, length-bytes_of}
use Rattle.pdu_codec.proofs.Walk.{rest_is_last, row_passes, sized_or_rest}
use Rattle.pdu_codec.proofs.OneSpelling.{rest_after}
use Rattle.pdu_layout.specs.Reading.{number, value_in, field_in, extent, is_known, fields_in, message_with, message_in}

-- ---- what is read from the bytes of a value

number_same : (x : List ℕ) → number x ≡ codec.number x
number_same [] = refl
number_same (b ∷ bs) = ap (λ (n : ℕ). b + 256 * n) (number_same bs)

field_same : (k : FieldKind) (t : ℕ) (x : List ℕ) → field_in k t x ≡ pieces.value_in k t x
field_same U8 t x = ap (λ (n : ℕ). Number n) (number_same x)
field_same U16 t x = ap (λ (n : ℕ). Number n) (number_same x)
field_same U32 t x = ap (λ (n : ℕ). Number n) (number_same x)
field_same U64 t x = ap (λ (n : ℕ). Number n) (number_same x)
field_same Ip t x = ap (λ (n : ℕ). Number n) (number_same x)
field_same StateCode t x = ap (λ (n : ℕ). Number n) (number_same x)
field_same TypeCode t x = ap (λ (n : ℕ). Number n) (number_same x)
field_same Uuid t x = ap (λ (n : ℕ). Number n) (number_same (reverse x))
field_same I64 t x = ap (λ (n : ℕ). Signed (value_of types.I64 n)) (number_same x)
field_same Value t x = ap (λ (n : ℕ). Signed (value_of (type_from t) n)) (number_same x)
field_same Rest t x = refl

number-digits : (w n : ℕ) → n < 256 ^ w → number (digits w n) ≡ n
unfolding digits
number-digits zero n h = omega (arith, h)
number-digits (suc w) n h =
    let r : n / 256 < 256 ^ w = omega (arith, h, pow-suc 256 w) in
    let e : n % 256 + 256 * (n / 256) ≡ n = omega arith in
    ap (λ (m : ℕ). n % 256 + 256 * m) (number-digits w (n / 256) r) ∙ e

value_read : (kind : DataType) (z : ℤ) → IsTrue (fits kind z) → value_in kind (value_bytes kind z) ≡ z
value_read kind z h =
    ap (value_of kind) (number-digits (values.width kind) (residue (values.width kind) z) (residue_below kind z h)) ∙ value_of-residue kind z h

field_read : (k : FieldKind) (t : ℕ) (v : FieldValue) → Fits k t v → field_in k t (bytes_of k t v) ≡ v
field_read U8 t (Number n) h = ap (λ (m : ℕ). Number m) (number-digits 1 n h)
field_read U16 t (Number n) h = ap (λ (m : ℕ). Number m) (number-digits 2 n h)
field_read U32 t (Number n) h = ap (λ (m : ℕ). Number m) (number-digits 4 n h)
field_read U64 t (Number n) h = ap (λ (m : ℕ). Number m) (number-digits 8 n h)
field_read Ip t (Number n) h = ap (λ (m : ℕ). Number m) (number-digits 4 n h)
field_read StateCode t (Number n) h = ap (λ (m : ℕ). Number m) (number-digits 1 n (omega (arith, h)))
field_read TypeCode t (Number n) h = ap (λ (m : ℕ). Number m) (number-digits 1 n (omega (arith, h)))
field_read Uuid t (Number n) h = ap (λ (x : List ℕ). Number (number x)) (reverse-reverse (digits 16 n)) ∙ ap (λ (m : ℕ). Number m) (number-digits 16 n h)
field_read I64 t (Number n) h = absurd (omega (arith, h))
field_read Value t (Number n) h = absurd (omega (arith, h))
field_read Rest t (Number n) h = absurd (omega (arith, h))
field_read I64 t (Signed z) h = ap (λ (y : ℤ). Signed y) (value_read types.I64 z h)
field_read Value t (Signed z) h = ap (λ (y : ℤ). Signed y) (value_read (type_from t) z h)
field_read k t (Signed z) h = absurd h
field_read Rest t (Bytes x) h = refl
field_read k t (Bytes x) h = absurd h

known_read : (k : FieldKind) (t : ℕ) (v : FieldValue) → Fits k t v → is_known k (bytes_of k t v) ≡ true
known_read StateCode t (Number n) h = ap (λ (m : ℕ). nat_lt m 19) (number-digits 1 n (omega (arith, h))) ∙ lt-ltb n 19 h
known_read StateCode t (Signed z) h = absurd h
known_read StateCode t (Bytes x) h = absurd h
known_read TypeCode t (Number n) h = ap (λ (m : ℕ). nat_lt m 8) (number-digits 1 n (omega (arith, h))) ∙ lt-ltb n 8 h
known_read TypeCode t (Signed z) h = absurd h
known_read TypeCode t (Bytes x) h = absurd h
known_read k t v h = refl

extent_sized : (k : FieldKind) (t : ℕ) (x : List ℕ) → IsSized k → extent k t x ≡ field_width k t
extent_sized Rest t x s = absurd s
extent_sized k t x s = refl

-- a field, and those after it
field_then : (k : FieldKind) (ks : List FieldKind) (t n : ℕ) (x y : List ℕ) (v : FieldValue) (vs : List FieldValue) → extent k t (x ++ y) ≡ n → length x ≡ n
    → is_known k x ≡ true → field_in k t x ≡ v → fields_in ks (type_after k t x) y ≡ Some vs → fields_in (k ∷ ks) t (x ++ y) ≡ Some (v ∷ vs)
field_then k ks t n x y v vs e l known is rest =
    let front : take n (x ++ y) ≡ x = ap (λ (m : ℕ). take m (x ++ y)) (sym l) ∙ take-append_seam x y in
    let back : drop n (x ++ y) ≡ y = ap (λ (m : ℕ). drop m (x ++ y)) (sym l) ∙ drop-append_seam x y in
    let within : nat_le n (length (x ++ y)) ≡ true = le-leb n (length (x ++ y)) (omega (arith, l, length-append x y)) in
    rw (e, front, back, within, known, is, rest) refl

rest_read : (ks : List FieldKind) (t : ℕ) (v : FieldValue) (vs : List FieldValue) → rest_is_last (Rest ∷ ks) ≡ true → FitEach (Rest ∷ ks) t (v ∷ vs)
    → fields_in (Rest ∷ ks) t (spelled (Rest ∷ ks) t (v ∷ vs)) ≡ Some (v ∷ vs)
rest_read [] t (Bytes x) [] r f =
    field_then Rest [] t (length x) x [] (Bytes x) [] (ap length (append-nil x)) refl refl refl refl
rest_read [] t (Number n) [] r f = absurd (omega (arith, f.0))
rest_read [] t (Signed z) [] r f = absurd f.0
rest_read [] t v (w ∷ vs) r f = absurd f.1
rest_read (k ∷ ks) t v vs r f = absurd cc

fields_read : (ks : List FieldKind) (t : ℕ) (vs : List FieldValue) → rest_is_last ks ≡ true → FitEach ks t vs → fields_in ks t (spelled ks t vs) ≡ Some vs
fields_read [] t [] r f = refl
fields_read [] t (v ∷ vs) r f = absurd f
fields_read (k ∷ ks) t [] r f = absurd f
fields_read (k ∷ ks) t (v ∷ vs) r f =
    elim (sized_or_rest k) [
      | inl s ↦
          field_then k ks t (field_width k t) (bytes_of k t v) (spelled ks (type_after k t (bytes_of k t v)) vs) v vs (extent_sized k t _ s) (length-bytes_of k t v s f.0)
          (known_read k t v f.0) (field_read k t v f.0) (fields_read ks (type_after k t (bytes_of k t v)) vs (rest_after k ks s r) f.1)
      | inr is ↦ subst (λ (j : FieldKind). rest_is_last (j ∷ ks) ≡ true → FitEach (j ∷ ks) t (v ∷ vs) → fields_in (j ∷ ks) t (spelled (j ∷ ks) t (v ∷ vs)) ≡ Some (v ∷ vs)) (sym is) (rest_read ks t v vs) r f
    ]

pub all_bytes : (x : List ℕ) → IsBytes x → list_all (λ b. nat_lt b 256) x ≡ true
all_bytes [] h = refl
all_bytes (b ∷ x) h = rw (lt-ltb b 256 (h 0), all_bytes x (IsBytes-tail b x h)) refl

-- what is spelled is read
pub read_back : (m : Message) (b : List ℕ) → IsBytes b → Spells m b → message_in b ≡ Some m
unfolding message_in
read_back m b h s =
    let last : rest_is_last s.kinds ≡ true = (and_parts (rest_is_last s.kinds) (nat_lt (length s.kinds) 60) (row_passes m.code s.kinds s.listed)).0 in
    let read = fields_read s.kinds 0 m.values last s.fits in
    let g : IsBytes (m.code ∷ spelled s.kinds 0 m.values) = subst IsBytes s.bytes h in
    let few : length (m.code ∷ spelled s.kinds 0 m.values) ≤ 1024 = subst (λ (l : List ℕ). length l ≤ 1024) s.bytes s.at_most in
    ap message_in s.bytes ∙ rw (all_bytes _ g, le-leb (length (m.code ∷ spelled s.kinds 0 m.values)) 1024 few, s.listed, read) refl

-- ---- what is read is spelled

pub cond_some : {A : Type 0} → (b : Bool) (o : Option A) (v : A) → (if b then o else None) ≡ Some v → (b ≡ true) × (o ≡ Some v)
cond_some true o v e = (refl, e)
cond_some false o v e = absurd cc

map_some : {A B : Type 0} → (f : A → B) (o : Option A) (v : B) → option_map f o ≡ Some v → (x : A) × (o ≡ Some x) × (f x ≡ v)
map_some f (Some x) v e = (x, refl, cc)
map_some f None v e = absurd cc

taken : (n : ℕ) (x : List ℕ) → nat_le n (length x) ≡ true → length (take n x) ≡ n
taken n x e = omega (arith, length-take n x, leb-true n (length x) e)

one : (n : ℕ) (x : List ℕ) → length x ≡ 1 → nat_lt (number x) n ≡ true → get_or x 0 0 < n
one n x l e = omega (arith, ltb-true (number x) n e, number_same x, number-one x l)

piece : (k : FieldKind) (t : ℕ) (x : List ℕ) → nat_le (extent k t x) (length x) ≡ true → is_known k (take (extent k t x) x) ≡ true → IsPiece k t (take (extent k t x) x)
piece StateCode t x e known = (taken 1 x e, one 19 (take 1 x) (taken 1 x e) known)
piece TypeCode t x e known = (taken 1 x e, one 8 (take 1 x) (taken 1 x e) known)
piece Rest t x e known = tt
piece U8 t x e known = taken 1 x e
piece U16 t x e known = taken 2 x e
piece U32 t x e known = taken 4 x e
piece U64 t x e known = taken 8 x e
piece I64 t x e known = taken 8 x e
piece Value t x e known = taken (values.width (type_from t)) x e
piece Uuid t x e known = taken 16 x e
piece Ip t x e known = taken 4 x e

abbrev Spelled : List FieldKind → ℕ → List FieldValue → List ℕ → Type 0
Spelled ks t vs x = FitEach ks t vs × (spelled ks t vs ≡ x)

spelled_then : (k : FieldKind) (ks : List FieldKind) (t : ℕ) (x y : List ℕ) (v : FieldValue) (vs : List FieldValue) → Holds k t v x → Spelled ks (type_after k t x) vs y → Spelled (k ∷ ks) t (v ∷ vs) (x ++ y)
spelled_then k ks t x y v vs h s =
    let fit : FitEach ks (type_after k t (bytes_of k t v)) vs = subst (λ (z : List ℕ). FitEach ks (type_after k t z) vs) (sym h.bytes) s.0 in
    let is : bytes_of k t v ++ spelled ks (type_after k t (bytes_of k t v)) vs ≡ x ++ y =
    subst (λ (z : List ℕ). z ++ spelled ks (type_after k t z) vs ≡ x ++ y) (sym h.bytes) (ap (λ (l : List ℕ). x ++ l) s.1) in
    ((h.fits, fit), is)

fields_spelled : (ks : List FieldKind) (t : ℕ) (x : List ℕ) (vs : List FieldValue) → IsBytes x → fields_in ks t x ≡ Some vs → Spelled ks t vs x
fields_spelled [] t [] vs h e =
    let is : [] ≡ vs = cc in
    subst (λ (l : List FieldValue). Spelled [] t l []) is (tt, refl)
fields_spelled [] t (b ∷ x) vs h e = absurd cc
fields_spelled (k ∷ ks) t x vs h e =
    let n = extent k t x in
    let p = cond_some (nat_le n (length x) && is_known k (take n x)) _ vs e in
    let q = map_some _ _ vs p.1 in
    let b = and_parts (nat_le n (length x)) (is_known k (take n x)) p.0 in
    let more = fields_spelled ks (type_after k t (take n x)) (drop n x) q.0 (IsBytes-drop n x h) q.1 in
    let here : Holds k t (field_in k t (take n x)) (take n x) =
    subst (λ (v : FieldValue). Holds k t v (take n x)) (sym (field_same k t (take n x))) (holds k t (take n x) (IsBytes-take n x h) (piece k t x b.0 b.1)) in
    let all = spelled_then k ks t (take n x) (drop n x) (field_in k t (take n x)) q.0 here more in
    subst (λ (l : List FieldValue). Spelled (k ∷ ks) t l x) q.2 (subst (λ (l : List ℕ). Spelled (k ∷ ks) t (field_in k t (take n x) ∷ q.0) l) (take-append-drop n x) all)

with_kinds : (code : ℕ) (x : List ℕ) (o : Option (List FieldKind)) (m : Message) → IsBytes x → length (code ∷ x) ≤ 1024 → kinds_for code ≡ o → message_with code x o ≡ Some m → Spells m (code ∷ x)
with_kinds code x None m h few listed e = absurd cc
with_kinds code x (Some ks) m h few listed e =
    let q = map_some _ _ m e in
    let s = fields_spelled ks 0 x q.0 h q.1 in
    subst (λ (y : Message). Spells y (code ∷ x)) q.2
    (record { kinds = ks; listed = listed; fits = s.0; bytes = ap (λ (l : List ℕ). code ∷ l) (sym s.1); at_most = few })

-- what is read is what the bytes spell
pub read_spells : (m : Message) (b : List ℕ) → IsBytes b → message_in b ≡ Some m → Spells m b
unfolding message_in
read_spells m [] h e = absurd cc
read_spells m (code ∷ x) h e =
    let p = cond_some _ (message_with code x (kinds_for code)) m e in
    let b = and_parts (list_all (λ b. nat_lt b 256) (code ∷ x)) (nat_le (length (code ∷ x)) 1024) p.0 in
    with_kinds code x (kinds_for code) m (IsBytes-tail code x h) (leb-true (length (code ∷ x)) 1024 b.1) refl p.1

-- nothing is read where nothing is spelled
none_is : (o : Option Message) → ((m : Message) → o ≡ Some m → ⊥) → o ≡ None
none_is None h = refl
none_is (Some m) h = absurd (h m refl)

pub unread : (b : List ℕ) → IsBytes b → ((m : Message) → Spells m b → ⊥) → message_in b ≡ None
unread b h never = none_is (message_in b) (λ m e. never m (read_spells m b h e))
