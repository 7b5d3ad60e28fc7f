-- What the words say of the fields fits them, and the bytes have room.
use Rattle.std.proofs.Common.{◌≡◌, ℕ, suc, ◌+◌, ◌*◌, ◌-◌, ◌^◌, ◌<◌, ◌≤◌, ltb, leb, Bool, true, false, List, [], ◌∷◌, length, map, Option, Some, None, cond, eqb, Result, Ok, Err, refl, sym, ap, subst, ◌∙◌, arith}
use Rattle.std.specs.Prelude.{ℤ}
use Rattle.std.specs.List.{slice_split}
use Rattle.std.specs.Option.{option_and_then}
use Rattle.std.specs.Result.{result_ok}
use Rattle.std.proofs.lemmas.Bool.Decides.{nat_tests}
use Rattle.std.proofs.lemmas.List.{length-append}
use Rattle.hex.specs.Hex.{decode_of}
use Rattle.hex.proofs.HexLemmas.{decode_of-ok}
use Rattle.dcp_types.specs.Codes.{state_code}
use Rattle.dcp_types.specs.Values.{fits, digits}
use Rattle.dcp_types.specs.declared.data_types.DataType.{DataType}
use Rattle.dcp_types.specs.declared.data_types.DataType.TheVariants as types
use Rattle.dcp_types.specs.declared.states.State.{State}
use Rattle.text_lines.specs.Causes as lines
use Rattle.text_lines.specs.Numbers.{decimal_number, signed_number}
use Rattle.text_lines.specs.Addresses.{ip, ip_part, ip_of_parts}
use Rattle.text_lines.specs.Identities.{identity}
use Rattle.text_lines.specs.declared.reasons.TextWhy.{TextWhy}
use Rattle.text_lines.specs.declared.reasons.TextWhy.TheVariants as text_why
use Rattle.text_lines.proofs.Results as results
use Rattle.text_lines.proofs.IdentityRange.{identity_small}
use Rattle.pdu_layout.specs.declared.fields.FieldKind.{FieldKind}
use Rattle.pdu_layout.specs.declared.fields.FieldKind.TheVariants.{I64, StateCode, TypeCode, Value, Uuid, Ip, Rest}
use Rattle.pdu_layout.specs.Fields.{FieldValue, type_from, limit, Fits, FitEach, bytes_of, type_after, spelled}
use Rattle.pdu_layout.specs.Fields.FieldValue.{Number, Signed, Bytes}
use Rattle.pdu_layout.specs.Table.{FieldRow, Row, row_of, kinds_in}
use Rattle.pdu_layout.specs.Message.{Message, HasSpelling}
use Rattle.pdu_layout.proofs.Contents.{length-number, length-signed}
use Rattle.pdu_text.specs.Reasons.{◌>>=◌, or_why, within_room}
use Rattle.pdu_text.specs.Words.{word_said, state_named, is_signed_type, below_said, typed_said, value_said, size_of, placed_value, text_behind, field_said, type_said}
use Rattle.pdu_text.specs.Machine.{SayInRoom}
use Rattle.pdu_text.specs.Reading.{SayEach}
use Rattle.pdu_text.specs.declared.reasons.PduTextWhy.{PduTextWhy}
use Rattle.pdu_text.specs.declared.reasons.PduTextWhy.TheVariants as why
use Rattle.pdu_text.proofs.WordByWord.{bind_ok, ReadsInRoom}

abbrev pub field_ok : FieldValue → Result FieldValue PduTextWhy
field_ok v = Ok v

same_field : (v w : FieldValue) → field_ok v ≡ field_ok w → v ≡ w
same_field v w e = cc

within_ok : (b : Bool) (x y : FieldValue) → within_room b x ≡ field_ok y → (b ≡ true) × (x ≡ y)
within_ok true x y e = (refl, same_field x y e)
within_ok false x y e = cc

or_ok : {A : Type 0} (o : Option A) (w : PduTextWhy) (x : A) → or_why o w ≡ Ok x → o ≡ Some x
or_ok None w x e = cc
or_ok (Some y) w x e = cc

result_is : {A E : Type 0} (r : Result A E) (x : A) → result_ok r ≡ Some x → r ≡ Ok x
result_is (Ok y) x e = cc
result_is (Err y) x e = cc

less : (m n : ℕ) → ltb m n ≡ true → m < n
less m n e = grind (arith, nat_tests)

at_most : (m n : ℕ) → leb m n ≡ true → m ≤ n
at_most m n e = grind (arith, nat_tests)

-- ---- a value stands in its field

pub record Stands (k : FieldKind) (t : ℕ) (v : FieldValue) : Type 0 where
  pub fits : Fits k t v
  pub size : length (bytes_of k t v) ≡ size_of k t v
  pub type : type_after k t (bytes_of k t v) ≡ type_said k t v

pub number_stands : (k : FieldKind) (t n : ℕ) → n < limit k → Stands k t (Number n)
unfolding digits
number_stands TypeCode t n small = record { fits = small; size = length-number TypeCode t n; type = omega (arith, small) }
number_stands k t n small = record { fits = small; size = length-number k t n; type = refl }

pub signed_stands : (k : FieldKind) (t : ℕ) (z : ℤ) → Fits k t (Signed z) → Stands k t (Signed z)
signed_stands TypeCode t z f = absurd f
signed_stands k t z f = record { fits = f; size = length-signed k t z f; type = refl }

below_stands : (k : FieldKind) (t : ℕ) (w : List ℕ) (v : FieldValue) → below_said (limit k) w ≡ Ok v → Stands k t v
below_stands k t w v e =
    let a = bind_ok (or_why (decimal_number w) why.BadNumber) (λ n. within_room (ltb n (limit k)) (Number n)) v e in
    let b = within_ok (ltb a.0 (limit k)) (Number a.0) v a.2 in
    subst (Stands k t) b.1 (number_stands k t a.0 (less a.0 (limit k) b.0))

typed_is : (kind : DataType) (w : List ℕ) (v : FieldValue) → typed_said kind w ≡ Ok v → (z : ℤ) × (fits kind z ≡ true) × (Signed z ≡ v)
typed_is kind w v e =
    let a = bind_ok (or_why (signed_number (is_signed_type kind) w) why.BadNumber) (λ z. within_room (fits kind z) (Signed z)) v e in
    let b = within_ok (fits kind a.0) (Signed a.0) v a.2 in
    (a.0, b.0, b.1)

state_small : (state : State) → state_code state < 19
state_small state = grind (arith)

ip_part_small : (w : List ℕ) (n : ℕ) → ip_part w ≡ Some n → n < 256
ip_part_small w n e = small (decimal_number w) n e
  where
    picked : (b : Bool) (m n : ℕ) → cond b (Some m) None ≡ Some n → (b ≡ true) × (m ≡ n)
    picked true m n e = (refl, cc)
    picked false m n e = cc

    small : (o : Option ℕ) (n : ℕ) → option_and_then (λ n. cond (leb n 255) (Some n) None) o ≡ Some n → n < 256
    small None n e = cc
    small (Some m) n e = let p = picked (leb m 255) m n e in let q = at_most m 255 p.0 in omega (arith, p.1, q)

abbrev ip_ok : ℕ → Result ℕ TextWhy
ip_ok n = Ok n

same_ip : (m n : ℕ) → ip_ok m ≡ ip_ok n → m ≡ n
same_ip m n e = cc

parts_small : (parts : List (List ℕ)) (n : ℕ) → ip_of_parts parts ≡ ip_ok n → n < 256 ^ 4
parts_small [] n e = cc
parts_small (a ∷ []) n e = cc
parts_small (a ∷ b ∷ []) n e = cc
parts_small (a ∷ b ∷ c ∷ []) n e = cc
parts_small (a ∷ b ∷ c ∷ d ∷ x ∷ xs) n e = cc
parts_small (a ∷ b ∷ c ∷ d ∷ []) n e =
    let p = results.bind_ok (lines.or_why (ip_part a) text_why.BadNumber) (λ a. lines.◌>>=◌ (lines.or_why (ip_part b) text_why.BadNumber) (λ b. lines.◌>>=◌ (lines.or_why (ip_part c) text_why.BadNumber) (λ c. lines.◌>>=◌ (lines.or_why (ip_part d) text_why.BadNumber) (λ d. ip_ok (((a * 256 + b) * 256 + c) * 256 + d))))) n e in
    let q = results.bind_ok (lines.or_why (ip_part b) text_why.BadNumber) (λ b. lines.◌>>=◌ (lines.or_why (ip_part c) text_why.BadNumber) (λ c. lines.◌>>=◌ (lines.or_why (ip_part d) text_why.BadNumber) (λ d. ip_ok (((p.0 * 256 + b) * 256 + c) * 256 + d)))) n p.2 in
    let r = results.bind_ok (lines.or_why (ip_part c) text_why.BadNumber) (λ c. lines.◌>>=◌ (lines.or_why (ip_part d) text_why.BadNumber) (λ d. ip_ok (((p.0 * 256 + q.0) * 256 + c) * 256 + d))) n q.2 in
    let s = results.bind_ok (lines.or_why (ip_part d) text_why.BadNumber) (λ d. ip_ok (((p.0 * 256 + q.0) * 256 + r.0) * 256 + d)) n r.2 in
    let ea = ip_part_small a p.0 (results.some_ok (ip_part a) text_why.BadNumber p.0 p.1) in
    let eb = ip_part_small b q.0 (results.some_ok (ip_part b) text_why.BadNumber q.0 q.1) in
    let ec = ip_part_small c r.0 (results.some_ok (ip_part c) text_why.BadNumber r.0 r.1) in
    let ed = ip_part_small d s.0 (results.some_ok (ip_part d) text_why.BadNumber s.0 s.1) in
    let same = same_ip (((p.0 * 256 + q.0) * 256 + r.0) * 256 + s.0) n s.2 in
    omega (arith, ea, eb, ec, ed, same)

value_stands : (k : FieldKind) (t : ℕ) (w : List ℕ) (v : FieldValue) → value_said k t w ≡ Ok v → Stands k t v
value_stands StateCode t w v e =
    let a = bind_ok (or_why (state_named w) why.BadNumber) (λ state. field_ok (Number (state_code state))) v e in
    subst (Stands StateCode t) (same_field (Number (state_code a.0)) v a.2) (number_stands StateCode t (state_code a.0) (state_small a.0))
value_stands I64 t w v e =
    let a = typed_is types.I64 w v e in
    subst (Stands I64 t) a.2 (signed_stands I64 t a.0 a.1)
value_stands Value t w v e =
    let a = typed_is (type_from t) w v e in
    subst (Stands Value t) a.2 (signed_stands Value t a.0 a.1)
value_stands Uuid t w v e =
    let a = bind_ok (or_why (result_ok (identity w)) why.BadUuid) (λ n. field_ok (Number n)) v e in
    let small = identity_small w a.0 (result_is (identity w) a.0 (or_ok (result_ok (identity w)) why.BadUuid a.0 a.1)) in
    subst (Stands Uuid t) (same_field (Number a.0) v a.2) (number_stands Uuid t a.0 small)
value_stands Ip t w v e =
    let a = bind_ok (or_why (result_ok (ip w)) why.BadNumber) (λ n. field_ok (Number n)) v e in
    let small = parts_small (slice_split (λ b. eqb b 46) w) a.0 (result_is (ip w) a.0 (or_ok (result_ok (ip w)) why.BadNumber a.0 a.1)) in
    subst (Stands Ip t) (same_field (Number a.0) v a.2) (number_stands Ip t a.0 small)
value_stands Rest t w v e =
    let a = bind_ok (or_why (result_ok (decode_of w)) why.BadNumber) (λ bytes. field_ok (Bytes bytes)) v e in
    let given = decode_of-ok w a.0 (result_is (decode_of w) a.0 (or_ok (result_ok (decode_of w)) why.BadNumber a.0 a.1)) in
    subst (Stands Rest t) (same_field (Bytes a.0) v a.2) (record { fits = given.3; size = refl; type = refl })
value_stands k t w v e = below_stands k t w v e

-- ---- all values of a line

said_stands : (f : FieldRow) (room t : ℕ) (w : List ℕ) (v : FieldValue) → field_said f room t w ≡ Ok v → Stands f.kind t v × (size_of f.kind t v ≤ room)
unfolding field_said
said_stands f room t w v e =
    let a = bind_ok (or_why (text_behind f.name w) why.UnknownKey) (λ text. value_said f.kind t text >>= λ value. placed_value f.kind room t value) v e in
    let b = bind_ok (value_said f.kind t a.0) (λ value. placed_value f.kind room t value) v a.2 in
    let c = within_ok (leb (size_of f.kind t b.0) room) b.0 v b.2 in
    subst (λ (x : FieldValue). Stands f.kind t x × (size_of f.kind t x ≤ room)) c.1 (value_stands f.kind t a.0 b.0 b.1, at_most (size_of f.kind t b.0) room c.0)

abbrev pub kinds : List FieldRow → List FieldKind
kinds fs = map (λ f. f.kind) fs

-- the values fit, and their bytes are not more than the room
abbrev pub Room : List FieldRow → ℕ → List FieldValue → ℕ → Type 0
Room fs t vs room = FitEach (kinds fs) t vs × (length (spelled (kinds fs) t vs) ≤ room)

say_room : (fs : List FieldRow) (room t : ℕ) (ws : List (List ℕ)) (vs : List FieldValue) → SayInRoom fs room t ws vs → Room fs t vs room
say_room [] room t [] [] h = (tt, omega arith)
say_room [] room t [] (v ∷ vs) h = absurd h
say_room [] room t (w ∷ ws) vs h = absurd h
say_room (f ∷ fs) room t [] vs h = absurd h
say_room (f ∷ fs) room t (w ∷ ws) [] h = absurd h
say_room (f ∷ fs) room t (w ∷ ws) (v ∷ vs) h =
    let here = said_stands f room t w v h.0 in
    let x = bytes_of f.kind t v in
    let more = say_room fs (room - size_of f.kind t v) (type_said f.kind t v) ws vs h.1 in
    let rest = subst (λ (u : ℕ). Room fs u vs (room - size_of f.kind t v)) (sym here.0.type) more in
    let size = here.0.size in
    let small = here.1 in
    let others = rest.1 in
    ((here.0.fits, rest.0), omega (arith, length-append x (spelled (kinds fs) (type_after f.kind t x) vs), size, small, others))

-- what a text reads as in the room of a message has a spelling
pub in_room_spelled : (text : List ℕ) (p : Message) → ReadsInRoom text p → HasSpelling p
in_room_spelled text p h =
    let fill = say_room h.row.fields 1023 0 h.given p.values h.said in
    let few = fill.1 in
    (p.code ∷ spelled (kinds h.row.fields) 0 p.values, record { kinds = kinds h.row.fields; listed = ap kinds_in h.listed; fits = fill.0; bytes = refl; at_most = omega (arith, few) })

pub stands : (k : FieldKind) (t : ℕ) (v : FieldValue) → Fits k t v → Stands k t v
stands k t (Number n) h = number_stands k t n h
stands k t (Signed z) h = signed_stands k t z h
stands Rest t (Bytes bytes) h = record { fits = h; size = refl; type = refl }
stands k t (Bytes bytes) h = absurd h

-- ---- words without room and in room

room_left : (m n : ℕ) → m ≤ n → leb m n ≡ true
room_left m n h = grind (arith, nat_tests)

said_word : (f : FieldRow) (room t : ℕ) (w : List ℕ) (v : FieldValue) → field_said f room t w ≡ Ok v → word_said f t w ≡ Ok v
unfolding field_said word_said
said_word f room t w v e =
    let a = bind_ok (or_why (text_behind f.name w) why.UnknownKey) (λ text. value_said f.kind t text >>= λ value. placed_value f.kind room t value) v e in
    let b = bind_ok (value_said f.kind t a.0) (λ value. placed_value f.kind room t value) v a.2 in
    let c = within_ok (leb (size_of f.kind t b.0) room) b.0 v b.2 in
    ap (λ r. r >>= λ text. value_said f.kind t text) a.1 ∙ b.1 ∙ ap field_ok c.1

word_in_room : (f : FieldRow) (room t : ℕ) (w : List ℕ) (v : FieldValue) → word_said f t w ≡ Ok v → size_of f.kind t v ≤ room → field_said f room t w ≡ Ok v
unfolding field_said word_said
word_in_room f room t w v e small =
    let a = bind_ok (or_why (text_behind f.name w) why.UnknownKey) (λ text. value_said f.kind t text) v e in
    ap (λ r. r >>= λ text. value_said f.kind t text >>= λ value. placed_value f.kind room t value) a.1
    ∙ ap (λ r. r >>= λ value. placed_value f.kind room t value) a.2
    ∙ ap (λ (b : Bool). within_room b v) (room_left (size_of f.kind t v) room small)

pub drop_room : (fs : List FieldRow) (room t : ℕ) (ws : List (List ℕ)) (vs : List FieldValue) → SayInRoom fs room t ws vs → SayEach fs t ws vs
drop_room [] room t [] [] h = tt
drop_room [] room t [] (v ∷ vs) h = absurd h
drop_room [] room t (w ∷ ws) vs h = absurd h
drop_room (f ∷ fs) room t [] vs h = absurd h
drop_room (f ∷ fs) room t (w ∷ ws) [] h = absurd h
drop_room (f ∷ fs) room t (w ∷ ws) (v ∷ vs) h = (said_word f room t w v h.0, drop_room fs (room - size_of f.kind t v) (type_said f.kind t v) ws vs h.1)

pub in_room : (fs : List FieldRow) (room t : ℕ) (ws : List (List ℕ)) (vs : List FieldValue) → SayEach fs t ws vs → Room fs t vs room → SayInRoom fs room t ws vs
in_room [] room t [] [] h r = tt
in_room [] room t [] (v ∷ vs) h r = absurd h
in_room [] room t (w ∷ ws) vs h r = absurd h
in_room (f ∷ fs) room t [] vs h r = absurd h
in_room (f ∷ fs) room t (w ∷ ws) [] h r = absurd h
in_room (f ∷ fs) room t (w ∷ ws) (v ∷ vs) h r =
    let here = stands f.kind t v r.0.0 in
    let x = bytes_of f.kind t v in
    let size = here.size in
    let total = r.1 in
    let both_sizes = length-append x (spelled (kinds fs) (type_after f.kind t x) vs) in
    let small : size_of f.kind t v ≤ room = omega (arith, both_sizes, size, total) in
    let left : Room fs (type_after f.kind t x) vs (room - size_of f.kind t v) = (r.0.1, omega (arith, both_sizes, size, total)) in
    (word_in_room f room t w v h.0 small, in_room fs (room - size_of f.kind t v) (type_said f.kind t v) ws vs h.1 (subst (λ (u : ℕ). Room fs u vs (room - size_of f.kind t v)) here.type left))

row_kinds : (o : Option Row) (row : Row) (ks : List FieldKind) → o ≡ Some row → kinds_in o ≡ Some ks → kinds row.fields ≡ ks
row_kinds (Some r) row ks e f = cc
row_kinds None row ks e f = cc

-- the values of a message with a spelling have room
pub spelled_room : (p : Message) (row : Row) → row_of p.code ≡ Some row → HasSpelling p → Room row.fields 0 p.values 1023
spelled_room p row listed h =
    let s = h.1 in
    let same : kinds row.fields ≡ s.kinds = row_kinds (row_of p.code) row s.kinds listed s.listed in
    let size : length h.0 ≡ suc (length (spelled s.kinds 0 p.values)) = ap length s.bytes in
    let most = s.at_most in
    (subst (λ ks. FitEach ks 0 p.values) (sym same) s.fits, subst (λ ks. length (spelled ks 0 p.values) ≤ 1023) (sym same) (omega (arith, size, most)))
