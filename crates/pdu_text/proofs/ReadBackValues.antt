-- The text of what fits a field is a word's plain end, and says what the field holds.
use Rattle.std.proofs.Common.{◌≡◌, ℕ, ℤ, pos, negsuc, neg_ℤ, zero, suc, ◌/◌, ◌%◌, ◌^◌, ◌<◌, ◌≤◌, Bool, true, false, ◌&&◌, cond, ltb, leb, eqb, List, [], ◌∷◌, length, drop, slice_index, Option, Some, None, Result, Ok, refl, ap, ◌∙◌, arith}
use Rattle.std.specs.Prelude.{decimal}
use Rattle.std.specs.Fmt.{signed_decimal}
use Rattle.std.specs.List.{list_all}
use Rattle.std.specs.Option.{option_and_then}
use Rattle.std.specs.Result.{result_ok}
use Rattle.std.specs.Char.{is_ascii_digit}
use Rattle.std.proofs.lemmas.Bool.{false≢true, eqb-true}
use Rattle.std.proofs.lemmas.Bool.Decides.{nat_tests, Decides-below_and}
use Rattle.std.proofs.lemmas.List.Sums.{AllPass-from_list_all}
use Rattle.hex.specs.Hex.{IsBytes, encode_with, encode_lower, lower_digits}
use Rattle.hex.proofs.HexLemmas.{decode_of-encode_lower}
use Rattle.hex.specs.declared.error.FromHexError.{FromHexError}
use Rattle.dcp_types.specs.Codes.{state_code}
use Rattle.dcp_types.specs.declared.states.State.{State}
use Rattle.dcp_types.specs.Values.{fits}
use Rattle.dcp_types.specs.declared.data_types.DataType.{DataType}
use Rattle.dcp_types.specs.declared.data_types.DataType.TheVariants as types
use Rattle.text_lines.specs.Printed.{ip_word, identity_word}
use Rattle.text_lines.specs.Numbers.{decimal_number, signed_number, has_minus}
use Rattle.text_lines.proofs.PlainWords.{is_plain_byte, is_plain, and_both, both}
use Rattle.text_lines.proofs.NumberWords.{number_decimal, plain_decimal, ip_back, plain_ip}
use Rattle.text_lines.proofs.IdentityWords.{identity_back, plain_identity}
use Rattle.text_lines.specs.declared.reasons.TextWhy.{TextWhy}
use Rattle.pdu_layout.specs.declared.fields.FieldKind.{FieldKind}
use Rattle.pdu_layout.specs.declared.fields.FieldKind.TheVariants.{U8, U16, U32, U64, I64, StateCode, TypeCode, Value, Uuid, Ip, Rest}
use Rattle.pdu_layout.specs.Fields.{FieldValue, Fits, limit, type_from}
use Rattle.pdu_layout.specs.Fields.FieldValue.{Number, Signed, Bytes}
use Rattle.pdu_text.specs.Reasons.{◌>>=◌, or_why, within_room}
use Rattle.pdu_text.specs.Words.{is_signed_type, state_named, below_said, typed_said, value_said}
use Rattle.pdu_text.specs.Printed.{state_word, value_text}
use Rattle.pdu_text.specs.declared.reasons.PduTextWhy.TheVariants as why
use Rattle.pdu_text.proofs.Fitting.{field_ok}

abbrev pub are_plain : List ℕ → Bool
are_plain w = list_all is_plain_byte w

-- a text that says this value, and has plain bytes alone
pub record Says (k : FieldKind) (t : ℕ) (w : List ℕ) (v : FieldValue) : Type 0 where
  pub plain : are_plain w ≡ true
  pub said : value_said k t w ≡ Ok v

plain_bytes : (w : List ℕ) → is_plain w ≡ true → are_plain w ≡ true
plain_bytes w h = (and_both (ltb 0 (length w)) (are_plain w) h).1

pub less : (m n : ℕ) → m < n → ltb m n ≡ true
less m n h = grind (arith, nat_tests)

below : (m n : ℕ) → leb m n ≡ true → m ≤ n
below m n h = grind (arith, nat_tests)

-- ---- numbers

below_back : (limit n : ℕ) → n < limit → limit ≤ 2 ^ 64 → below_said limit (decimal n) ≡ Ok (Number n)
below_back limit n h most =
    ap (λ (o : Option ℕ). or_why o why.BadNumber >>= λ n. within_room (ltb n limit) (Number n)) (number_decimal n (omega (arith, h, most)))
    ∙ ap (λ (b : Bool). within_room b (Number n)) (less n limit h)

plain_number : (limit n : ℕ) → n < limit → limit ≤ 2 ^ 64 → are_plain (decimal n) ≡ true
plain_number limit n h most = plain_bytes (decimal n) (plain_decimal n (omega (arith, h, most)))

-- ---- signed numbers

passes : (b : Bool) (m n : ℕ) → cond b (Some m) None ≡ Some n → b ≡ true
passes true m n e = refl
passes false m n e = cc

no_minus : (b : ℕ) → is_ascii_digit b ≡ true → eqb b 45 ≡ false
no_minus b h = grind (arith, nat_tests)

-- a number does not begin with a minus sign
unsigned : (w : List ℕ) (n : ℕ) → decimal_number w ≡ Some n → has_minus w ≡ false
unsigned w n e =
    let a = and_both (ltb 0 (length w) && leb (length w) 20) (list_all is_ascii_digit w) (passes _ _ n e) in
    let b = and_both (ltb 0 (length w)) (leb (length w) 20) a.0 in
    no_minus _ (AllPass-from_list_all is_ascii_digit w a.1 0 0 (grind (arith, nat_tests)))

signed_pos : (signed : Bool) (n : ℕ) → n < 2 ^ 64 → signed_number signed (decimal n) ≡ Some (pos n)
signed_pos signed n small =
    ap (λ (b : Bool). cond b (option_and_then (λ n. Some (neg_ℤ (pos n))) (decimal_number (drop 1 (decimal n)))) (option_and_then (λ n. Some (pos n)) (decimal_number (decimal n)))) (never signed (has_minus (decimal n)) (unsigned (decimal n) n (number_decimal n small)))
    ∙ ap (option_and_then (λ n. Some (pos n))) (number_decimal n small)
  where
    never : (a b : Bool) → b ≡ false → (a && b) ≡ false
    never true b e = e
    never false b e = refl

-- what fits a type
pos_small : (kind : DataType) (n : ℕ) → fits kind (pos n) ≡ true → n < 2 ^ 64
pos_small types.U8 n h = grind (arith, nat_tests)
pos_small types.U16 n h = grind (arith, nat_tests)
pos_small types.U32 n h = grind (arith, nat_tests)
pos_small types.U64 n h = grind (arith, nat_tests)
pos_small types.I8 n h = grind (arith, nat_tests)
pos_small types.I16 n h = grind (arith, nat_tests)
pos_small types.I32 n h = grind (arith, nat_tests)
pos_small types.I64 n h = grind (arith, nat_tests)

neg_small : (kind : DataType) (n : ℕ) → fits kind (negsuc n) ≡ true → (is_signed_type kind ≡ true) × (n < 2 ^ 63)
neg_small types.U8 n h = absurd (false≢true h)
neg_small types.U16 n h = absurd (false≢true h)
neg_small types.U32 n h = absurd (false≢true h)
neg_small types.U64 n h = absurd (false≢true h)
neg_small types.I8 n h = (refl, grind (arith, nat_tests))
neg_small types.I16 n h = (refl, grind (arith, nat_tests))
neg_small types.I32 n h = (refl, grind (arith, nat_tests))
neg_small types.I64 n h = (refl, grind (arith, nat_tests))

signed_back : (kind : DataType) (z : ℤ) → fits kind z ≡ true → signed_number (is_signed_type kind) (signed_decimal z) ≡ Some z
signed_back kind (pos n) h = signed_pos (is_signed_type kind) n (pos_small kind n h)
signed_back kind (negsuc n) h =
    let s = neg_small kind n h in
    let small = s.1 in
    rw (s.0, number_decimal (suc n) (omega (arith, small))) refl

typed_back : (kind : DataType) (z : ℤ) → fits kind z ≡ true → typed_said kind (signed_decimal z) ≡ Ok (Signed z)
typed_back kind z h =
    ap (λ (o : Option ℤ). or_why o why.BadNumber >>= λ z. within_room (fits kind z) (Signed z)) (signed_back kind z h) ∙ ap (λ (b : Bool). within_room b (Signed z)) h

plain_typed : (kind : DataType) (z : ℤ) → fits kind z ≡ true → are_plain (signed_decimal z) ≡ true
plain_typed kind (pos n) h = plain_bytes (decimal n) (plain_decimal n (pos_small kind n h))
plain_typed kind (negsuc n) h = let small = (neg_small kind n h).1 in plain_bytes (decimal (suc n)) (plain_decimal (suc n) (omega (arith, small)))

-- ---- states

has_code : Option State → ℕ → Bool
has_code None n = false
has_code (Some state) n = eqb (state_code state) n

is_back : ℕ → Bool
is_back n = are_plain (state_word n) && has_code (state_named (state_word n)) n

are_back : ℕ → Bool
are_back zero = true
are_back (suc n) = is_back n && are_back n

-- each code's name, one after another
each_back : (n : ℕ) → n < 19 → is_back n ≡ true
unfolding is_back are_back has_code state_word state_named
each_back n h = (Decides-below_and is_back (λ k. is_back k ≡ true) are_back (λ k. (λ x. x, λ x. x)) refl (λ _. refl) 19).0 refl n h

code_back : (o : Option State) (n : ℕ) → has_code o n ≡ true → (or_why o why.BadNumber >>= λ state. field_ok (Number (state_code state))) ≡ field_ok (Number n)
unfolding has_code
code_back None n h = absurd (false≢true h)
code_back (Some state) n h = ap (λ m. field_ok (Number m)) (eqb-true (state_code state) n h)

state_back : (t n : ℕ) → n < 19 → Says StateCode t (state_word n) (Number n)
unfolding is_back
state_back t n h =
    let e = and_both (are_plain (state_word n)) (has_code (state_named (state_word n)) n) (each_back n h) in
    record { plain = e.0; said = code_back (state_named (state_word n)) n e.1 }

-- ---- bytes

plain_digit : (d : ℕ) → d < 16 → is_plain_byte (slice_index lower_digits d) ≡ true
plain_digit d small = AllPass-from_list_all is_plain_byte lower_digits refl d 0 small

plain_hex : (bytes : List ℕ) → IsBytes bytes → are_plain (encode_lower bytes) ≡ true
unfolding encode_with
plain_hex [] h = refl
plain_hex (b ∷ bytes) h =
    let small = h 0 in
    both (plain_digit (b / 16) (omega (arith, small))) (both (plain_digit (b % 16) (omega arith)) (plain_hex bytes (λ i. h (suc i))))

rest_back : (t : ℕ) (bytes : List ℕ) → IsBytes bytes → Says Rest t (encode_lower bytes) (Bytes bytes)
rest_back t bytes h = record {
  plain = plain_hex bytes h;
  said = ap (λ (r : Result (List ℕ) FromHexError). or_why (result_ok r) why.BadNumber >>= λ bytes. field_ok (Bytes bytes)) (decode_of-encode_lower bytes h);
}

-- ---- each kind of field

identity_field : (t n : ℕ) → n < limit Uuid → Says Uuid t (identity_word n) (Number n)
identity_field t n h = record {
  plain = plain_bytes (identity_word n) (plain_identity n);
  said = ap (λ (r : Result ℕ TextWhy). or_why (result_ok r) why.BadUuid >>= λ n. field_ok (Number n)) (identity_back n h);
}

ip_field : (t n : ℕ) → n < limit Ip → Says Ip t (ip_word n) (Number n)
ip_field t n h = record {
  plain = plain_bytes (ip_word n) (plain_ip n h);
  said = ap (λ (r : Result ℕ TextWhy). or_why (result_ok r) why.BadNumber >>= λ n. field_ok (Number n)) (ip_back n h);
}

-- what fits a field, as its text says it
pub value_back : (k : FieldKind) (t : ℕ) (v : FieldValue) → Fits k t v → Says k t (value_text k v) v
value_back U8 t (Number n) h = record { plain = plain_number (limit U8) n h (omega arith); said = below_back (limit U8) n h (omega arith) }
value_back U16 t (Number n) h = record { plain = plain_number (limit U16) n h (omega arith); said = below_back (limit U16) n h (omega arith) }
value_back U32 t (Number n) h = record { plain = plain_number (limit U32) n h (omega arith); said = below_back (limit U32) n h (omega arith) }
value_back U64 t (Number n) h = record { plain = plain_number (limit U64) n h (omega arith); said = below_back (limit U64) n h (omega arith) }
value_back TypeCode t (Number n) h = record { plain = plain_number (limit TypeCode) n h (omega arith); said = below_back (limit TypeCode) n h (omega arith) }
value_back StateCode t (Number n) h = state_back t n h
value_back Uuid t (Number n) h = identity_field t n h
value_back Ip t (Number n) h = ip_field t n h
value_back I64 t (Number n) h = absurd (omega (arith, h))
value_back Value t (Number n) h = absurd (omega (arith, h))
value_back Rest t (Number n) h = absurd (omega (arith, h))
value_back I64 t (Signed z) h = record { plain = plain_typed types.I64 z h; said = typed_back types.I64 z h }
value_back Value t (Signed z) h = record { plain = plain_typed (type_from t) z h; said = typed_back (type_from t) z h }
value_back k t (Signed z) h = absurd h
value_back Rest t (Bytes bytes) h = rest_back t bytes h
value_back k t (Bytes bytes) h = absurd h
