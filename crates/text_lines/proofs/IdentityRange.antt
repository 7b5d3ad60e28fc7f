-- An identity that reads has sixteen bytes.
use Rattle.std.proofs.Common.{◌≡◌, ℕ, ◌+◌, ◌*◌, ◌^◌, ◌<◌, Bool, true, false, ◌&&◌, cond, eqb, List, length, take, drop, get_or, slice_index, Option, Some, None, Result, Ok, refl, sym, subst, arith}
use Rattle.std.specs.List.{list_all}
use Rattle.std.specs.Int.{w128, from_be_bytes}
use Rattle.std.proofs.lemmas.Bool.Decides.{nat_tests}
use Rattle.std.proofs.lemmas.List.Sums.{AllPass-from_list_all}
use Rattle.uuid.specs.Text.{by_index, is_hex_digit, value_of, byte_of_digits, digits_of, has_urn_prefix, open_brace, close_brace, parsed, parsed_simple, parsed_hyphenated, parsed_braced, parsed_urn}
use Rattle.uuid.proofs.TextLemmas.{by_index_at}
use Rattle.text_lines.specs.Causes.{or_why}
use Rattle.text_lines.specs.Identities.{identity}
use Rattle.text_lines.specs.declared.reasons.TextWhy.{TextWhy}
use Rattle.text_lines.specs.declared.reasons.TextWhy.TheVariants.{BadUuid}
use Rattle.text_lines.proofs.PlainWords.{and_both}
use Rattle.text_lines.proofs.Results.{bind_ok, some_ok}
use Rattle.text_lines.proofs.NumberTests.{equal_numbers}

hex_small : (c : ℕ) → is_hex_digit c ≡ true → value_of c < 16
hex_small c e = grind (arith, nat_tests)

abbrev HasBytes : List ℕ → Type 0
HasBytes bytes = (i : ℕ) → i < 16 → slice_index bytes i < 256

picked : {X : Type 0} (b : Bool) (x y : X) → cond b (Some x) None ≡ Some y → (b ≡ true) × (x ≡ y)
picked true x y e = (refl, cc)
picked false x y e = cc

simple_bytes : (hex bytes : List ℕ) → parsed_simple hex ≡ Some bytes → HasBytes bytes
simple_bytes hex bytes e =
    let t = picked (eqb (length hex) 32 && list_all is_hex_digit hex) (by_index 16 (byte_of_digits hex)) bytes e in
    let b = and_both (eqb (length hex) 32) (list_all is_hex_digit hex) t.0 in
    let len = equal_numbers (length hex) 32 b.0 in
    subst HasBytes t.1 (λ i below.
    let high = hex_small (get_or hex (2 * i) 0) (AllPass-from_list_all is_hex_digit hex b.1 (2 * i) 0 (omega (arith, len, below))) in
    let low = hex_small (get_or hex (2 * i + 1) 0) (AllPass-from_list_all is_hex_digit hex b.1 (2 * i + 1) 0 (omega (arith, len, below))) in
    subst (λ (x : ℕ). x < 256) (sym (by_index_at 16 (byte_of_digits hex) i 0 below)) (omega (arith, high, low)))

when_true : {X : Type 0} (b : Bool) (o : Option X) (x : X) → cond b o None ≡ Some x → o ≡ Some x
when_true true o x e = e
when_true false o x e = cc

hyphenated_bytes : (s bytes : List ℕ) → parsed_hyphenated s ≡ Some bytes → HasBytes bytes
hyphenated_bytes s bytes e = simple_bytes (digits_of s) bytes (when_true _ (parsed_simple (digits_of s)) bytes e)

by_form : {X : Type 0} (P : X → Type 0) (a b c d : Bool) (w x y z : Option X) → ((v : X) → w ≡ Some v → P v) → ((v : X) → x ≡ Some v → P v) → ((v : X) → y ≡ Some v → P v) → ((v : X) → z ≡ Some v → P v) → (v : X) → cond a w (cond b x (cond c y (cond d z None))) ≡ Some v → P v
by_form P true b c d w x y z f g h k v e = f v e
by_form P false true c d w x y z f g h k v e = g v e
by_form P false false true d w x y z f g h k v e = h v e
by_form P false false false true w x y z f g h k v e = k v e
by_form P false false false false w x y z f g h k v e = cc

parsed_bytes : (s bytes : List ℕ) → parsed s ≡ Some bytes → HasBytes bytes
parsed_bytes s =
    by_form HasBytes _ _ _ _ (parsed_simple s) (parsed_hyphenated s) (parsed_braced s) (parsed_urn s)
    (simple_bytes s)
    (hyphenated_bytes s)
    (λ v e. hyphenated_bytes (take 36 (drop 1 s)) v (when_true (eqb (length s) 38 && eqb (slice_index s 0) open_brace && eqb (slice_index s 37) close_brace) (parsed_hyphenated (take 36 (drop 1 s))) v e))
    (λ v e. hyphenated_bytes (drop 9 s) v (when_true (eqb (length s) 45 && has_urn_prefix s) (parsed_hyphenated (drop 9 s)) v e))

bytes_small : (bytes : List ℕ) → HasBytes bytes → from_be_bytes w128 bytes < 2 ^ 128
bytes_small bytes h = omega (arith, h 0 (omega arith), h 1 (omega arith), h 2 (omega arith), h 3 (omega arith), h 4 (omega arith), h 5 (omega arith), h 6 (omega arith), h 7 (omega arith), h 8 (omega arith), h 9 (omega arith), h 10 (omega arith), h 11 (omega arith), h 12 (omega arith), h 13 (omega arith), h 14 (omega arith), h 15 (omega arith))

abbrev given : ℕ → Result ℕ TextWhy
given n = Ok n

same_ok : (m n : ℕ) → given m ≡ given n → m ≡ n
same_ok m n e = cc

pub identity_small : (w : List ℕ) (n : ℕ) → identity w ≡ Ok n → n < 2 ^ 128
identity_small w n e =
    let t = bind_ok (or_why (parsed w) BadUuid) (λ bytes. Ok (from_be_bytes w128 bytes)) n e in
    subst (λ (m : ℕ). m < 2 ^ 128) (same_ok (from_be_bytes w128 t.0) n t.2) (bytes_small t.0 (parsed_bytes w t.0 (some_ok (parsed w) BadUuid t.0 t.1)))
