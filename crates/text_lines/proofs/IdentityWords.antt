-- A printed identity is a plain word that reads back.
use Rattle.std.proofs.Common.{◌≡◌, ℕ, zero, suc, ltb, ◌+◌, ◌*◌, ◌/◌, ◌%◌, ◌^◌, ◌<◌, Bool, true, false, cond, inl, List, length, Option, Ok, refl, sym, ap, ◌∙◌, arith}
use Rattle.std.specs.Prelude.{All}
use Rattle.std.specs.List.{AllByRecursion}
use Rattle.std.specs.Int.{w128, to_be_bytes, from_be_bytes, byte_at, bytes_high_first}
use Rattle.std.proofs.lemmas.List.Elements.{All-from_recursion}
use Rattle.std.proofs.Math.Nat as nat
use Rattle.std.proofs.lemmas.Bool.Decides.{nat_tests}
use Rattle.std.proofs.lemmas.List.Sums.{list_all-from_AllPass}
use Rattle.uuid.specs.Text.{by_index, lower, nibble, digit_place, is_hyphen_place, hex_digit}
use Rattle.uuid.proofs.RoundTrips.{parses_hyphenated}
use Rattle.uuid.proofs.TextLemmas.{by_index_length, by_index_at, nibble_small}
use Rattle.text_lines.specs.Causes.{◌>>=◌, or_why}
use Rattle.text_lines.specs.Identities.{identity}
use Rattle.text_lines.specs.Printed.{identity_word}
use Rattle.text_lines.specs.declared.reasons.TextWhy.TheVariants.{BadUuid}
use Rattle.text_lines.proofs.PlainWords.{is_plain_byte, is_plain, both}

byte_and_rest : (n p : ℕ) → n / p ≡ n / p % 256 + n / (p * 256) * 256
byte_and_rest n p = omega (arith, nat.div-div-eq-div-mul n p 256)

-- what is above a byte, and the byte
step : (s b r a p : ℕ) → a ≡ b + r * 256 → s ≡ r * (p * 256) → s + b * p ≡ a * p
step s b r a p at_byte above = rw (above, at_byte) (omega arith)

top : (n : ℕ) → n < 2 ^ 128 → n / 256 ^ 15 % 256 * 256 ^ 15 ≡ n / 256 ^ 15 * 256 ^ 15
top n small = ap (λ a. a * 256 ^ 15) (low_byte (n / 256 ^ 15) ((nat.div-lt_iff_lt-mul {k = 256 ^ 15} {x = n} {y = 256} (omega arith)).1 small))
  where
    low_byte : (a : ℕ) → a < 256 → a % 256 ≡ a
    low_byte a h = omega arith

whole : (n s : ℕ) → s ≡ n / 256 * 256 → s + n % 256 ≡ n
whole n s h = omega arith

pub number_back : (n : ℕ) → n < 2 ^ 128 → from_be_bytes w128 (to_be_bytes w128 n) ≡ n
number_back n small =
    let s15 = top n small in
    let s14 = step _ _ _ _ (256 ^ 14) (byte_and_rest n (256 ^ 14)) s15 in
    let s13 = step _ _ _ _ (256 ^ 13) (byte_and_rest n (256 ^ 13)) s14 in
    let s12 = step _ _ _ _ (256 ^ 12) (byte_and_rest n (256 ^ 12)) s13 in
    let s11 = step _ _ _ _ (256 ^ 11) (byte_and_rest n (256 ^ 11)) s12 in
    let s10 = step _ _ _ _ (256 ^ 10) (byte_and_rest n (256 ^ 10)) s11 in
    let s9 = step _ _ _ _ (256 ^ 9) (byte_and_rest n (256 ^ 9)) s10 in
    let s8 = step _ _ _ _ (256 ^ 8) (byte_and_rest n (256 ^ 8)) s9 in
    let s7 = step _ _ _ _ (256 ^ 7) (byte_and_rest n (256 ^ 7)) s8 in
    let s6 = step _ _ _ _ (256 ^ 6) (byte_and_rest n (256 ^ 6)) s7 in
    let s5 = step _ _ _ _ (256 ^ 5) (byte_and_rest n (256 ^ 5)) s6 in
    let s4 = step _ _ _ _ (256 ^ 4) (byte_and_rest n (256 ^ 4)) s5 in
    let s3 = step _ _ _ _ (256 ^ 3) (byte_and_rest n (256 ^ 3)) s4 in
    let s2 = step _ _ _ _ (256 ^ 2) (byte_and_rest n (256 ^ 2)) s3 in
    let s1 = step _ _ _ _ (256 ^ 1) (byte_and_rest n (256 ^ 1)) s2 in
    whole n _ s1

byte_small : (k n : ℕ) → byte_at k n < 256
byte_small zero n = omega arith
byte_small (suc i) n = nat.mod-lt (n / 256 ^ suc i) {m = 256} (omega arith)

small_bytes : (k n : ℕ) → AllByRecursion (λ b. b < 256) (bytes_high_first k n)
small_bytes zero n = tt
small_bytes (suc k) n = (byte_small k n, small_bytes k n)

sixteen_bytes : (n : ℕ) → All (λ b. b < 256) (to_be_bytes w128 n)
sixteen_bytes n = All-from_recursion (λ b. b < 256) (to_be_bytes w128 n) (small_bytes 16 n)

pub identity_back : (n : ℕ) → n < 2 ^ 128 → identity (identity_word n) ≡ Ok n
unfolding identity_word
identity_back n small =
    ap (λ (o : Option (List ℕ)). or_why o BadUuid >>= λ bytes. Ok (from_be_bytes w128 bytes)) (sym (parses_hyphenated lower (to_be_bytes w128 n) (inl refl) refl (sixteen_bytes n)))
    ∙ ap Ok (number_back n small)

hex_is_plain : (d : ℕ) → d < 16 → is_plain_byte (hex_digit lower d) ≡ true
hex_is_plain d small = grind (arith, nat_tests)

place_is_plain : (xs : List ℕ) (b : Bool) (k : ℕ) → is_plain_byte (cond b 45 (hex_digit lower (nibble xs k))) ≡ true
place_is_plain xs true k = refl
place_is_plain xs false k = hex_is_plain (nibble xs k) (nibble_small xs k)

pub plain_identity : (n : ℕ) → is_plain (identity_word n) ≡ true
unfolding identity_word
plain_identity n =
    let glyph : ℕ → ℕ = λ k. cond (is_hyphen_place k) 45 (hex_digit lower (nibble (to_be_bytes w128 n) (digit_place k))) in
    let length_is : length (by_index 36 glyph) ≡ 36 = by_index_length 36 glyph in
    both (ap (ltb 0) length_is) (list_all-from_AllPass is_plain_byte (by_index 36 glyph) (λ k d below. ap is_plain_byte (by_index_at 36 glyph k d (omega arith)) ∙ place_is_plain (to_be_bytes w128 n) (is_hyphen_place k) (digit_place k)))
