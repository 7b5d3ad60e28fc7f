-- Printed numbers are plain words that read back.
use Rattle.std.proofs.Common.{◌≡◌, ℕ, ℤ, pos, negsuc, neg_ℤ, suc, ◌+◌, ◌*◌, ◌-◌, ◌/◌, ◌%◌, ◌^◌, ◌<◌, ◌≤◌, Bool, true, false, ◌&&◌, cond, eqb, ltb, leb, List, [], ◌∷◌, ◌++◌, length, drop, slice_index, Option, Some, None, Result, Ok, Err, refl, ap, ◌∙◌, arith, rules, length-append}
use Rattle.std.specs.Prelude.{All, decimal, FitsSigned}
use Rattle.std.specs.List.{list_all, slice_split}
use Rattle.std.specs.Char.{is_ascii_digit}
use Rattle.std.specs.Option.{option_and_then}
use Rattle.std.specs.Int.{w64}
use Rattle.std.specs.Fmt.{signed_decimal}
use Rattle.std.specs.Str.Parse.{digits_value}
use Rattle.std.proofs.Math.Nat as nat
use Rattle.std.proofs.lemmas.Bool.Decides.{nat_tests}
use Rattle.std.proofs.lemmas.Str.Parse.{IsNumeralModel, numerals_by_value}
use Rattle.std.proofs.lemmas.Fmt.{digits_decimal, digits_value-decimal, decimal_nonempty, length-decimal-le}
use Rattle.std.proofs.lemmas.List.Sums.{AllPass-from_list_all}
use Rattle.std.proofs.lemmas.List.Folds.{list_all-append}
use Rattle.std.proofs.lemmas.List.Splits.{slice_split_at, slice_split_none}
use Rattle.text_lines.specs.Causes.{◌>>=◌, or_why}
use Rattle.text_lines.specs.Numbers.{decimal_number, number_from, int64}
use Rattle.text_lines.specs.Addresses.{ip_part, ip_of_parts, ip}
use Rattle.text_lines.specs.Printed.{ip_word}
use Rattle.text_lines.specs.declared.reasons.TextWhy.{TextWhy}
use Rattle.text_lines.specs.declared.reasons.TextWhy.TheVariants.{BadNumber, Limit}
use Rattle.text_lines.proofs.PlainWords.{is_plain_byte, is_plain, both, all_by, all_index, and_both}

own : IsNumeralModel (λ ds. list_all is_ascii_digit ds ≡ true) (digits_value 10)
own = numerals_by_value (λ ds. list_all is_ascii_digit ds ≡ true) (search rules)

all_digits : (n : ℕ) → n < 2 ^ 64 → list_all is_ascii_digit (decimal n) ≡ true
all_digits n small = digits_decimal own n small

is_positive : (n : ℕ) → 0 < n → ltb 0 n ≡ true
is_positive n h = grind (arith, nat_tests)

is_at_most : (n m : ℕ) → n ≤ m → leb n m ≡ true
is_at_most n m h = grind (arith, nat_tests)

chosen : {X : Type 0} (b : Bool) (x y : X) → b ≡ true → cond b x y ≡ x
chosen b x y e = rw e refl

-- the number of a printed number
pub number_decimal : (n : ℕ) → n < 2 ^ 64 → decimal_number (decimal n) ≡ Some n
number_decimal n small =
    chosen _ (Some (digits_value 10 (decimal n))) None (both (both (is_positive _ (decimal_nonempty n small)) (is_at_most _ 20 (length-decimal-le 20 n (omega arith) (omega arith) small))) (all_digits n small)) ∙ ap Some (digits_value-decimal own n small)

pub number_from_decimal : (low high n : ℕ) → n < 2 ^ 64 → low ≤ n → n ≤ high → number_from low high (decimal n) ≡ Ok n
number_from_decimal low high n small above below =
    ap (λ (o : Option ℕ). or_why o BadNumber >>= λ n. cond (leb low n && leb n high) (Ok n) (Err Limit)) (number_decimal n small) ∙ chosen _ (Ok n) (Err Limit) (both (is_at_most low n above) (is_at_most n high below))

digit_is_plain : (b : ℕ) → is_ascii_digit b ≡ true → is_plain_byte b ≡ true
digit_is_plain b e = grind (arith, nat_tests)

pub plain_decimal : (n : ℕ) → n < 2 ^ 64 → is_plain (decimal n) ≡ true
plain_decimal n small = both (is_positive _ (decimal_nonempty n small)) (all_by is_ascii_digit is_plain_byte digit_is_plain (decimal n) (all_digits n small))

digit_is_no_sign : (b : ℕ) → is_ascii_digit b ≡ true → (eqb b 45 ≡ false) × (eqb b 46 ≡ false)
digit_is_no_sign b e = (grind (arith, nat_tests), grind (arith, nat_tests))

first_is_digit : (n : ℕ) → n < 2 ^ 64 → eqb (slice_index (decimal n) 0) 45 ≡ false
first_is_digit n small = (digit_is_no_sign _ (AllPass-from_list_all is_ascii_digit (decimal n) (all_digits n small) 0 0 (decimal_nonempty n small))).0

-- a signed number
pub int64_decimal : (z : ℤ) → FitsSigned w64 z → int64 (signed_decimal z) ≡ Ok z
int64_decimal (pos n) fits =
    let small : n < 2 ^ 63 = fits.sfits in
    ap (λ (b : Bool). cond b (number_from 0 (2 ^ 63) (drop 1 (decimal n)) >>= λ n. Ok (neg_ℤ (pos n))) (number_from 0 (2 ^ 63 - 1) (decimal n) >>= λ n. Ok (pos n))) (first_is_digit n (omega arith))
    ∙ ap (λ (r : Result ℕ TextWhy). r >>= λ n. Ok (pos n)) (number_from_decimal 0 (2 ^ 63 - 1) n (omega arith) (omega arith) (omega arith))
int64_decimal (negsuc n) fits =
    let small : n < 2 ^ 63 = fits.sfits in
    ap (λ (r : Result ℕ TextWhy). r >>= λ n. Ok (neg_ℤ (pos n))) (number_from_decimal 0 (2 ^ 63) (suc n) (omega arith) (omega arith) (omega arith))

pub plain_signed : (z : ℤ) → FitsSigned w64 z → is_plain (signed_decimal z) ≡ true
plain_signed (pos n) fits = let small : n < 2 ^ 63 = fits.sfits in plain_decimal n (omega arith)
plain_signed (negsuc n) fits =
    let small : n < 2 ^ 63 = fits.sfits in
    let plain = plain_decimal (suc n) (omega arith) in
    both (is_positive (suc (length (decimal (suc n)))) (omega arith)) (and_both (ltb 0 (length (decimal (suc n)))) (list_all is_plain_byte (decimal (suc n))) plain).1

-- an ip
part_decimal : (n : ℕ) → n < 256 → ip_part (decimal n) ≡ Some n
part_decimal n small =
    ap (option_and_then (λ n. cond (leb n 255) (Some n) None)) (number_decimal n (omega arith)) ∙ chosen _ (Some n) None (is_at_most n 255 (omega arith))

is_dot : ℕ → Bool
is_dot b = eqb b 46

no_dots : (n : ℕ) → n < 256 → All (λ b. is_dot b ≡ false) (decimal n)
unfolding is_dot
no_dots n small = all_index is_ascii_digit (λ b. eqb b 46 ≡ false) (λ b h. (digit_is_no_sign b h).1) (decimal n) (all_digits n (omega arith))

dotted : (a b c d : ℕ) → a < 256 → b < 256 → c < 256 → d < 256 → slice_split is_dot (decimal a ++ (46 ∷ (decimal b ++ (46 ∷ (decimal c ++ (46 ∷ decimal d)))))) ≡ decimal a ∷ decimal b ∷ decimal c ∷ decimal d ∷ []
unfolding is_dot
dotted a b c d a_small b_small c_small d_small =
    slice_split_at is_dot (decimal a) 46 _ (no_dots a a_small) refl
    ∙ ap (λ l. decimal a ∷ l) (slice_split_at is_dot (decimal b) 46 _ (no_dots b b_small) refl
    ∙ ap (λ l. decimal b ∷ l) (slice_split_at is_dot (decimal c) 46 _ (no_dots c c_small) refl
    ∙ ap (λ l. decimal c ∷ l) (slice_split_none is_dot (decimal d) (no_dots d d_small))))

four_parts : (a b c d : ℕ) → a < 256 → b < 256 → c < 256 → d < 256 → ip_of_parts (decimal a ∷ decimal b ∷ decimal c ∷ decimal d ∷ []) ≡ Ok (((a * 256 + b) * 256 + c) * 256 + d)
four_parts a b c d a_small b_small c_small d_small = rw (part_decimal a a_small, part_decimal b b_small, part_decimal c c_small, part_decimal d d_small) refl

byte_and_rest : (n p : ℕ) → n / p ≡ n / p % 256 + n / (p * 256) * 256
byte_and_rest n p = omega (arith, nat.div-div-eq-div-mul n p 256)

pub ip_back : (n : ℕ) → n < 2 ^ 32 → ip (ip_word n) ≡ Ok n
unfolding ip_word is_dot
ip_back n small =
    ap ip_of_parts (dotted (n / 16777216) (n / 65536 % 256) (n / 256 % 256) (n % 256) (omega arith) (omega arith) (omega arith) (omega arith))
    ∙ four_parts (n / 16777216) (n / 65536 % 256) (n / 256 % 256) (n % 256) (omega arith) (omega arith) (omega arith) (omega arith)
    ∙ ap Ok (omega (arith, byte_and_rest n 256, byte_and_rest n 65536))

plain_bytes : (w : List ℕ) → is_plain w ≡ true → list_all is_plain_byte w ≡ true
plain_bytes w h = (and_both (ltb 0 (length w)) (list_all is_plain_byte w) h).1

plain_after : (a b : List ℕ) → is_plain a ≡ true → is_plain b ≡ true → is_plain (a ++ (46 ∷ b)) ≡ true
plain_after a b ha hb =
    let bytes : list_all is_plain_byte (a ++ (46 ∷ b)) ≡ true = list_all-append is_plain_byte a (46 ∷ b) ∙ both {a = list_all is_plain_byte a} {b = list_all is_plain_byte (46 ∷ b)} (plain_bytes a ha) (plain_bytes b hb) in
    both (is_positive (length (a ++ (46 ∷ b))) (omega (arith, length-append a (46 ∷ b)))) bytes

pub plain_ip : (n : ℕ) → n < 2 ^ 32 → is_plain (ip_word n) ≡ true
unfolding ip_word
plain_ip n small =
    let d = decimal (n % 256) in
    let c = decimal (n / 256 % 256) in
    let b = decimal (n / 65536 % 256) in
    let cd = plain_after c d (plain_decimal (n / 256 % 256) (omega arith)) (plain_decimal (n % 256) (omega arith)) in
    let bcd = plain_after b (c ++ (46 ∷ d)) (plain_decimal (n / 65536 % 256) (omega arith)) cd in
    plain_after (decimal (n / 16777216)) (b ++ (46 ∷ (c ++ (46 ∷ d)))) (plain_decimal (n / 16777216) (omega arith)) bcd
