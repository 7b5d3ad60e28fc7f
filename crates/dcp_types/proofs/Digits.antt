-- The digits of a number, and the bytes that the library reads and writes.
use Rattle.std.proofs.Common.{◌≡◌, ℕ, zero, suc, ◌+◌, ◌*◌, ◌/◌, ◌%◌, ◌^◌, ◌<◌, List, [], ◌∷◌, ◌++◌, length, get_or, set, drop, refl, sym, ap, ◌∙◌, arith}
use Rattle.std.proofs.Math.Nat.{pow-suc, div-div-eq-div-mul, div-one}
use Rattle.std.specs.Int.{bytes_low_first, byte_at}
use Rattle.std.proofs.lemmas.List.{drop_all, append-nil}
use Rattle.byteorder.specs.Endian.{little_from}
use Rattle.byteorder.specs.Numbers.{little_from-cons, little_number-reads_back}
use Rattle.dcp_types.specs.Values.{digits}

byte_at-quotient : (i n : ℕ) → byte_at i n ≡ n / 256 ^ i % 256
byte_at-quotient zero n = ap (λ (m : ℕ). m % 256) (sym (div-one n))
byte_at-quotient (suc i) n = refl

-- the w bytes of n from byte i on
pub low_first : (w i n : ℕ) → bytes_low_first i w n ≡ digits w (n / 256 ^ i)
unfolding digits
low_first zero i n = refl
low_first (suc w) i n =
    let next : n / 256 ^ i / 256 ≡ n / 256 ^ suc i = div-div-eq-div-mul n (256 ^ i) 256 ∙ ap (λ (m : ℕ). n / m) (sym (pow-suc 256 i)) in
    rw (low_first w (suc i) n, next, byte_at-quotient i n) refl

pub low_bytes : (w n : ℕ) → bytes_low_first 0 w n ≡ digits w n
low_bytes w n = low_first w 0 n ∙ ap (digits w) (div-one n)

pub length-digits : (w n : ℕ) → length (digits w n) ≡ w
unfolding digits
length-digits zero n = refl
length-digits (suc w) n = ap suc (length-digits w (n / 256))

-- what is written over a room of n bytes
pub written : (n r : ℕ) (room : List ℕ) → length room ≡ n → bytes_low_first 0 n r ++ drop n room ≡ digits n r
written n r room e =
    ap (λ (l : List ℕ). bytes_low_first 0 n r ++ l) (drop_all n room (omega arith)) ∙ append-nil (bytes_low_first 0 n r) ∙ low_bytes n r

abbrev pub IsBytes : List ℕ → Type 0
IsBytes x = (i : ℕ) → get_or x i 0 < 256

-- the digits of the number that is read are the bytes
pub digits-little_from : (n : ℕ) (x : List ℕ) → length x ≡ n → IsBytes x → digits n (little_from 0 n x) ≡ x
unfolding digits
digits-little_from zero [] e h = refl
digits-little_from zero (c ∷ x) e h = absurd (omega arith)
digits-little_from (suc n) [] e h = absurd (omega arith)
digits-little_from (suc n) (c ∷ x) e h =
    let low : c < 256 = h 0 in
    let rest : little_from 1 n (c ∷ x) ≡ little_from 0 n x = little_from-cons 0 n c x in
    let r = little_from 0 n x in
    let first : (c + 256 * r) % 256 ≡ c = omega arith in
    let others : (c + 256 * r) / 256 ≡ r = omega arith in
    rw (rest, first, others, digits-little_from n x (omega arith) (λ i. h (suc i))) refl

-- numbers of w bytes with the same digits are the same
pub same_number : (w m n : ℕ) → m < 256 ^ w → n < 256 ^ w → digits w m ≡ digits w n → m ≡ n
same_number w m n lm ln e =
    sym (little_number-reads_back w m [] lm)
    ∙ ap (λ (x : List ℕ). little_from 0 w (x ++ [])) (low_bytes w m ∙ e ∙ sym (low_bytes w n))
    ∙ little_number-reads_back w n [] ln

-- one byte that is set in a room of one
pub one_written : (n : ℕ) (room : List ℕ) → n < 256 → length room ≡ 1 → set room 0 n ≡ digits 1 n
unfolding digits
one_written n [] lt e = absurd (omega arith)
one_written n (c ∷ []) lt e = let same : n % 256 ≡ n = omega arith in rw same refl
one_written n (c ∷ d ∷ x) lt e = absurd (omega arith)
