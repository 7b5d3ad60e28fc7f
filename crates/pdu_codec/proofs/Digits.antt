-- Numbers and their bytes.
use Rattle.std.proofs.Common.{◌≡◌, ℕ, zero, suc, ◌+◌, ◌-◌, ◌*◌, ◌/◌, ◌%◌, ◌^◌, ◌<◌, List, [], ◌∷◌, ◌++◌, length, take, drop, reverse, refl, ap, ◌∙◌, arith}
use Rattle.std.proofs.lemmas.List.{length-reverse, get_or-drop, get_or-take, get_or_past, get_or-reverse, length-take, reverse-append}
use Rattle.std.proofs.lemmas.Bool.{cases_lt}
use Rattle.std.proofs.Common.{inl, inr}
use Rattle.std.proofs.Math.Nat.{pow-suc}
use Rattle.dcp_types.specs.Values.{digits}
use Rattle.byteorder.specs.Endian.{little_from, big_from}
use Rattle.byteorder.specs.Numbers.{little_from-cons, big_from-cons}
use Rattle.dcp_types.proofs.Digits.{IsBytes}

-- the number in these bytes, the lowest first
abbrev pub number : List ℕ → ℕ
number [] = 0
number (c ∷ cs) = c + 256 * number cs

pub IsBytes-drop : (n : ℕ) (bytes : List ℕ) → IsBytes bytes → IsBytes (drop n bytes)
IsBytes-drop n bytes h i = rw get_or-drop (h (n + i))

pub IsBytes-take : (n : ℕ) (bytes : List ℕ) → IsBytes bytes → IsBytes (take n bytes)
IsBytes-take n bytes h i =
    elim (cases_lt i n) [
      | inl lt ↦ rw (get_or-take n bytes i 0 lt) (h i)
      | inr le ↦ rw (get_or_past (take n bytes) i 0 (omega (arith, length-take n bytes))) (omega arith)
    ]

pub IsBytes-tail : (b : ℕ) (bytes : List ℕ) → IsBytes (b ∷ bytes) → IsBytes bytes
IsBytes-tail b bytes h i = h (suc i)

pub IsBytes-reverse : (bytes : List ℕ) → IsBytes bytes → IsBytes (reverse bytes)
IsBytes-reverse bytes h i =
    elim (cases_lt i (length bytes)) [
      | inl lt ↦ rw (get_or-reverse bytes i 0 lt) (h (length bytes - 1 - i))
      | inr le ↦ rw (get_or_past (reverse bytes) i 0 (omega (arith, length-reverse bytes))) (omega arith)
    ]

pub digits-number : (x : List ℕ) → IsBytes x → digits (length x) (number x) ≡ x
unfolding digits
digits-number [] h = refl
digits-number (c ∷ cs) h =
    let low : c < 256 = h 0 in
    let e1 : (c + 256 * number cs) % 256 ≡ c = omega arith in
    let e2 : (c + 256 * number cs) / 256 ≡ number cs = omega arith in
    rw (e1, e2, digits-number cs (IsBytes-tail c cs h)) refl

pub number_below : (x : List ℕ) → IsBytes x → number x < 256 ^ length x
number_below [] h = omega arith
number_below (c ∷ cs) h =
    let low : c < 256 = h 0 in
    let rest = number_below cs (IsBytes-tail c cs h) in
    rw pow-suc (omega arith)

-- what the library reads, the lowest byte first
pub number-little : (n : ℕ) (x : List ℕ) → length x ≡ n → number x ≡ little_from 0 n x
number-little zero [] e = refl
number-little zero (c ∷ x) e = absurd (omega arith)
number-little (suc n) [] e = absurd (omega arith)
number-little (suc n) (c ∷ x) e =
    let rest : little_from 1 n (c ∷ x) ≡ little_from 0 n x = little_from-cons 0 n c x in
    let more = number-little n x (omega arith) in
    rw (rest, more) refl

number-append : (x : List ℕ) (c : ℕ) → number (x ++ (c ∷ [])) ≡ c * 256 ^ length x + number x
number-append [] c = omega arith
number-append (b ∷ x) c =
    let more = number-append x c in
    rw (more, pow-suc) (grind arith)

-- what the library reads, the highest byte first
pub number-big : (n : ℕ) (x : List ℕ) → length x ≡ n → number (reverse x) ≡ big_from 0 n x
number-big zero [] e = refl
number-big zero (c ∷ x) e = absurd (omega arith)
number-big (suc n) [] e = absurd (omega arith)
number-big (suc n) (c ∷ x) e =
    let rest : big_from 1 n (c ∷ x) ≡ big_from 0 n x = big_from-cons 0 n c x in
    let size : length (reverse x) ≡ n = length-reverse x ∙ omega arith in
    ap number (reverse-append (c ∷ []) x) ∙ number-append (reverse x) c ∙ ap (λ (m : ℕ). c * 256 ^ m + number (reverse x)) size ∙ rw (rest, number-big n x (omega arith)) refl
