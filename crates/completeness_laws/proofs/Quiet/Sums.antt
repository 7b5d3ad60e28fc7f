-- Sums over the numbers from 1 on, and lists each of whose elements passes one of so many tests.
use Rattle.std.proofs.Common.{◌≡◌, ℕ, zero, suc, ◌+◌, ◌*◌, ◌<◌, ◌≤◌, ◌⊎◌, inl, inr, Bool, true, List, [], ◌∷◌, length, refl, ap, arith}
use Rattle.std.proofs.lemmas.Bool.{cases_lt}
use Rattle.completeness_laws.proofs.Quiet.Lists.{bit, tally, Each}

-- f 1 + .. + f n
abbrev pub total : (ℕ → ℕ) → ℕ → ℕ
total f zero = 0
total f (suc n) = total f n + f (suc n)

-- the sum of two is the sum of their sums
pub total_both : (f g : ℕ → ℕ) (n : ℕ) → total (λ s. f s + g s) n ≡ total f n + total g n
total_both f g zero = refl
total_both f g (suc n) = let h = total_both f g n in omega (arith, h)

-- each is no more than the sum
pub total_one : (f : ℕ → ℕ) (n s : ℕ) → 0 < s → s ≤ n → f s ≤ total f n
total_one f zero s low high = absurd (omega (arith, low, high))
total_one f (suc n) s low high = by (cases_lt n s) (λ h. total_one f n s low h)
  where
    by : (n < s) ⊎ (s ≤ n) → (s ≤ n → f s ≤ total f n) → f s ≤ total f n + f (suc n)
    by (inl h) g = let e : s ≡ suc n = omega (arith, h, high) in let k : f s ≡ f (suc n) = ap f e in omega (arith, k)
    by (inr h) g = let k = g h in omega (arith, k)

-- where each is at most 17, so is the sum for each number
pub total_few : (f : ℕ → ℕ) (n : ℕ) → ((s : ℕ) → 0 < s → s ≤ n → f s ≤ 17) → total f n ≤ 17 * n
total_few f zero h = omega arith
total_few f (suc n) h =
    let k = total_few f n (λ s low high. h s low (omega (arith, high))) in
    let l = h (suc n) (omega arith) (omega arith) in
    omega (arith, k, l)

module _ {A : Type 0} (p : A → Bool) (q : ℕ → A → Bool) (n : ℕ) where
  -- it passes one of the tests
  abbrev pub PassesOne : A → Type 0
  PassesOne x = (p x ≡ true) ⊎ ((s : ℕ) × (0 < s) × (s ≤ n) × (q s x ≡ true))

  -- so one of the tests counts it
  one_bit : (x : A) → PassesOne x → 1 ≤ bit (p x) + total (λ s. bit (q s x)) n
  one_bit x (inl e) = let k : bit (p x) ≡ 1 = ap bit e in omega (arith, k)
  one_bit x (inr m) =
      let k : bit (q m.0 x) ≡ 1 = ap bit m.3 in
      let l = total_one (λ s. bit (q s x)) n m.0 m.1 m.2 in
      omega (arith, k, l)

  -- so there are no more than pass each test, together
  pub covered : (xs : List A) → Each PassesOne xs → length xs ≤ tally p xs + total (λ s. tally (q s) xs) n
  covered [] a = omega arith
  covered (x ∷ xs) a =
      let h = covered xs a.1 in
      let k = one_bit x a.0 in
      let l = total_both (λ s. bit (q s x)) (λ s. tally (q s) xs) n in
      omega (arith, h, k, l)
