-- The laws of ordinals and rows.
use Rattle.std.proofs.Common.{◌≡◌, ℕ, zero, suc, ◌+◌, ◌-◌, ◌*◌, ◌/◌, ◌%◌, ◌<◌, ◌≤◌, ◌⊎◌, inl, inr, refl, sym, ap, ◌∙◌, arith}
use Rattle.std.specs.Prelude.{◌==◌}
use Rattle.std.proofs.lemmas.Bool.{cases_lt}
use Rattle.std.proofs.lemmas.Nat.{div-mul-add, mod-mul-add, div-add-mod', mod_below}
use Rattle.lockstep_laws.specs.Models.Ordinals.{ordinals_in_run, row_of_ordinal, ordinal_at, is_sent_row, ordinals_below}

div_least : (m n q : ℕ) → 0 < q → m ≤ n → m / q ≤ n / q
div_least m n q pos le = by (cases_lt (n / q) (m / q))
  where
    by : (n / q < m / q) ⊎ (m / q ≤ n / q) → m / q ≤ n / q
    by (inr h) = h
    by (inl lt) =
        let a = div-add-mod' m q in
        let b = div-add-mod' n q in
        let r = mod_below n q pos in
        let s : (m / q) * q ≡ (n / q) * q + q + (m / q - n / q - 1) * q = ap (λ k. k * q) more ∙ omega arith in
        absurd (omega (arith, a, b, r, s, le))
      where
        more : m / q ≡ n / q + 1 + (m / q - n / q - 1)
        more = omega (arith, lt)

-- a place, as a run and a step of it
module _ (steps q a n : ℕ) (pos : 0 < q) (le : n ≤ steps) where
  run_is : (a * (steps + 1) + n) / (steps + 1) ≡ a
  run_is = div-mul-add a (steps + 1) n (omega (arith, le))

  step_is : (a * (steps + 1) + n) % (steps + 1) ≡ n
  step_is = mod-mul-add a (steps + 1) n (omega (arith, le))

  pub ordinal_is : ordinal_at steps q (a * (steps + 1) + n) ≡ a * ordinals_in_run steps q + n / q
  ordinal_is = ap (λ r. r * ordinals_in_run steps q + (a * (steps + 1) + n) % (steps + 1) / q) run_is ∙ ap (λ k. a * ordinals_in_run steps q + k / q) step_is

  pub due_is : is_sent_row steps q (a * (steps + 1) + n) ≡ (n % q == 0)
  due_is = ap (λ k. k % q == 0) step_is

  in_run : n / q < ordinals_in_run steps q
  in_run = let d = div_least n steps q pos le in omega (arith, d)

  pub row_is : row_of_ordinal steps q (a * ordinals_in_run steps q + n / q) ≡ a * (steps + 1) + q * (n / q)
  row_is =
      ap (λ r. r * (steps + 1) + q * ((a * ordinals_in_run steps q + n / q) % ordinals_in_run steps q)) (div-mul-add a (ordinals_in_run steps q) (n / q) in_run)
      ∙ ap (λ k. a * (steps + 1) + q * k) (mod-mul-add a (ordinals_in_run steps q) (n / q) in_run)

-- one step earlier
before_due : (n q : ℕ) → 0 < q → suc n % q ≡ 0 → n / q + 1 ≡ suc n / q
before_due n q pos e = by (suc n / q) refl
  where
    whole : suc n / q * q + suc n % q ≡ suc n
    whole = div-add-mod' (suc n) q

    by : (m : ℕ) → m ≡ suc n / q → n / q + 1 ≡ suc n / q
    by zero z = absurd (omega (arith, whole, e, ap (λ k. k * q) z))
    by (suc b) z =
        let s : b * q + (q - 1) ≡ n = omega (arith, whole, e, ap (λ k. k * q) z, pos) in
        let d : n / q ≡ b = ap (λ k. k / q) (sym s) ∙ div-mul-add b q (q - 1) (omega (arith, pos)) in
        omega (arith, d, z)

before_undue : (n q : ℕ) → 0 < q → (suc n % q ≡ 0 → ⊥) → n / q ≡ suc n / q
before_undue n q pos e = by (suc n % q) refl
  where
    whole : suc n / q * q + suc n % q ≡ suc n
    whole = div-add-mod' (suc n) q

    by : (m : ℕ) → m ≡ suc n % q → n / q ≡ suc n / q
    by zero z = absurd (e (sym z))
    by (suc m) z =
        let r = mod_below (suc n) q pos in
        let s : suc n / q * q + m ≡ n = omega (arith, whole, z) in
        ap (λ k. k / q) (sym s) ∙ div-mul-add (suc n / q) q m (omega (arith, z, r))

zero_div : (q : ℕ) → 0 < q → 0 / q ≡ 0
zero_div q pos = let e : 0 ≡ 0 * q + 0 = omega arith in ap (λ k. k / q) e ∙ div-mul-add 0 q 0 pos

zero_mod : (q : ℕ) → 0 < q → 0 % q ≡ 0
zero_mod q pos = let e : 0 ≡ 0 * q + 0 = omega arith in ap (λ k. k % q) e ∙ mod-mul-add 0 q 0 pos

-- how many ordinals lie below a place
count_step : (steps q a n : ℕ) → 0 < q → suc n ≤ steps → ordinals_below steps q (a * (steps + 1) + suc n) ≡ a * ordinals_in_run steps q + n / q + 1
count_step steps q a n pos le =
    let s : a * (steps + 1) + suc n ≡ suc (a * (steps + 1) + n) = omega arith in
    ap (ordinals_below steps q) s ∙ ap (λ k. k + 1) (ordinal_is steps q a n pos (omega (arith, le)))

count_run : (steps q a : ℕ) → 0 < q → ordinals_below steps q (suc a * (steps + 1) + 0) ≡ suc a * ordinals_in_run steps q
count_run steps q a pos =
    let s : suc a * (steps + 1) + 0 ≡ suc (a * (steps + 1) + steps) = omega arith in
    ap (ordinals_below steps q) s ∙ ap (λ k. k + 1) (ordinal_is steps q a steps pos (omega arith)) ∙ omega arith

-- a row that is sent has as its ordinal how many there were before; else the ordinal before it is the last
pub sent : (steps q a n : ℕ) → 0 < q → n ≤ steps → n % q ≡ 0 → ordinals_below steps q (a * (steps + 1) + n) ≡ a * ordinals_in_run steps q + n / q
sent steps q a (suc n) pos le e = count_step steps q a n pos le ∙ omega (arith, before_due n q pos e)
sent steps q zero zero pos le e = ap (ordinals_below steps q) first ∙ omega (arith, zero_div q pos)
  where
    first : zero * (steps + 1) + zero ≡ zero
    first = omega arith
sent steps q (suc a) zero pos le e = count_run steps q a pos ∙ omega (arith, zero_div q pos)

pub unsent : (steps q a n : ℕ) → 0 < q → n ≤ steps → (n % q ≡ 0 → ⊥) → ordinals_below steps q (a * (steps + 1) + n) ≡ a * ordinals_in_run steps q + n / q + 1
unsent steps q a zero pos le e = absurd (e (zero_mod q pos))
unsent steps q a (suc n) pos le e = count_step steps q a n pos le ∙ ap (λ k. a * ordinals_in_run steps q + k + 1) (before_undue n q pos e)

-- the next place has one ordinal more below it, where this one is sent
pub count_next : (steps q row : ℕ) → ordinals_below steps q (row + 1) ≡ ordinal_at steps q row + 1
count_next steps q row = let s : row + 1 ≡ suc row = omega arith in ap (ordinals_below steps q) s
