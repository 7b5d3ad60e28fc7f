-- The ordinals of a data id rise with the rows, and an ordinal tells its run.
use Rattle.std.proofs.Common.{◌≡◌, ℕ, zero, suc, ◌+◌, ◌-◌, ◌*◌, ◌/◌, ◌%◌, ◌<◌, ◌≤◌, ◌⊎◌, inl, inr, ap, ◌∙◌, arith}
use Rattle.std.proofs.lemmas.Bool.{cases_lt}
use Rattle.std.proofs.lemmas.Nat.{div-add-mod', mod_below}
use Rattle.lockstep_laws.specs.Models.Ordinals.{ordinals_in_run, ordinal_at, ordinals_below}

pub div_rises : (m n q : ℕ) → 0 < q → m ≤ n → m / q ≤ n / q
div_rises m n q some le = by (cases_lt (n / q) (m / q))
  where
    by : (n / q < m / q) ⊎ (m / q ≤ n / q) → m / q ≤ n / q
    by (inr h) = h
    by (inl lt) =
        let a = div-add-mod' m q in
        let b = div-add-mod' n q in
        let r = mod_below n q some in
        let s : (m / q) * q ≡ (n / q) * q + q + (m / q - n / q - 1) * q = ap (λ k. k * q) more ∙ omega arith in
        absurd (omega (arith, a, b, r, s, le))
      where
        more : m / q ≡ n / q + 1 + (m / q - n / q - 1)
        more = omega (arith, lt)

-- the ordinal of a place in a later run is greater
later_run : (n a b u v : ℕ) → a < b → u < n → a * n + u < b * n + v
later_run n a b u v lt in_run =
    let more : b ≡ a + 1 + (b - a - 1) = omega (arith, lt) in
    let s : b * n ≡ a * n + n + (b - a - 1) * n = ap (λ k. k * n) more ∙ omega arith in
    omega (arith, s, in_run)

pub same_run : (n a b u v : ℕ) → u < n → v < n → a * n + u ≡ b * n + v → (a ≡ b) × (u ≡ v)
same_run n a b u v x y e = by (cases_lt a b) (cases_lt b a)
  where
    by : (a < b) ⊎ (b ≤ a) → (b < a) ⊎ (a ≤ b) → (a ≡ b) × (u ≡ v)
    by (inl l) c = let z = later_run n a b u v l x in absurd (omega (arith, z, e))
    by (inr g) (inl l) = let z = later_run n b a v u l y in absurd (omega (arith, z, e))
    by (inr g) (inr l) =
        let same : a ≡ b = omega (arith, g, l) in
        let m : a * n ≡ b * n = ap (λ k. k * n) same in
        (same, omega (arith, m, e))

pub run_least : (n a b u v : ℕ) → v < n → a * n + u ≤ b * n + v → a ≤ b
run_least n a b u v y e = by (cases_lt b a)
  where
    by : (b < a) ⊎ (a ≤ b) → a ≤ b
    by (inl l) = let z = later_run n b a v u l y in absurd (omega (arith, z, e))
    by (inr g) = g

pub in_run : (steps q n : ℕ) → 0 < q → n ≤ steps → n / q < ordinals_in_run steps q
in_run steps q n some le = let d = div_rises n steps q some le in omega (arith, d)

pub ordinal_rises : (steps q m n : ℕ) → 0 < q → m ≤ n → ordinal_at steps q m ≤ ordinal_at steps q n
ordinal_rises steps q m n some le = by (cases_lt (m / (steps + 1)) (n / (steps + 1)))
  where
    a : m / (steps + 1) * (steps + 1) + m % (steps + 1) ≡ m
    a = div-add-mod' m (steps + 1)

    b : n / (steps + 1) * (steps + 1) + n % (steps + 1) ≡ n
    b = div-add-mod' n (steps + 1)

    below : (k : ℕ) → k % (steps + 1) ≤ steps
    below k = let r = mod_below k (steps + 1) (omega arith) in omega (arith, r)

    by : (m / (steps + 1) < n / (steps + 1)) ⊎ (n / (steps + 1) ≤ m / (steps + 1)) → ordinal_at steps q m ≤ ordinal_at steps q n
    by (inl l) =
        let z = later_run (ordinals_in_run steps q) (m / (steps + 1)) (n / (steps + 1)) (m % (steps + 1) / q) (n % (steps + 1) / q) l (in_run steps q (m % (steps + 1)) some (below m)) in
        omega (arith, z)
    by (inr g) =
        let d = div_rises m n (steps + 1) (omega arith) le in
        let same : m / (steps + 1) ≡ n / (steps + 1) = omega (arith, d, g) in
        let w : m / (steps + 1) * (steps + 1) ≡ n / (steps + 1) * (steps + 1) = ap (λ k. k * (steps + 1)) same in
        let v : m / (steps + 1) * ordinals_in_run steps q ≡ n / (steps + 1) * ordinals_in_run steps q = ap (λ k. k * ordinals_in_run steps q) same in
        let r = div_rises (m % (steps + 1)) (n % (steps + 1)) q some (omega (arith, a, b, w, le)) in
        omega (arith, v, r)

pub below_rises : (steps q m n : ℕ) → 0 < q → m ≤ n → ordinals_below steps q m ≤ ordinals_below steps q n
below_rises steps q zero n some le = omega arith
below_rises steps q (suc m) zero some le = absurd (omega (arith, le))
below_rises steps q (suc m) (suc n) some le = let z = ordinal_rises steps q m n some (omega (arith, le)) in omega (arith, z)
