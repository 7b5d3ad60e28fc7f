-- In which run the next row event stands.
use Rattle.std.proofs.Common.{◌≡◌, ℕ, ◌+◌, ◌*◌, ◌/◌, ◌%◌, ◌<◌, ◌≤◌, ◌⊎◌, inl, inr, sym, ap, ◌∙◌, arith}
use Rattle.std.proofs.lemmas.Bool.{cases_lt}
use Rattle.std.proofs.lemmas.Nat.{div-add-mod', mod-mul-add}
use Rattle.lockstep_laws.specs.Steps.{run_after}
use Rattle.lockstep_laws.proofs.Models.Exists.{run_of_place, step_below}

-- the event after a restart begins a run
pub restarted_whole : (d done : ℕ) → (done % 2 ≡ 0 → ⊥) → (done / 2 + 1) % (d + 1) ≡ 0 → (done + 1) % (2 * (d + 1)) ≡ 0
restarted_whole d done odd z =
    let h = done / 2 + 1 in
    let k = h / (d + 1) in
    let whole = div-add-mod' h (d + 1) in
    let one = odd_is done odd in
    let twice : k * (2 * (d + 1)) ≡ k * (d + 1) + k * (d + 1) = omega arith in
    let is : done + 1 ≡ k * (2 * (d + 1)) + 0 = omega (arith, whole, z, one, twice) in
    ap (λ n. n % (2 * (d + 1))) is ∙ mod-mul-add k (2 * (d + 1)) 0 (omega arith)
  where
    odd_is : (n : ℕ) → (n % 2 ≡ 0 → ⊥) → n % 2 ≡ 1
    odd_is n f = by (cases_lt 0 (n % 2))
      where
        by : (0 < n % 2) ⊎ (n % 2 ≤ 0) → n % 2 ≡ 1
        by (inl p) = omega (arith, p)
        by (inr p) = absurd (f (omega (arith, p)))

-- and the place after it is of another run
pub restarted_apart : (d done : ℕ) → (done % 2 ≡ 0 → ⊥) → (done / 2 + 1) % (d + 1) ≡ 0 → run_after d (done + 1) ≡ run_after d done → ⊥
restarted_apart d done odd z e = by (cases_lt 0 (done % 2))
  where
    by : (0 < done % 2) ⊎ (done % 2 ≤ 0) → ⊥
    by (inr p) = odd (omega (arith, p))
    by (inl p) =
        let h = done / 2 in
        let next : (done + 1) / 2 ≡ h + 1 = omega (arith, p) in
        let same : (h + 1) / (d + 1) ≡ h / (d + 1) = ap (λ n. n / (d + 1)) (sym next) ∙ less (((done + 1) / 2) / (d + 1)) (h / (d + 1)) e in
        let a = div-add-mod' (h + 1) (d + 1) in
        let b = div-add-mod' h (d + 1) in
        let c = ap (λ n. n * (d + 1)) same in
        omega (arith, a, b, c, z)
      where
        less : (m n : ℕ) → m + 1 ≡ n + 1 → m ≡ n
        less m n q = omega (arith, q)

-- any other event is of one run with the one after it
pub run_same : (d done : ℕ) → ((done + 1) % (2 * (d + 1)) ≡ 0 → ⊥) → run_after d (done + 1) ≡ run_after d done
run_same d done no' = by (cases_lt 0 (done % 2))
  where
    by : (0 < done % 2) ⊎ (done % 2 ≤ 0) → run_after d (done + 1) ≡ run_after d done
    by (inr p) = let e : (done + 1) / 2 ≡ done / 2 = omega (arith, p) in ap (λ n. n / (d + 1) + 1) e
    by (inl p) = within (cases_lt (h % (d + 1)) d)
      where
        h : ℕ
        h = done / 2

        next : (done + 1) / 2 ≡ done / 2 + 1
        next = omega (arith, p)

        within : (h % (d + 1) < d) ⊎ (d ≤ h % (d + 1)) → run_after d (done + 1) ≡ run_after d done
        within (inl lt) =
            let whole = div-add-mod' h (d + 1) in
            let is : h + 1 ≡ h / (d + 1) * (d + 1) + (h % (d + 1) + 1) = omega (arith, whole) in
            ap (λ n. n / (d + 1) + 1) next ∙ ap (λ n. n + 1) (run_of_place d (h / (d + 1)) (h % (d + 1) + 1) (h + 1) is (omega (arith, lt))).0
        within (inr le) =
            let whole = div-add-mod' h (d + 1) in
            let most = step_below d h in
            let last : h + 1 ≡ (h / (d + 1) + 1) * (d + 1) + 0 = omega (arith, whole, most, le) in
            let z = ap (λ n. n % (d + 1)) last ∙ mod-mul-add (h / (d + 1) + 1) (d + 1) 0 (omega arith) in
            absurd (no' (restarted_whole d done (λ q. absurd (omega (arith, p, q))) z))
