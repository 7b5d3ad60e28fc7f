-- The references of the two scenarios.
use Rattle.std.proofs.Common.{◌≡◌, ℕ, zero, suc, ◌≤◌, Some, None, [], refl, subst, arith}
use Rattle.std.specs.Prelude.{slice_index_or, Ok, Err}
use Rattle.fixed_models.specs.Steps.{start, outputs, step_once, micro_steps}
use Rattle.fixed_models.specs.Rows as rows
use Rattle.lockstep.specs.Lockstep.{IsReference, row, row_index}
use Rattle.witness_laws.specs.Runs.Scenarios.{loop, faulty}
use Rattle.witness_laws.specs.Runs.References.{loop_rows, faulty_rows, zero_division}

loop_first : row loop loop_rows 1 0 ≡ Ok (slice_index_or loop_rows 0 [])
unfolding loop start outputs
loop_first = refl

loop_second : row loop loop_rows 1 1 ≡ Ok (slice_index_or loop_rows 1 [])
unfolding loop start outputs step_once micro_steps rows.integrator rows.q
loop_second = refl

pub loop_is_referred : IsReference loop loop_rows None
unfolding loop
loop_is_referred = record { each = λ r k m w. by r k (omega (arith, m.first, m.last)) m.within; ends = refl }
  where
    P : ℕ → ℕ → Type 0
    P r k = row loop loop_rows r k ≡ Ok (slice_index_or loop_rows (row_index 1 r k) [])

    in_first : (k : ℕ) → k ≤ 1 → P 1 k
    in_first zero l = loop_first
    in_first (suc k) l = let e : 1 ≡ suc k = omega (arith, l) in subst (P 1) e loop_second

    by : (r k : ℕ) → 1 ≡ r → k ≤ 1 → P r k
    by r k e l = subst (λ (r : ℕ). P r k) e (in_first k l)

faulty_first : row faulty faulty_rows 1 0 ≡ Ok (slice_index_or faulty_rows 0 [])
unfolding faulty start outputs
faulty_first = refl

faulty_second : row faulty faulty_rows 1 1 ≡ Err zero_division
unfolding faulty start outputs step_once micro_steps
faulty_second = refl

pub faulty_is_referred : IsReference faulty faulty_rows (Some zero_division)
unfolding faulty
faulty_is_referred = record {
  each = λ r k m w. by r k (omega (arith, m.first, m.last)) (omega (arith, m.first, m.last, w));
  ends = record { moment = record { first = omega arith; last = omega arith; within = omega arith }; behind = refl; faults = faulty_second };
}
  where
    P : ℕ → ℕ → Type 0
    P r k = row faulty faulty_rows r k ≡ Ok (slice_index_or faulty_rows (row_index 1 r k) [])

    by : (r k : ℕ) → 1 ≡ r → 0 ≡ k → P r k
    by r k e f = subst (λ (r : ℕ). P r k) e (subst (P 1) f faulty_first)
