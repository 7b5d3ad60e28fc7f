-- The scenarios leave time.
use Rattle.std.proofs.Common.{◌≡◌, ℕ, zero, suc, inl, Some, None, [], ◌∷◌, reverse, refl, sym, ◌∙◌, subst, arith}
use Rattle.std.specs.Prelude.{slice_get}
use Rattle.slave_desc.specs.declared.descriptions.SlaveDesc.{SlaveDesc}
use Rattle.completeness_laws.specs.Timely.{LeavesTime, Roomy}
use Rattle.witness_laws.specs.Runs.Scenarios.{short_limits, doubler, zero_divider, loop, faulty}

only_leaves_time : (x : SlaveDesc) → LeavesTime short_limits x → (i : ℕ) (d : SlaveDesc) → slice_get (x ∷ []) i ≡ Some d → LeavesTime short_limits d
only_leaves_time x l zero d e = let same : x ≡ d = cc in subst (LeavesTime short_limits) same l
only_leaves_time x l (suc i) d e = absurd cc

pub loop_is_roomy : Roomy loop
unfolding loop
loop_is_roomy i d e = only_leaves_time doubler (record { states = omega arith; hearts = inl refl }) i d e

pub faulty_is_roomy : Roomy faulty
unfolding faulty
faulty_is_roomy i d e = only_leaves_time zero_divider (record { states = omega arith; hearts = inl refl }) i d e
