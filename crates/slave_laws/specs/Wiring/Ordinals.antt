-- Which data messages a slave sends and waits for, when it is asked in order.
use Rattle.std.specs.Prelude.{◌≡◌, ℕ, ◌+◌, ◌*◌, ◌/◌, true, List}
use Rattle.lockstep_laws.specs.Steps.{Bench}
use Rattle.slave_spec.specs.Changes.{Change, Side, has_id, entry_interval, ordinal}
use Rattle.slave_laws.specs.Talk.Benches.{bench_at}
use Rattle.slave_laws.specs.Model.Models.{plant_at}
use Rattle.slave_laws.specs.Wiring.Wired.{planned_changes, is_past, InScenario}

-- The ordinals of a data id go on from run to run: in each run that was reset it had one for the first row and one for each q-th
-- step, and in this one as many as its steps give. Before, has_id and interval are those of the plan.
pub record IsCountedOn (steps : ℕ) (side : Side) (planned changes : List Change) (b : Bench) (id : ℕ) : Type 0 where
  pub known : has_id side id changes ≡ has_id side id planned
  pub spaced : entry_interval side id changes ≡ entry_interval side id planned
  pub numbered : has_id side id planned ≡ true → ordinal side id changes b.steps ≡ b.resets * (steps / entry_interval side id planned + 1) + b.steps / entry_interval side id planned

abbrev pub OrdinalsGoOn : Side → Type 0
OrdinalsGoOn side = InScenario (λ sc s x w log. is_past (plant_at x w s log).state ≡ true
    → (id : ℕ) → IsCountedOn sc.steps side (planned_changes sc s x.desc) (plant_at x w s log).wires.changes (bench_at x w s log) id)
