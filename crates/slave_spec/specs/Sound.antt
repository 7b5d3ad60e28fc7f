-- What holds of a slave's machine after every list of events.
use Rattle.std.specs.Prelude.{◌≡◌, ℕ, ◌-◌, ◌^◌, ◌<◌, Bool, true, false}
use Rattle.dcp_types.specs.declared.states.State.{State}
use Rattle.dcp_types.specs.declared.states.State.TheVariants.{Initialized, SendingI, Computing, Computed, SendingD}
use Rattle.fixed_models.specs.Steps.{all_fit}
use Rattle.slave_states.specs.Transitions.{is_same}
use Rattle.slave_spec.specs.Plants.{Plant}
use Rattle.slave_spec.specs.Turns.{values}

-- outputs are to be sent, or are being sent
abbrev pub has_outputs : State → Bool
has_outputs Initialized = true
has_outputs SendingI = true
has_outputs Computed = true
has_outputs SendingD = true
has_outputs _ = false

-- The outputs that are sent lie in the types of their ports. While a step is computed the count of steps is below its last number,
-- so it counts on by one.
pub record IsSoundPlant (p : Plant) : Type 0 where
  pub fit : has_outputs p.state ≡ true → all_fit p.model.types (values p.model) ≡ true
  pub below : is_same p.state Computing ≡ true → p.steps < 2 ^ 32 - 1
