-- What holds of a slave's machine while its session lasts.
use Rattle.std.specs.Prelude.{◌≡◌, ℕ, Bool, true, false, List}
use Rattle.dcp_types.specs.declared.states.State.{State}
use Rattle.dcp_types.specs.declared.states.State.TheVariants.{Alive, Configuration, Preparing, Prepared, Configuring, Configured, Initialized, SendingI, Synchronizing, Running, Computing, Computed, SendingD, Stopping, Stopped}
use Rattle.fixed_models.specs.Steps.{all_fit}
use Rattle.slave_states.specs.Transitions.{is_same}
use Rattle.slave_spec.specs.Transport.{Session, Before, During, After}
use Rattle.slave_spec.specs.Plants.{SlaveSetup, Plant, start_plant}
use Rattle.slave_spec.specs.Turns.{values}

-- the initial outputs of this run are to be sent, or were sent
abbrev pub is_model_begun : State → (outputs_sent : Bool) → Bool
is_model_begun Initialized sent = true
is_model_begun SendingI sent = true
is_model_begun Configured sent = sent
is_model_begun Synchronizing sent = true
is_model_begun Running sent = true
is_model_begun Computing sent = true
is_model_begun Computed sent = true
is_model_begun SendingD sent = true
is_model_begun Stopping sent = true
is_model_begun Stopped sent = true
is_model_begun _ sent = false

-- the state lies before the initial outputs of a run
abbrev pub is_early : State → Bool
is_early Configuration = true
is_early Preparing = true
is_early Prepared = true
is_early Configuring = true
is_early _ = false

-- From INITIALIZED until the run is ended the outputs lie in their types. Initial outputs are sent past CONFIGURED alone.
pub record IsRegular (p : Plant) : Type 0 where
  pub fit : is_model_begun p.state p.outputs_sent ≡ true → all_fit p.model.types (values p.model) ≡ true
  pub unsent : is_early p.state ≡ true → p.outputs_sent ≡ false
  pub registered : is_same p.state Alive ≡ false

-- before the session the machine stands at its start; nothing is said of it after the session
abbrev pub IsRegularIn : SlaveSetup → Session → Plant → Type 0
IsRegularIn s Before p = p ≡ start_plant s
IsRegularIn s (During master id) p = IsRegular p
IsRegularIn s (After master id) p = Unit {0}
