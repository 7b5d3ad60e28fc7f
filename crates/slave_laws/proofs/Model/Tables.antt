-- The table of states as the stages use it.
use Rattle.std.proofs.Common.{◌≡◌, ℕ, Bool, true, false, Some, refl, sym, ap, ◌∙◌, arith, ℤ}
use Rattle.std.proofs.lemmas.Bool.{eqb-true}
use Rattle.dcp_types.specs.declared.states.State.{State}
use Rattle.dcp_types.specs.declared.states.State.TheVariants.{Alive, Configuration, Preparing, Prepared, Configuring, Configured, Initializing, Initialized, SendingI, Synchronizing, Synchronized, Running, Computing, Computed, SendingD, Stopping, Stopped, ErrorHandling, ErrorResolved}
use Rattle.dcp_types.specs.Codes.{state_code}
use Rattle.pdu_layout.specs.declared.messages.Stc.{Stc}
use Rattle.pdu_layout.specs.declared.messages.Stc.TheVariants as stc
use Rattle.slave_states.specs.Transitions.{transition_row, next_on_turn, is_same}
use Rattle.slave_spec.specs.Heard.{state_from}
use Rattle.slave_spec.specs.Requests.{is_in_error}
use Rattle.slave_laws.specs.Model.Stages.{entered_by, reached_by_turns}

-- ---- a state is known by its code
state_back : (a : State) → state_from (state_code a) ≡ a
state_back Alive = refl
state_back Configuration = refl
state_back Preparing = refl
state_back Prepared = refl
state_back Configuring = refl
state_back Configured = refl
state_back Initializing = refl
state_back Initialized = refl
state_back SendingI = refl
state_back Synchronizing = refl
state_back Synchronized = refl
state_back Running = refl
state_back Computing = refl
state_back Computed = refl
state_back SendingD = refl
state_back Stopping = refl
state_back Stopped = refl
state_back ErrorHandling = refl
state_back ErrorResolved = refl

pub same_states : (a b : State) → state_code a ≡ state_code b → a ≡ b
same_states a b e = sym (state_back a) ∙ ap state_from e ∙ state_back b

pub states_are : (a b : State) → is_same a b ≡ true → a ≡ b
states_are a b e = same_states a b (eqb-true (state_code a) (state_code b) e)

-- ---- turns
pub rest_rests : (a : State) → reached_by_turns (reached_by_turns a) ≡ reached_by_turns a
unfolding next_on_turn
rest_rests Alive = refl
rest_rests Configuration = refl
rest_rests Preparing = refl
rest_rests Prepared = refl
rest_rests Configuring = refl
rest_rests Configured = refl
rest_rests Initializing = refl
rest_rests Initialized = refl
rest_rests SendingI = refl
rest_rests Synchronizing = refl
rest_rests Synchronized = refl
rest_rests Running = refl
rest_rests Computing = refl
rest_rests Computed = refl
rest_rests SendingD = refl
rest_rests Stopping = refl
rest_rests Stopped = refl
rest_rests ErrorHandling = refl
rest_rests ErrorResolved = refl

pub error_rests : (a : State) → is_in_error a ≡ true → is_in_error (reached_by_turns a) ≡ true
unfolding next_on_turn
error_rests a e = grind arith

pub error_before : (a : State) → is_in_error (reached_by_turns a) ≡ true → is_in_error a ≡ true
unfolding next_on_turn
error_before a e = grind arith

pub rest_computes : reached_by_turns Computing ≡ Computed
unfolding next_on_turn
rest_computes = refl

pub never_computes : (a : State) → reached_by_turns a ≡ Computing → ⊥
unfolding next_on_turn
never_computes a e = grind arith

-- ---- an accepted change leads where the table has it, and never into an error
abbrev pub Leads : Stc → State → State → Type 0
Leads request state t = (entered_by request state ≡ Some t) × (is_in_error t ≡ false)

register_leads : (a b c d : ℕ) (state t : State) (sent : Bool) → transition_row (stc.Register a b c d) state sent ≡ Some t → Leads (stc.Register a b c d) state t
register_leads a b c d state t sent h = (grind arith, grind arith)

deregister_leads : (state t : State) (sent : Bool) → transition_row stc.Deregister state sent ≡ Some t → Leads stc.Deregister state t
deregister_leads state t sent h = (grind arith, grind arith)

prepare_leads : (state t : State) (sent : Bool) → transition_row stc.Prepare state sent ≡ Some t → Leads stc.Prepare state t
prepare_leads state t sent h = (grind arith, grind arith)

configure_leads : (state t : State) (sent : Bool) → transition_row stc.Configure state sent ≡ Some t → Leads stc.Configure state t
configure_leads state t sent h = (grind arith, grind arith)

initialize_leads : (state t : State) (sent : Bool) → transition_row stc.Initialize state sent ≡ Some t → Leads stc.Initialize state t
initialize_leads state t sent h = (grind arith, grind arith)

run_leads : (x : ℤ) (state t : State) (sent : Bool) → transition_row (stc.Run x) state sent ≡ Some t → Leads (stc.Run x) state t
run_leads x state t sent h = (grind arith, grind arith)

step_leads : (n : ℕ) (state t : State) (sent : Bool) → transition_row (stc.DoStep n) state sent ≡ Some t → Leads (stc.DoStep n) state t
step_leads n state t sent h = (grind arith, grind arith)

outputs_leads : (state t : State) (sent : Bool) → transition_row stc.SendOutputs state sent ≡ Some t → Leads stc.SendOutputs state t
outputs_leads state t sent h = (grind arith, grind arith)

stop_leads : (state t : State) (sent : Bool) → transition_row stc.Stop state sent ≡ Some t → Leads stc.Stop state t
stop_leads state t sent h = (grind arith, grind arith)

reset_leads : (state t : State) (sent : Bool) → transition_row stc.Reset state sent ≡ Some t → Leads stc.Reset state t
reset_leads state t sent h = (grind arith, grind arith)

pub leads : (request : Stc) (state t : State) (sent : Bool) → transition_row request state sent ≡ Some t → Leads request state t
leads (stc.Register a b c d) state t sent h = register_leads a b c d state t sent h
leads stc.Deregister state t sent h = deregister_leads state t sent h
leads stc.Prepare state t sent h = prepare_leads state t sent h
leads stc.Configure state t sent h = configure_leads state t sent h
leads stc.Initialize state t sent h = initialize_leads state t sent h
leads (stc.Run x) state t sent h = run_leads x state t sent h
leads (stc.DoStep n) state t sent h = step_leads n state t sent h
leads stc.SendOutputs state t sent h = outputs_leads state t sent h
leads stc.Stop state t sent h = stop_leads state t sent h
leads stc.Reset state t sent h = reset_leads state t sent h
