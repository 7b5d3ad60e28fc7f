-- A slave that is asked in order has the wiring of the plan.
use Rattle.std.proofs.Common.{◌≡◌, ℕ, ◌+◌, not, Bool, true, false, if◌then◌else◌, List, Option, Some, None, refl, sym, ap, ◌∙◌, arith, ℤ}
use Rattle.std.proofs.lemmas.Bool.{and_parts}
use Rattle.dcp_types.specs.declared.states.State.{State}
use Rattle.dcp_types.specs.declared.states.State.TheVariants.{Configuration}
use Rattle.pdu_layout.specs.declared.messages.Stc.TheVariants as stc
use Rattle.slave_desc.specs.declared.descriptions.SlaveDesc.{SlaveDesc}
use Rattle.scenario.specs.declared.scenarios.Scenario.{Scenario}
use Rattle.log_spec.specs.Log.{DecidedRequest}
use Rattle.lockstep_laws.specs.Steps.{RowEvent, Show, Step, Restart, row_event_at, Reply, Accepted, AtRest, Otherwise, told_by, BenchProgress, events_counted}
use Rattle.lockstep_laws.proofs.Local.{IsInTurn}
use Rattle.slave_states.specs.Transitions.{transition_row, next_on_turn}
use Rattle.plan_laws.specs.Course.Courses.{same_event, may_begin}
use Rattle.slave_laws.specs.Wiring.Wired.{is_past}

-- ---- row events are asked in turn
event_is : (k l : RowEvent) → same_event k l ≡ true → k ≡ l
event_is Show Show h = refl
event_is Step Step h = refl
event_is Restart Restart h = refl
event_is Show Step h = absurd cc
event_is Show Restart h = absurd cc
event_is Step Show h = absurd cc
event_is Step Restart h = absurd cc
event_is Restart Show h = absurd cc
event_is Restart Step h = absurd cc

counted_free : (v : BenchProgress) → not v.waiting ≡ true → events_counted v ≡ v.done
counted_free v h = by v.waiting h
  where
    by : (b : Bool) → not b ≡ true → (if b then v.done + 1 else v.done) ≡ v.done
    by true e = absurd cc
    by false e = refl

asked_turn : (sc : Scenario) (s : ℕ) (d : SlaveDesc) (es : List DecidedRequest) (v : BenchProgress) (k : RowEvent) → may_begin sc s d es v (Some k) ≡ true → k ≡ row_event_at sc.steps (events_counted v)
asked_turn sc s d es v k h =
    let a = and_parts (not v.waiting) _ h in
    let b = and_parts (same_event k (row_event_at sc.steps v.done)) _ a.1 in
    event_is k (row_event_at sc.steps v.done) b.0 ∙ ap (row_event_at sc.steps) (sym (counted_free v a.0))

pub in_turn : (sc : Scenario) (s : ℕ) (d : SlaveDesc) (es : List DecidedRequest) (v : BenchProgress) (q : Option RowEvent) (p : Reply) → may_begin sc s d es v q ≡ true → IsInTurn sc.steps (told_by q p) v
in_turn sc s d es v (Some Show) Accepted h = asked_turn sc s d es v Show h
in_turn sc s d es v (Some Step) Accepted h = asked_turn sc s d es v Step h
in_turn sc s d es v (Some Restart) Accepted h = asked_turn sc s d es v Restart h
in_turn sc s d es v (Some Show) AtRest h = tt
in_turn sc s d es v (Some Show) Otherwise h = tt
in_turn sc s d es v (Some Step) AtRest h = tt
in_turn sc s d es v (Some Step) Otherwise h = tt
in_turn sc s d es v (Some Restart) AtRest h = tt
in_turn sc s d es v (Some Restart) Otherwise h = tt
in_turn sc s d es v None Accepted h = tt
in_turn sc s d es v None AtRest h = tt
in_turn sc s d es v None Otherwise h = tt

-- ---- states
pub past_prepare : (state t : State) (sent : Bool) → transition_row stc.Prepare state sent ≡ Some t → state ≡ Configuration
past_prepare state t sent h = grind arith

pub past_reset : (state t : State) (sent : Bool) → transition_row stc.Reset state sent ≡ Some t → (is_past state ≡ true) × (is_past t ≡ false)
past_reset state t sent h = (grind arith, grind arith)

pub past_register : (a b c d : ℕ) (state t : State) (sent : Bool) → transition_row (stc.Register a b c d) state sent ≡ Some t → is_past t ≡ true → is_past state ≡ true
past_register a b c d state t sent h e = grind arith

pub past_deregister : (state t : State) (sent : Bool) → transition_row stc.Deregister state sent ≡ Some t → is_past t ≡ true → is_past state ≡ true
past_deregister state t sent h e = grind arith

pub past_configure : (state t : State) (sent : Bool) → transition_row stc.Configure state sent ≡ Some t → is_past t ≡ true → is_past state ≡ true
past_configure state t sent h e = grind arith

pub past_initialize : (state t : State) (sent : Bool) → transition_row stc.Initialize state sent ≡ Some t → is_past t ≡ true → is_past state ≡ true
past_initialize state t sent h e = grind arith

pub past_run : (x : ℤ) (state t : State) (sent : Bool) → transition_row (stc.Run x) state sent ≡ Some t → is_past t ≡ true → is_past state ≡ true
past_run x state t sent h e = grind arith

pub past_step : (n : ℕ) (state t : State) (sent : Bool) → transition_row (stc.DoStep n) state sent ≡ Some t → is_past t ≡ true → is_past state ≡ true
past_step n state t sent h e = grind arith

pub past_outputs : (state t : State) (sent : Bool) → transition_row stc.SendOutputs state sent ≡ Some t → is_past t ≡ true → is_past state ≡ true
past_outputs state t sent h e = grind arith

pub past_stop : (state t : State) (sent : Bool) → transition_row stc.Stop state sent ≡ Some t → is_past t ≡ true → is_past state ≡ true
past_stop state t sent h e = grind arith

pub past_turn : (state : State) → is_past (next_on_turn state 0) ≡ true → is_past state ≡ true
unfolding next_on_turn
past_turn state h = grind arith
