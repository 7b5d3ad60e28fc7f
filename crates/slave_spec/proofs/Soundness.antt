-- Outputs that are sent lie in their types, and a step that is computed is counted.
use Rattle.std.proofs.Common.{◌≡◌, ℕ, zero, suc, ◌-◌, ◌^◌, ◌<◌, Bool, true, false, ◌==◌, ◌&&◌, not, nat_lt, List, [], ◌∷◌, refl, ap, sym, subst, ◌∙◌, arith, if◌then◌else◌, Option, Some, None, Result, Ok, Err}
use Rattle.std.specs.Prelude.{ℤ}
use Rattle.std.proofs.lemmas.Bool.{and_parts, ltb-true}
use Rattle.dcp_types.specs.declared.addresses.Address.{Address}
use Rattle.dcp_types.specs.declared.states.State.{State}
use Rattle.dcp_types.specs.declared.states.State.TheVariants.{Alive, Configuration, Preparing, Prepared, Configuring, Configured, Initializing, Initialized, SendingI, Synchronizing, Synchronized, Running, Computing, Computed, SendingD, Stopping, Stopped, ErrorHandling, ErrorResolved}
use Rattle.dcp_types.specs.declared.error_codes.ErrorCode.{ErrorCode}
use Rattle.dcp_types.specs.declared.error_codes.ErrorCode.TheVariants.{BadSteps, InputsMissing, WrongState, InErrorState, NotSupported}
use Rattle.dcp_types.specs.declared.fault_codes.FaultCode.{FaultCode}
use Rattle.dcp_types.specs.declared.fault_codes.FaultCode.TheVariants.{OutOfRange}
use Rattle.dcp_types.specs.declared.data_types.DataType.{DataType}
use Rattle.dcp_ends.specs.Events.{Event}
use Rattle.pdu_layout.specs.declared.messages.Stc.{Stc}
use Rattle.pdu_layout.specs.declared.messages.Stc.TheVariants as stc
use Rattle.pdu_layout.specs.declared.messages.Cfg.{Cfg}
use Rattle.pdu_layout.specs.declared.messages.Cfg.TheVariants as cfg
use Rattle.pdu_layout.specs.declared.messages.Inf.{Inf}
use Rattle.pdu_layout.specs.declared.messages.Inf.TheVariants as inf
use Rattle.fixed_models.specs.declared.kinds.Kind.{Kind}
use Rattle.fixed_models.specs.Steps.{all_fit, outputs, and_then, micro_steps}
use Rattle.fixed_models.specs.Views.{View, moved, step_of}
use Rattle.slave_states.specs.Transitions as states
use Rattle.slave_states.specs.Transitions.{transition_row, next_on, next_on_turn, is_passing, is_barred, is_same, or_wrong}
use Rattle.slave_spec.specs.Payloads.{WiringState, wired_values, brought, ready}
use Rattle.slave_spec.specs.Heard.{Asked, Change, Setting, Question}
use Rattle.slave_spec.specs.Plants.{SlaveSetup, Plant}
use Rattle.slave_spec.specs.Requests.{first_true, refusal, moved_refusal, change_refusal, setting_refusal, body_refusal, is_in_error, is_left_out, accepted, changed_to, set_to, asked_of, state_or, answered_plant, answers}
use Rattle.slave_spec.specs.Turns.{Act, Stay, Wait, Fault, Step, Pass, act, step_act, computing, state_act, is_missed, turned, turns, values, brings, is_listening, counted}
use Rattle.slave_spec.specs.Slaves.{machine, slave_after}
use Rattle.slave_spec.specs.Sound.{IsSoundPlant, has_outputs}
use Rattle.slave_spec.proofs.Lasting.{Keeps, lasting}

never : {A : Type 0} → false ≡ true → A
never e = absurd cc

-- A state with outputs is reached by a request from one with outputs alone.
abbrev Leads : State → Option State → Type 0
Leads s None = Unit {0}
Leads s (Some t) = has_outputs t ≡ true → has_outputs s ≡ true

leads_nowhere : (s : State) (b : Bool) → Leads s (if b then None else Some Alive)
leads_nowhere s true = tt
leads_nowhere s false = λ e. never e

from_deregistered : (s : State) → Leads s (states.deregistered s)
from_deregistered Alive = tt
from_deregistered s = leads_nowhere s (is_passing s)

from_registered : (s : State) → Leads s (states.registered s)
from_registered Alive = λ e. never e
from_registered _ = tt

from_prepared : (s : State) → Leads s (states.prepared s)
from_prepared Configuration = λ e. never e
from_prepared _ = tt

from_configured : (s : State) → Leads s (states.configured s)
from_configured Prepared = λ e. never e
from_configured _ = tt

from_initialized : (s : State) (b : Bool) → Leads s (states.initialized s b)
from_initialized Configured true = tt
from_initialized Configured false = λ e. never e
from_initialized _ _ = tt

from_run : (s : State) (b : Bool) → Leads s (states.run s b)
from_run Configured true = λ e. never e
from_run Configured false = tt
from_run _ _ = tt

from_stepped : (s : State) → Leads s (states.stepped s)
from_stepped Running = λ e. never e
from_stepped _ = tt

from_sent : (s : State) → Leads s (states.sent s)
from_sent Initialized = λ e. refl
from_sent Computed = λ e. refl
from_sent _ = tt

from_stopped : (s : State) → Leads s (states.stopped s)
from_stopped Running = λ e. never e
from_stopped Computed = λ e. never e
from_stopped _ = tt

from_reset : (s : State) → Leads s (states.reset s)
from_reset Stopped = λ e. never e
from_reset _ = tt

leads : (request : Stc) (s : State) (b : Bool) → Leads s (transition_row request s b)
leads (stc.Register uuid op_mode major minor) s b = from_registered s
leads stc.Deregister s b = from_deregistered s
leads stc.Prepare s b = from_prepared s
leads stc.Configure s b = from_configured s
leads stc.Initialize s b = from_initialized s b
leads (stc.Run start_time) s b = from_run s b
leads (stc.DoStep steps) s b = from_stepped s
leads stc.SendOutputs s b = from_sent s
leads stc.Stop s b = from_stopped s
leads stc.Reset s b = from_reset s

-- COMPUTING is reached by the request for a step alone.
abbrev NotComputing : Option State → Type 0
NotComputing None = Unit {0}
NotComputing (Some t) = is_same t Computing ≡ false

idle_nowhere : (b : Bool) → NotComputing (if b then None else Some Alive)
idle_nowhere true = tt
idle_nowhere false = refl

idle_deregistered : (s : State) → NotComputing (states.deregistered s)
idle_deregistered Alive = tt
idle_deregistered s = idle_nowhere (is_passing s)

idle_registered : (s : State) → NotComputing (states.registered s)
idle_registered Alive = refl
idle_registered _ = tt

idle_prepared : (s : State) → NotComputing (states.prepared s)
idle_prepared Configuration = refl
idle_prepared _ = tt

idle_configured : (s : State) → NotComputing (states.configured s)
idle_configured Prepared = refl
idle_configured _ = tt

idle_initialized : (s : State) (b : Bool) → NotComputing (states.initialized s b)
idle_initialized Configured true = tt
idle_initialized Configured false = refl
idle_initialized _ _ = tt

idle_run : (s : State) (b : Bool) → NotComputing (states.run s b)
idle_run Configured true = refl
idle_run Configured false = tt
idle_run _ _ = tt

idle_sent : (s : State) → NotComputing (states.sent s)
idle_sent Initialized = refl
idle_sent Computed = refl
idle_sent _ = tt

idle_stopped : (s : State) → NotComputing (states.stopped s)
idle_stopped Running = refl
idle_stopped Computed = refl
idle_stopped _ = tt

-- A reset leads to CONFIGURATION alone.
abbrev Bare : Option State → Type 0
Bare None = Unit {0}
Bare (Some t) = (has_outputs t ≡ false) × (is_same t Computing ≡ false)

bare_reset : (s : State) → Bare (states.reset s)
bare_reset Stopped = (refl, refl)
bare_reset _ = tt

abbrev Idle : Stc → Option State → Type 0
Idle (stc.DoStep steps) o = Unit {0}
Idle stc.Reset o = Bare o
Idle request o = NotComputing o

idle : (request : Stc) (s : State) (b : Bool) → Idle request (transition_row request s b)
idle (stc.Register uuid op_mode major minor) s b = idle_registered s
idle stc.Deregister s b = idle_deregistered s
idle stc.Prepare s b = idle_prepared s
idle stc.Configure s b = idle_configured s
idle stc.Initialize s b = idle_initialized s b
idle (stc.Run start_time) s b = idle_run s b
idle (stc.DoStep steps) s b = tt
idle stc.SendOutputs s b = idle_sent s
idle stc.Stop s b = idle_stopped s
idle stc.Reset s b = bare_reset s

-- the same of the state right after a request
abbrev Reached : Stc → State → Result State ErrorCode → Type 0
Reached request s (Err code) = Unit {0}
Reached request s (Ok t) = Leads s (Some t) × Idle request (Some t)

reached_by : (request : Stc) (s : State) (x y : ErrorCode) (b c : Bool) (o : Option State) → Leads s o → Idle request o
    → Reached request s (if b then Err x else (if c then or_wrong o else Err y))
reached_by request s x y true c o l i = tt
reached_by request s x y false false o l i = tt
reached_by request s x y false true None l i = tt
reached_by request s x y false true (Some t) l i = (l, i)

reached_on : (request : Stc) (s named : State) (b : Bool) → Reached request s (next_on s request named b)
unfolding next_on
reached_on request s named b =
    reached_by request s InErrorState WrongState (is_barred s request) (is_same named s) (transition_row request s b) (leads request s b) (idle request s b)

-- a step that is not refused is counted
not_bad : (n steps : ℕ) (more : List (Bool × ErrorCode)) → first_true ((not ((n == 1) && nat_lt steps (2 ^ 32 - 1)), BadSteps) ∷ more) ≡ None → steps < 2 ^ 32 - 1
not_bad n steps more e = ltb-true steps (2 ^ 32 - 1) (and_parts (n == 1) (nat_lt steps (2 ^ 32 - 1)) (holds _ e)).1
  where
    holds : (b : Bool) → first_true ((not b, BadSteps) ∷ more) ≡ None → b ≡ true
    holds true e = refl
    holds false e = absurd cc

clash : {A : Type 0} (b : Bool) → b ≡ false → b ≡ true → A
clash b e f = never (sym e ∙ f)

moved_on : (s : SlaveSetup) (p : Plant) (request : Stc) (t : State) → IsSoundPlant p → Leads p.state (Some t) → Idle request (Some t) → change_refusal p request ≡ None
    → IsSoundPlant (changed_to s p request t)
moved_on s p (stc.DoStep n) t h l i e = record { fit = λ f. h.fit (l f); below = λ f. not_bad n p.steps ((not (ready p.wires p.steps), InputsMissing) ∷ []) e }
moved_on s p stc.Reset t h l i e = record { fit = λ f. clash _ i.0 f; below = λ f. clash _ i.1 f }
moved_on s p (stc.Register uuid op_mode major minor) t h l i e = record { fit = λ f. h.fit (l f); below = λ f. clash _ i f }
moved_on s p stc.Deregister t h l i e = record { fit = λ f. h.fit (l f); below = λ f. clash _ i f }
moved_on s p stc.Prepare t h l i e = record { fit = λ f. h.fit (l f); below = λ f. clash _ i f }
moved_on s p stc.Configure t h l i e = record { fit = λ f. h.fit (l f); below = λ f. clash _ i f }
moved_on s p stc.Initialize t h l i e = record { fit = λ f. h.fit (l f); below = λ f. clash _ i f }
moved_on s p (stc.Run start_time) t h l i e = record { fit = λ f. h.fit (l f); below = λ f. clash _ i f }
moved_on s p stc.SendOutputs t h l i e = record { fit = λ f. h.fit (l f); below = λ f. clash _ i f }
moved_on s p stc.Stop t h l i e = record { fit = λ f. h.fit (l f); below = λ f. clash _ i f }

moved_by : (s : SlaveSetup) (p : Plant) (request : Stc) (r : Result State ErrorCode) → IsSoundPlant p → Reached request p.state r → moved_refusal p request r ≡ None
    → IsSoundPlant (changed_to s p request (state_or p.state r))
moved_by s p request (Err code) h l e = absurd cc
moved_by s p request (Ok t) h l e = moved_on s p request t h l.0 l.1 e

-- a setting is accepted in CONFIGURATION alone
unset : {A : Type 0} (t : State) (b : Bool) (r : Option ErrorCode) → has_outputs t ≡ true
    → (if is_in_error t then Some InErrorState else (if b then Some NotSupported else (if is_same t Configuration then r else Some WrongState))) ≡ None → A
unset Initialized true r f e = absurd cc
unset Initialized false r f e = absurd cc
unset SendingI true r f e = absurd cc
unset SendingI false r f e = absurd cc
unset Computed true r f e = absurd cc
unset Computed false r f e = absurd cc
unset SendingD true r f e = absurd cc
unset SendingD false r f e = absurd cc
unset _ b r f e = never f

set_on : (s : SlaveSetup) (p : Plant) (body : Cfg) → IsSoundPlant p → setting_refusal s p body ≡ None → IsSoundPlant (set_to s p body)
set_on s p (cfg.TimeRes a b) h e = record { fit = h.fit; below = h.below }
set_on s p (cfg.Steps a b) h e = record { fit = h.fit; below = h.below }
set_on s p (cfg.Input a b c kind) h e = record { fit = h.fit; below = h.below }
set_on s p (cfg.Output a b c) h e = record { fit = h.fit; below = h.below }
set_on s p (cfg.Target net) h e = record { fit = h.fit; below = h.below }
set_on s p (cfg.Source net) h e = record { fit = h.fit; below = h.below }
set_on s p (cfg.Tunable a b c kind) h e = record { fit = h.fit; below = h.below }
set_on s p (cfg.ParamNet a b c d) h e = record { fit = h.fit; below = h.below }
set_on s p (cfg.Logging a b c) h e = record { fit = h.fit; below = h.below }
set_on s p (cfg.Scope a b) h e = record { fit = h.fit; below = h.below }
set_on s p cfg.Clear h e = record { fit = λ f. unset p.state (is_left_out cfg.Clear) (body_refusal s p cfg.Clear) f e; below = h.below }
set_on s p (cfg.Parameter vr kind value) h e =
    record { fit = λ f. unset p.state (is_left_out (cfg.Parameter vr kind value)) (body_refusal s p (cfg.Parameter vr kind value)) f e; below = h.below }

asked_on : (p : Plant) (q : Inf) → IsSoundPlant p → IsSoundPlant (asked_of p q)
asked_on p inf.State h = h
asked_on p inf.Error h = h
asked_on p (inf.Log category most) h = record { fit = h.fit; below = h.below }

accepted_on : (s : SlaveSetup) (asked : Asked) (p : Plant) → IsSoundPlant p → refusal s p asked ≡ None → IsSoundPlant (accepted s p asked)
unfolding refusal accepted
accepted_on s (Change named request) p h e =
    moved_by s p request (next_on p.state request named p.outputs_sent) h (reached_on request p.state named p.outputs_sent) e
accepted_on s (Setting body) p h e = set_on s p body h e
accepted_on s (Question q) p h e = asked_on p q h

answered_by : (s : SlaveSetup) (asked : Asked) (p : Plant) (r : Option ErrorCode) → refusal s p asked ≡ r → IsSoundPlant p → IsSoundPlant (answered_plant s p asked r).after
answered_by s asked p (Some code) e h = record { fit = h.fit; below = h.below }
answered_by s asked p None e h = let k : IsSoundPlant (accepted s p asked) = accepted_on s asked p h e in record { fit = k.fit; below = k.below }

-- what a turn does leaves outputs that fit, where outputs are to be sent
abbrev Acted : Plant → State → Act → Type 0
Acted p t (Step state) = all_fit p.model.types (values (moved p.model state)) ≡ true
Acted p t Pass = (has_outputs (next_on_turn t 0) ≡ true → all_fit p.model.types (values p.model) ≡ true) × (is_same (next_on_turn t 0) Computing ≡ false)
Acted p t Stay = Unit {0}
Acted p t (Wait left) = Unit {0}
Acted p t (Fault code) = Unit {0}

stepped_within : (p : Plant) (t : State) (x : List ℤ) (b : Bool) → all_fit p.model.types (values (moved p.model x)) ≡ b → Acted p t (step_act (if b then Ok x else Err OutOfRange))
stepped_within p t x true e = e
stepped_within p t x false e = tt

stepped_by : (p : Plant) (t : State) (r : Result (List ℤ) FaultCode)
    → Acted p t (step_act (and_then r (λ x. (if all_fit p.model.types (outputs p.model.kind p.model.parameters x) then Ok x else Err OutOfRange))))
stepped_by p t (Err code) = tt
stepped_by p t (Ok x) = stepped_within p t x (all_fit p.model.types (outputs p.model.kind p.model.parameters x)) refl

computed_by : (s : SlaveSetup) (p : Plant) (t : State) (left : ℕ) → Acted p t (computing s p left)
computed_by s p t (suc left) = tt
computed_by s p t zero = stepped_by p t (micro_steps s.micro p.model.kind p.model.parameters p.model.state (wired_values s.desc p.wires))

initialized_by : (p : Plant) (b : Bool) → all_fit p.model.types (values p.model) ≡ b → Acted p Initializing (if b then Pass else Fault OutOfRange)
unfolding next_on_turn
initialized_by p true e = (λ f. e, refl)
initialized_by p false e = tt

state_acted : (s : SlaveSetup) (p : Plant) (t : State) → Acted p t (state_act s p t)
unfolding next_on_turn
state_acted s p Initializing = initialized_by p (all_fit p.model.types (values p.model)) refl
state_acted s p Computing = computed_by s p Computing p.busy_left
state_acted s p Alive = tt
state_acted s p Configuration = tt
state_acted s p Preparing = (λ f. never f, refl)
state_acted s p Prepared = tt
state_acted s p Configuring = (λ f. never f, refl)
state_acted s p Configured = tt
state_acted s p Initialized = tt
state_acted s p SendingI = (λ f. never f, refl)
state_acted s p Synchronizing = (λ f. never f, refl)
state_acted s p Synchronized = tt
state_acted s p Running = tt
state_acted s p Computed = tt
state_acted s p SendingD = (λ f. never f, refl)
state_acted s p Stopping = (λ f. never f, refl)
state_acted s p Stopped = tt
state_acted s p ErrorHandling = (λ f. never f, refl)
state_acted s p ErrorResolved = tt

missed_or : (p : Plant) (t : State) (b : Bool) (code : FaultCode) (a : Act) → Acted p t a → Acted p t (if b then Fault code else a)
missed_or p t true code a h = tt
missed_or p t false code a h = h

acted : (s : SlaveSetup) (quiet : ℕ) (p : Plant) → Acted p p.state (act s quiet p)
unfolding act
acted s quiet p = missed_or p p.state (is_missed s.desc p.state quiet) _ (state_act s p p.state) (state_acted s p p.state)

turned_by : (s : SlaveSetup) (p : Plant) (a : Act) → Acted p p.state a → IsSoundPlant p → IsSoundPlant (turned s p a).after
turned_by s p Stay k h = h
turned_by s p (Wait left) k h = record { fit = h.fit; below = h.below }
turned_by s p (Fault code) k h = record { fit = λ f. never f; below = λ f. never f }
turned_by s p (Step state) k h = record { fit = λ f. k; below = λ f. never f }
turned_by s p Pass k h = record { fit = k.0; below = λ f. clash _ k.1 f }

heeded : (p : Plant) (b : Bool) (w : WiringState) → IsSoundPlant p → IsSoundPlant (if b then record p { wires = w } else p)
heeded p true w h = record { fit = h.fit; below = h.below }
heeded p false w h = h

sound_keeps : (s : SlaveSetup) → Keeps (machine s) IsSoundPlant
sound_keeps s = record {
  start = record { fit = λ f. never f; below = λ f. never f };
  answers = λ asked p h. answered_by s asked p (refusal s p asked) refl h;
  turns = λ quiet p h. turned_by s p (act s quiet p) (acted s quiet p) h;
  brings = λ from number id payload p h. heeded p (is_listening p.state) (brought s.desc p.wires from number id payload p.steps) h;
}

pub sound_after : (s : SlaveSetup) (events : List Event) → IsSoundPlant (slave_after s events).inner
sound_after s events = lasting (machine s) IsSoundPlant (sound_keeps s) events
