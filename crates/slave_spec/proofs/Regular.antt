-- Outputs lie in their types from INITIALIZED until their run is ended.
use Rattle.std.proofs.Common.{◌≡◌, ℕ, zero, suc, Bool, true, false, not, ◌==◌, ◌&&◌, List, [], ◌∷◌, refl, ap, sym, subst, ◌∙◌, if◌then◌else◌, Option, Some, None, Result, Ok, Err}
use Rattle.std.specs.Prelude.{ℤ}
use Rattle.dcp_types.specs.declared.addresses.Address.{Address}
use Rattle.dcp_types.specs.declared.states.State.{State}
use Rattle.dcp_types.specs.declared.states.State.TheVariants.{Alive, Configuration, Preparing, Prepared, Configuring, Configured, Initializing, Initialized, SendingI, Synchronizing, Synchronized, Running, Computing, Computed, SendingD, Stopping, Stopped, ErrorHandling, ErrorResolved}
use Rattle.dcp_types.specs.declared.error_codes.ErrorCode.{ErrorCode}
use Rattle.dcp_types.specs.declared.error_codes.ErrorCode.TheVariants.{WrongState, InErrorState, NotSupported, UuidMismatch, Version, OpMode}
use Rattle.dcp_types.specs.declared.fault_codes.FaultCode.{FaultCode}
use Rattle.dcp_types.specs.declared.fault_codes.FaultCode.TheVariants.{OutOfRange}
use Rattle.dcp_ends.specs.Events.{Event}
use Rattle.pdu_layout.specs.declared.messages.Stc.{Stc}
use Rattle.pdu_layout.specs.declared.messages.Stc.TheVariants as stc
use Rattle.pdu_layout.specs.declared.messages.Cfg.{Cfg}
use Rattle.pdu_layout.specs.declared.messages.Cfg.TheVariants as cfg
use Rattle.pdu_layout.specs.declared.messages.Inf.{Inf}
use Rattle.pdu_layout.specs.declared.messages.Inf.TheVariants as inf
use Rattle.fixed_models.specs.Steps.{all_fit, outputs, and_then, micro_steps}
use Rattle.fixed_models.specs.Views.{View, moved}
use Rattle.slave_states.specs.Transitions as states
use Rattle.slave_states.specs.Transitions.{transition_row, next_on, next_on_turn, is_barred, is_same, or_wrong}
use Rattle.slave_spec.specs.Payloads.{WiringState, wired_values, brought}
use Rattle.slave_spec.specs.Heard.{Asked, Change, Setting, Question}
use Rattle.slave_spec.specs.Transport.{Session, Before, During, After, Ack, is_register, is_last}
use Rattle.slave_spec.specs.Plants.{SlaveSetup, Plant, start_plant}
use Rattle.slave_spec.specs.Requests.{first_true, register_refusal, refusal, moved_refusal, setting_refusal, body_refusal, is_in_error, is_left_out, accepted, answer, changed_to, set_to, asked_of, state_or, answered_plant, answers}
use Rattle.slave_spec.specs.Turns.{Act, Stay, Wait, Fault, Step, Pass, act, step_act, computing, state_act, is_missed, sent_after, turned, turns, values, brings, is_listening}
use Rattle.slave_spec.specs.Slaves.{machine, slave_after}
use Rattle.slave_spec.specs.Begun.{is_model_begun, is_early, IsRegular, IsRegularIn}
use Rattle.slave_spec.proofs.Enduring.{Endures, Through, enduring}

never : {A : Type 0} → false ≡ true → A
never e = absurd cc

clash : {A : Type 0} (b : Bool) → b ≡ false → b ≡ true → A
clash b e f = never (sym e ∙ f)

-- ---- changes of state

-- where a request leads that neither begins nor ends a session or a run
abbrev Moves : State → Bool → Option State → Type 0
Moves s sent None = Unit {0}
Moves s sent (Some t) = (is_model_begun t sent ≡ true → is_model_begun s sent ≡ true) × (is_early t ≡ true → is_early s ≡ true) × (is_same t Alive ≡ false)

from_registered : (s : State) (sent : Bool) → is_same s Alive ≡ false → Moves s sent (states.registered s)
from_registered Alive sent e = absurd cc
from_registered _ sent e = tt

from_prepared : (s : State) (sent : Bool) → Moves s sent (states.prepared s)
from_prepared Configuration sent = (λ e. never e, λ e. refl, refl)
from_prepared _ sent = tt

from_configured : (s : State) (sent : Bool) → Moves s sent (states.configured s)
from_configured Prepared sent = (λ e. never e, λ e. refl, refl)
from_configured _ sent = tt

from_initialized : (s : State) (sent : Bool) → Moves s sent (states.initialized s sent)
from_initialized Configured true = tt
from_initialized Configured false = (λ e. never e, λ e. never e, refl)
from_initialized _ _ = tt

from_run : (s : State) (sent : Bool) → Moves s sent (states.run s sent)
from_run Configured true = (λ e. refl, λ e. never e, refl)
from_run Configured false = tt
from_run _ _ = tt

from_stepped : (s : State) (sent : Bool) → Moves s sent (states.stepped s)
from_stepped Running sent = (λ e. refl, λ e. never e, refl)
from_stepped _ sent = tt

from_sent : (s : State) (sent : Bool) → Moves s sent (states.sent s)
from_sent Initialized sent = (λ e. refl, λ e. never e, refl)
from_sent Computed sent = (λ e. refl, λ e. never e, refl)
from_sent _ sent = tt

from_stopped : (s : State) (sent : Bool) → Moves s sent (states.stopped s)
from_stopped Running sent = (λ e. refl, λ e. never e, refl)
from_stopped Computed sent = (λ e. refl, λ e. never e, refl)
from_stopped _ sent = tt

-- where a reset leads
abbrev Resets : Option State → Type 0
Resets None = Unit {0}
Resets (Some t) = (is_model_begun t false ≡ false) × (is_same t Alive ≡ false)

from_reset : (s : State) → Resets (states.reset s)
from_reset Stopped = (refl, refl)
from_reset _ = tt

abbrev Leads : Stc → State → Bool → Option State → Type 0
Leads stc.Deregister s sent o = Unit {0}
Leads stc.Reset s sent o = Resets o
Leads request s sent o = Moves s sent o

leads : (request : Stc) (s : State) (sent : Bool) → is_same s Alive ≡ false → Leads request s sent (transition_row request s sent)
leads (stc.Register uuid op_mode major minor) s sent e = from_registered s sent e
leads stc.Deregister s sent e = tt
leads stc.Prepare s sent e = from_prepared s sent
leads stc.Configure s sent e = from_configured s sent
leads stc.Initialize s sent e = from_initialized s sent
leads (stc.Run start_time) s sent e = from_run s sent
leads (stc.DoStep steps) s sent e = from_stepped s sent
leads stc.SendOutputs s sent e = from_sent s sent
leads stc.Stop s sent e = from_stopped s sent
leads stc.Reset s sent e = from_reset s

abbrev AtResult : (Option State → Type 0) → Result State ErrorCode → Type 0
AtResult Q (Err code) = Unit {0}
AtResult Q (Ok t) = Q (Some t)

at_result : (Q : Option State → Type 0) (x y : ErrorCode) (b c : Bool) (o : Option State) → Q o → AtResult Q (if b then Err x else (if c then or_wrong o else Err y))
at_result Q x y true c o q = tt
at_result Q x y false false o q = tt
at_result Q x y false true None q = tt
at_result Q x y false true (Some t) q = q

reached_on : (request : Stc) (s named : State) (sent : Bool) → is_same s Alive ≡ false → AtResult (Leads request s sent) (next_on s request named sent)
unfolding next_on
reached_on request s named sent e =
    at_result (Leads request s sent) InErrorState WrongState (is_barred s request) (is_same named s) (transition_row request s sent) (leads request s sent e)

moved_on : (s : SlaveSetup) (p : Plant) (named : State) (request : Stc) (t : State) → IsRegular p → Leads request p.state p.outputs_sent (Some t) → is_last (Change named request) Ack ≡ false
    → IsRegular (changed_to s p request t)
moved_on s p named stc.Deregister t h l e = absurd cc
moved_on s p named stc.Reset t h l e = record { fit = λ f. clash _ l.0 f; unsent = λ f. refl; registered = l.1 }
moved_on s p named (stc.DoStep n) t h l e = record { fit = λ f. h.fit (l.0 f); unsent = λ f. h.unsent (l.1 f); registered = l.2 }
moved_on s p named (stc.Register uuid op_mode major minor) t h l e = record { fit = λ f. h.fit (l.0 f); unsent = λ f. h.unsent (l.1 f); registered = l.2 }
moved_on s p named stc.Prepare t h l e = record { fit = λ f. h.fit (l.0 f); unsent = λ f. h.unsent (l.1 f); registered = l.2 }
moved_on s p named stc.Configure t h l e = record { fit = λ f. h.fit (l.0 f); unsent = λ f. h.unsent (l.1 f); registered = l.2 }
moved_on s p named stc.Initialize t h l e = record { fit = λ f. h.fit (l.0 f); unsent = λ f. h.unsent (l.1 f); registered = l.2 }
moved_on s p named (stc.Run start_time) t h l e = record { fit = λ f. h.fit (l.0 f); unsent = λ f. h.unsent (l.1 f); registered = l.2 }
moved_on s p named stc.SendOutputs t h l e = record { fit = λ f. h.fit (l.0 f); unsent = λ f. h.unsent (l.1 f); registered = l.2 }
moved_on s p named stc.Stop t h l e = record { fit = λ f. h.fit (l.0 f); unsent = λ f. h.unsent (l.1 f); registered = l.2 }

moved_by : (s : SlaveSetup) (p : Plant) (named : State) (request : Stc) (r : Result State ErrorCode) → IsRegular p → AtResult (Leads request p.state p.outputs_sent) r
    → moved_refusal p request r ≡ None → is_last (Change named request) Ack ≡ false → IsRegular (changed_to s p request (state_or p.state r))
moved_by s p named request (Err code) h l n e = absurd cc
moved_by s p named request (Ok t) h l n e = moved_on s p named request t h l e

-- ---- settings and questions

elsewhere : (t : State) (sent : Bool) → is_model_begun t sent ≡ true → is_same t Configuration ≡ false
elsewhere Configuration sent f = never f
elsewhere _ sent f = refl

unset : {A : Type 0} (e b c : Bool) (r : Option ErrorCode) → c ≡ false
    → (if e then Some InErrorState else (if b then Some NotSupported else (if c then r else Some WrongState))) ≡ None → A
unset true b c r f n = absurd cc
unset false true c r f n = absurd cc
unset false false true r f n = absurd cc
unset false false false r f n = absurd cc

same_fields : (p q : Plant) → IsRegular p → q.state ≡ p.state → q.outputs_sent ≡ p.outputs_sent → q.model ≡ p.model → IsRegular q
same_fields p q h a b c = record {
  fit = λ f. subst (λ (m : View). all_fit m.types (values m) ≡ true) (sym c) (h.fit (ap (λ (t : State). is_model_begun t p.outputs_sent) (sym a) ∙ ap (λ (x : Bool). is_model_begun q.state x) (sym b) ∙ f));
  unsent = λ f. b ∙ h.unsent (ap is_early (sym a) ∙ f);
  registered = ap (λ (t : State). is_same t Alive) a ∙ h.registered;
}

set_on : (s : SlaveSetup) (p : Plant) (body : Cfg) → IsRegular p → setting_refusal s p body ≡ None → IsRegular (set_to s p body)
set_on s p (cfg.TimeRes a b) h e = same_fields p _ h refl refl refl
set_on s p (cfg.Steps a b) h e = same_fields p _ h refl refl refl
set_on s p (cfg.Input a b c kind) h e = same_fields p _ h refl refl refl
set_on s p (cfg.Output a b c) h e = same_fields p _ h refl refl refl
set_on s p (cfg.Target net) h e = same_fields p _ h refl refl refl
set_on s p (cfg.Source net) h e = same_fields p _ h refl refl refl
set_on s p (cfg.Tunable a b c kind) h e = same_fields p _ h refl refl refl
set_on s p (cfg.ParamNet a b c d) h e = same_fields p _ h refl refl refl
set_on s p (cfg.Logging a b c) h e = same_fields p _ h refl refl refl
set_on s p (cfg.Scope a b) h e = same_fields p _ h refl refl refl
set_on s p cfg.Clear h e = record {
  fit = λ f. unset (is_in_error p.state) (is_left_out cfg.Clear) (is_same p.state Configuration) (body_refusal s p cfg.Clear) (elsewhere p.state p.outputs_sent f) e;
  unsent = h.unsent;
  registered = h.registered;
}
set_on s p (cfg.Parameter vr kind value) h e = record {
  fit = λ f. unset (is_in_error p.state) (is_left_out (cfg.Parameter vr kind value)) (is_same p.state Configuration) (body_refusal s p (cfg.Parameter vr kind value)) (elsewhere p.state p.outputs_sent f) e;
  unsent = h.unsent;
  registered = h.registered;
}

asked_on : (p : Plant) (q : Inf) → IsRegular p → IsRegular (asked_of p q)
asked_on p inf.State h = h
asked_on p inf.Error h = h
asked_on p (inf.Log category most) h = same_fields p _ h refl refl refl

-- ---- a request that was taken

accepted_on : (s : SlaveSetup) (asked : Asked) (p : Plant) → IsRegular p → refusal s p asked ≡ None → is_last asked (answer p asked) ≡ false → IsRegular (accepted s p asked)
unfolding refusal accepted answer
accepted_on s (Change named request) p h n e =
    moved_by s p named request (next_on p.state request named p.outputs_sent) h (reached_on request p.state named p.outputs_sent h.registered) n e
accepted_on s (Setting body) p h n e = set_on s p body h n
accepted_on s (Question q) p h n e = asked_on p q h

answered_by : (s : SlaveSetup) (asked : Asked) (p : Plant) (r : Option ErrorCode) → refusal s p asked ≡ r → IsRegular p → is_last asked (answered_plant s p asked r).answer ≡ false
    → IsRegular (answered_plant s p asked r).after
answered_by s asked p (Some code) n h e = same_fields p _ h refl refl refl
answered_by s asked p None n h e = same_fields (accepted s p asked) _ (accepted_on s asked p h n e) refl refl refl

-- ---- the register that begins a session

named_alive : (uuid op_mode major minor : ℕ) (named : State) → is_same named Alive ≡ true → next_on Alive (stc.Register uuid op_mode major minor) named false ≡ Ok Configuration
unfolding next_on
named_alive uuid op_mode major minor named e =
    ap (λ (b : Bool). (if b then or_wrong (states.registered Alive) else Err WrongState)) e

first_holds : (b : Bool) (more : List (Bool × ErrorCode)) → first_true ((not b, WrongState) ∷ more) ≡ None → b ≡ true
first_holds true more e = refl
first_holds false more e = absurd cc

first_by : (s : SlaveSetup) (asked : Asked) (r : Option ErrorCode) → r ≡ None → IsRegular (accepted s (start_plant s) asked) → IsRegular (answered_plant s (start_plant s) asked r).after
first_by s asked None e k = same_fields (accepted s (start_plant s) asked) _ k refl refl refl
first_by s asked (Some code) e k = absurd cc

none_refused : (s : SlaveSetup) (uuid op_mode major minor : ℕ) (named : State) → is_same named Alive ≡ true → refusal s (start_plant s) (Change named (stc.Register uuid op_mode major minor)) ≡ None
unfolding refusal
none_refused s uuid op_mode major minor named e =
    ap (λ (r : Result State ErrorCode). moved_refusal (start_plant s) (stc.Register uuid op_mode major minor) r) (named_alive uuid op_mode major minor named e)

register_accepted : (s : SlaveSetup) (uuid op_mode major minor : ℕ) (named : State) → is_same named Alive ≡ true → IsRegular (accepted s (start_plant s) (Change named (stc.Register uuid op_mode major minor)))
unfolding accepted
register_accepted s uuid op_mode major minor named e =
    subst (λ (r : Result State ErrorCode). IsRegular (changed_to s (start_plant s) (stc.Register uuid op_mode major minor) (state_or Alive r)))
    (sym (named_alive uuid op_mode major minor named e)) (record { fit = λ f. never f; unsent = λ f. refl; registered = refl })

first_on : (s : SlaveSetup) (asked : Asked) → is_register asked ≡ true → register_refusal s.desc.uuid asked ≡ None → IsRegular (answers s asked (start_plant s)).after
first_on s (Change named (stc.Register uuid op_mode major minor)) e n =
    let alive = first_holds (is_same named Alive)
    ((not (uuid == s.desc.uuid), UuidMismatch) ∷ (not ((major == 1) && (minor == 0)), Version) ∷ (not (op_mode == 2), OpMode) ∷ []) n in
    first_by s (Change named (stc.Register uuid op_mode major minor)) _ (none_refused s uuid op_mode major minor named alive) (register_accepted s uuid op_mode major minor named alive)
first_on s (Change named request) e n = never e
first_on s (Setting body) e n = never e
first_on s (Question q) e n = never e

-- ---- turns and data

abbrev Acted : Plant → State → Bool → Act → Type 0
Acted p t sent (Step state) = all_fit p.model.types (values (moved p.model state)) ≡ true
Acted p t sent Pass =
    (is_model_begun (next_on_turn t 0) (sent_after t sent) ≡ true → all_fit p.model.types (values p.model) ≡ true)
    × (is_early (next_on_turn t 0) ≡ true → sent_after t sent ≡ false)
    × (is_same (next_on_turn t 0) Alive ≡ false)
Acted p t sent Stay = Unit {0}
Acted p t sent (Wait left) = Unit {0}
Acted p t sent (Fault code) = Unit {0}

stepped_within : (p : Plant) (t : State) (sent : Bool) (x : List ℤ) (b : Bool) → all_fit p.model.types (values (moved p.model x)) ≡ b → Acted p t sent (step_act (if b then Ok x else Err OutOfRange))
stepped_within p t sent x true e = e
stepped_within p t sent x false e = tt

stepped_by : (p : Plant) (t : State) (sent : Bool) (r : Result (List ℤ) FaultCode)
    → Acted p t sent (step_act (and_then r (λ x. (if all_fit p.model.types (outputs p.model.kind p.model.parameters x) then Ok x else Err OutOfRange))))
stepped_by p t sent (Err code) = tt
stepped_by p t sent (Ok x) = stepped_within p t sent x (all_fit p.model.types (outputs p.model.kind p.model.parameters x)) refl

computed_by : (s : SlaveSetup) (p : Plant) (t : State) (sent : Bool) (left : ℕ) → Acted p t sent (computing s p left)
computed_by s p t sent (suc left) = tt
computed_by s p t sent zero = stepped_by p t sent (micro_steps s.micro p.model.kind p.model.parameters p.model.state (wired_values s.desc p.wires))

initialized_by : (p : Plant) (sent b : Bool) → all_fit p.model.types (values p.model) ≡ b → Acted p Initializing sent (if b then Pass else Fault OutOfRange)
unfolding next_on_turn
initialized_by p sent true e = (λ f. e, λ f. never f, refl)
initialized_by p sent false e = tt

state_acted : (s : SlaveSetup) (p : Plant) (t : State) (sent : Bool) → (is_model_begun t sent ≡ true → all_fit p.model.types (values p.model) ≡ true) → (is_early t ≡ true → sent ≡ false)
    → Acted p t sent (state_act s p t)
unfolding next_on_turn
state_acted s p Initializing sent fit early = initialized_by p sent (all_fit p.model.types (values p.model)) refl
state_acted s p Computing sent fit early = computed_by s p Computing sent p.busy_left
state_acted s p Preparing sent fit early = (λ f. never f, λ f. early refl, refl)
state_acted s p Configuring sent fit early = (λ f. clash sent (early refl) f, λ f. never f, refl)
state_acted s p SendingI sent fit early = (λ f. fit refl, λ f. never f, refl)
state_acted s p Synchronizing sent fit early = (λ f. fit refl, λ f. never f, refl)
state_acted s p SendingD sent fit early = (λ f. fit refl, λ f. never f, refl)
state_acted s p Stopping sent fit early = (λ f. fit refl, λ f. never f, refl)
state_acted s p ErrorHandling sent fit early = (λ f. never f, λ f. never f, refl)
state_acted s p _ sent fit early = tt

missed_or : (p : Plant) (t : State) (sent b : Bool) (code : FaultCode) (a : Act) → Acted p t sent a → Acted p t sent (if b then Fault code else a)
missed_or p t sent true code a h = tt
missed_or p t sent false code a h = h

acted : (s : SlaveSetup) (quiet : ℕ) (p : Plant) → IsRegular p → Acted p p.state p.outputs_sent (act s quiet p)
unfolding act
acted s quiet p h = missed_or p p.state p.outputs_sent (is_missed s.desc p.state quiet) _ (state_act s p p.state) (state_acted s p p.state p.outputs_sent h.fit h.unsent)

turned_by : (s : SlaveSetup) (p : Plant) (a : Act) → Acted p p.state p.outputs_sent a → IsRegular p → IsRegular (turned s p a).after
turned_by s p Stay k h = h
turned_by s p (Wait left) k h = same_fields p _ h refl refl refl
turned_by s p (Fault code) k h = record { fit = λ f. never f; unsent = λ f. never f; registered = refl }
turned_by s p (Step state) k h = record { fit = λ f. k; unsent = λ f. never f; registered = refl }
turned_by s p Pass k h = record { fit = k.0; unsent = k.1; registered = k.2 }

heeded : (p : Plant) (b : Bool) (w : WiringState) → IsRegular p → IsRegular (if b then record p { wires = w } else p)
heeded p true w h = same_fields p _ h refl refl refl
heeded p false w h = h

regular_endures : (s : SlaveSetup) → Endures (machine s) IsRegular
regular_endures s = record {
  first = first_on s;
  answers = λ asked p h e. answered_by s asked p (refusal s p asked) refl h e;
  turns = λ quiet p h. turned_by s p (act s quiet p) (acted s quiet p h) h;
  brings = λ from number id payload p h. heeded p (is_listening p.state) (brought s.desc p.wires from number id payload p.steps) h;
}

through_is : (s : SlaveSetup) (session : Session) (p : Plant) → Through (machine s) IsRegular session p → IsRegularIn s session p
through_is s Before p h = h
through_is s (During master id) p h = h
through_is s (After master id) p h = tt

pub regular_after : (s : SlaveSetup) (events : List Event) → IsRegularIn s (slave_after s events).session (slave_after s events).inner
regular_after s events = through_is s (slave_after s events).session (slave_after s events).inner (enduring (machine s) IsRegular (regular_endures s) events)
