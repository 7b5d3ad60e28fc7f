-- What a slave refuses of the plan: nothing but where it is in error, and a step whose inputs are missing.
use Rattle.std.proofs.Common.{◌≡◌, ℕ, zero, suc, ◌-◌, ◌^◌, ◌<◌, Bool, true, false, if◌then◌else◌, ◌⊎◌, inl, inr, Option, Some, None, Result, Ok, Err, List, [], ◌∷◌, refl, sym, ap, ◌∙◌, subst}
use Rattle.std.specs.Prelude.{◌==◌, ◌&&◌, not, nat_lt, slice_get, pos}
use Rattle.std.proofs.lemmas.Bool.{lt-ltb}
use Rattle.dcp_types.specs.Codes.{error_code}
use Rattle.dcp_types.specs.declared.error_codes.ErrorCode.{ErrorCode}
use Rattle.dcp_types.specs.declared.error_codes.ErrorCode.TheVariants.{InErrorState, IncompleteConfig, BadSteps, InputsMissing, WrongState, NotSupported}
use Rattle.dcp_types.specs.declared.states.State.{State}
use Rattle.dcp_types.specs.declared.states.State.TheVariants.{Alive, Configuration, Preparing, Prepared, Configuring, Configured, Initializing, Initialized, SendingI, Synchronizing, Synchronized, Running, Computing, Computed, SendingD, Stopping, Stopped, ErrorHandling, ErrorResolved}
use Rattle.pdu_layout.specs.declared.messages.Stc.{Stc}
use Rattle.pdu_layout.specs.declared.messages.Stc.TheVariants as stc
use Rattle.pdu_layout.specs.declared.messages.Cfg.{Cfg}
use Rattle.slave_states.specs.Transitions.{next_on, next_on_turn, is_same}
use Rattle.slave_spec.specs.Changes.{complete}
use Rattle.slave_spec.specs.Payloads.{ready}
use Rattle.slave_spec.specs.Refusals.{refused_unless}
use Rattle.slave_spec.specs.declared.words.SlaveSetup.{SlaveSetup}
use Rattle.slave_spec.specs.declared.words.Asked.{Asked}
use Rattle.slave_spec.specs.declared.words.Asked.TheVariants as words
use Rattle.slave_spec.specs.Transport as transport
use Rattle.slave_spec.specs.Plants.{Plant, start_plant}
use Rattle.slave_spec.specs.Requests.{is_in_error, is_left_out, first_true, moved_refusal, change_refusal, body_refusal, refusal, answer, answered_plant, answers}
use Rattle.slave_laws.specs.Model.Stages.{reached_by_turns}
use Rattle.master_spec.specs.declared.requests.Request.{Request}
use Rattle.master_spec.specs.declared.requests.Request.TheVariants.{Change, Configure, AskState, AskError}
use Rattle.master_spec.specs.declared.requests.Answer.TheVariants.{Ack, Nack, StateAck, ErrorAck}
use Rattle.master_spec.specs.declared.tasks.Task.{Task}
use Rattle.master_spec.specs.declared.tasks.Task.TheVariants as tasks
use Rattle.master_spec.specs.Tasks.{requests_of, is_by_list, asks_step}
use Rattle.master_log_laws.proofs.Phases.Mains.{is_main_request}
use Rattle.master_laws.proofs.PlanOrder.Hearing.{asked_for}
use Rattle.master_laws.proofs.PlanOrder.Requests.{in_list}
use Rattle.completeness_laws.proofs.Causes.Exchanges.{heard_answer}
use Rattle.completeness_laws.proofs.Causes.Chains.{IsRunning, ComesFrom}

clash : {A : Type 0} → true ≡ false → A
clash e = absurd cc

-- ---- a refusal is told by its code
pub record IsRefusedBy (s : SlaveSetup) (p : Plant) (asked : Asked) (c : ℕ) : Type 0 where
  pub code : ErrorCode
  pub is : refusal s p asked ≡ Some code
  pub told : c ≡ error_code code

nack_code : (a b : ℕ) → Nack a ≡ Nack b → a ≡ b
nack_code a b e = cc

no_ack : (c : ℕ) → Nack c ≡ Ack → ⊥
no_ack c e = cc

no_state : (c state : ℕ) → Nack c ≡ StateAck state → ⊥
no_state c state e = cc

no_error : (c code : ℕ) → Nack c ≡ ErrorAck code → ⊥
no_error c code e = cc

ack_accepts : (p : Plant) (c : ℕ) (r : Request) → Nack c ≡ heard_answer (answer p (asked_for r)) → ⊥
unfolding answer
ack_accepts p c (Change state body) e = no_ack c e
ack_accepts p c (Configure body) e = no_ack c e
ack_accepts p c AskState e = no_state c _ e
ack_accepts p c AskError e = no_error c _ e

pub refused_by : (s : SlaveSetup) (p : Plant) (r : Request) (c : ℕ) → Nack c ≡ heard_answer (answers s (asked_for r) p).answer → IsRefusedBy s p (asked_for r) c
refused_by s p r c e = by (refusal s p (asked_for r)) refl e
  where
    by : (o : Option ErrorCode) → refusal s p (asked_for r) ≡ o → Nack c ≡ heard_answer (answered_plant s p (asked_for r) o).answer → IsRefusedBy s p (asked_for r) c
    by (Some code) h e = record { code = code; is = h; told = nack_code c (error_code code) e }
    by None h e = absurd (ack_accepts p c r e)

-- a question is not refused
pub question_accepted : (s : SlaveSetup) (p : Plant) (r : Request) (code : ErrorCode) → is_main_request r ≡ false → refusal s p (asked_for r) ≡ Some code → ⊥
unfolding refusal
question_accepted s p (Change state body) code m e = cc
question_accepted s p (Configure body) code m e = cc
question_accepted s p AskState code m e = cc
question_accepted s p AskError code m e = cc

-- ---- the registration
slot_one : (q r : Request) (n : ℕ) → slice_get (q ∷ []) n ≡ Some r → q ≡ r
slot_one q r zero e = cc
slot_one q r (suc n) e = absurd cc

-- ---- in an error state
barred : (state named : State) (request : Stc) (sent : Bool) → is_in_error state ≡ true → (request ≡ stc.Deregister → ⊥) → next_on state request named sent ≡ Err InErrorState
unfolding next_on
barred ErrorHandling named request sent e n = refl
barred ErrorResolved named stc.Deregister sent e n = absurd (n refl)
barred ErrorResolved named (stc.Register a b c d) sent e n = refl
barred ErrorResolved named stc.Prepare sent e n = refl
barred ErrorResolved named stc.Configure sent e n = refl
barred ErrorResolved named stc.Initialize sent e n = refl
barred ErrorResolved named (stc.Run x) sent e n = refl
barred ErrorResolved named (stc.DoStep k) sent e n = refl
barred ErrorResolved named stc.SendOutputs sent e n = refl
barred ErrorResolved named stc.Stop sent e n = refl
barred ErrorResolved named stc.Reset sent e n = refl
barred Alive named request sent e n = absurd cc
barred Configuration named request sent e n = absurd cc
barred Preparing named request sent e n = absurd cc
barred Prepared named request sent e n = absurd cc
barred Configuring named request sent e n = absurd cc
barred Configured named request sent e n = absurd cc
barred Initializing named request sent e n = absurd cc
barred Initialized named request sent e n = absurd cc
barred SendingI named request sent e n = absurd cc
barred Synchronizing named request sent e n = absurd cc
barred Synchronized named request sent e n = absurd cc
barred Running named request sent e n = absurd cc
barred Computing named request sent e n = absurd cc
barred Computed named request sent e n = absurd cc
barred SendingD named request sent e n = absurd cc
barred Stopping named request sent e n = absurd cc
barred Stopped named request sent e n = absurd cc

pub error_refuses : (s : SlaveSetup) (p : Plant) (r : Request) → is_main_request r ≡ true → is_in_error p.state ≡ true → ((state : State) → r ≡ Change state stc.Deregister → ⊥) → refusal s p (asked_for r) ≡ Some InErrorState
unfolding refusal
error_refuses s p (Change state body) m e n = ap (moved_refusal p body) (barred p.state state body p.outputs_sent e (λ h. n state (ap (λ z. Change state z) h)))
error_refuses s p (Configure body) m e n = ap (λ (b : Bool). if b then Some InErrorState else (if is_left_out body then Some NotSupported else (if is_same p.state Configuration then body_refusal s p body else Some WrongState))) e
error_refuses s p AskState m e n = absurd cc
error_refuses s p AskError m e n = absurd cc

-- ---- where it rests where the task finds it
-- what a task wants besides
pub record IsFit (p : Plant) (task : Task) : Type 0 where
  pub complete_is : task ≡ tasks.Prepare → complete p.wires.changes ≡ true
  pub unsent : task ≡ tasks.Initialize → p.outputs_sent ≡ false
  pub sent : task ≡ tasks.Run → p.outputs_sent ≡ true
  pub few : p.steps < 2 ^ 32 - 1

abbrev Accepts : SlaveSetup → Plant → Request → Type 0
Accepts s p r = (refusal s p (asked_for r) ≡ None) ⊎ ((refusal s p (asked_for r) ≡ Some InputsMissing) × (asks_step r ≡ true))

initialized_by : (b : Bool) → next_on Configured stc.Initialize Configured b ≡ (if b then Err WrongState else Ok Initializing)
unfolding next_on
initialized_by true = refl
initialized_by false = refl

run_by : (b : Bool) → next_on Configured (stc.Run (pos 0)) Configured b ≡ (if b then Ok Synchronizing else Err WrongState)
unfolding next_on
run_by true = refl
run_by false = refl

registers : (s : SlaveSetup) (uuid : ℕ) → refusal s (start_plant s) (asked_for (Change Alive (stc.Register uuid 2 1 0))) ≡ None
unfolding refusal next_on
registers s uuid = refl

module _ (s : SlaveSetup) (p : Plant) where
  at_state : (body : Stc) (state : State) (t : Result State ErrorCode) → p.state ≡ state → next_on state body state p.outputs_sent ≡ t → refusal s p (words.Change state body) ≡ moved_refusal p body t
  unfolding refusal
  at_state body state t e h = ap (λ (z : State). moved_refusal p body (next_on z body state p.outputs_sent)) e ∙ ap (moved_refusal p body) h

  accepted_change : (body : Stc) (state next : State) (q r : Request) (n : ℕ) → q ≡ Change state body → slice_get (q ∷ []) n ≡ Some r → p.state ≡ state → next_on state body state p.outputs_sent ≡ Ok next → change_refusal p body ≡ None → Accepts s p r
  accepted_change body state next q r n e h here m f =
      let P : Request → Type 0 = Accepts s p in
      subst P (sym e ∙ slot_one q r n h) (inl (at_state body state (Ok next) here m ∙ f))

  reach : (e t u : State) → p.state ≡ reached_by_turns e → e ≡ t → reached_by_turns t ≡ u → p.state ≡ u
  reach e t u h k r = h ∙ ap reached_by_turns k ∙ r

  running : (e : State) → p.state ≡ reached_by_turns e → IsRunning e → p.state ≡ Running
  unfolding next_on_turn
  running e h (inl k) = reach e Synchronizing Running h k refl
  running e h (inr k) = reach e SendingD Running h k refl

  initialized : next_on Configured stc.Initialize Configured p.outputs_sent ≡ (if p.outputs_sent then Err WrongState else Ok Initializing)
  initialized = initialized_by p.outputs_sent

  run_now : next_on Configured (stc.Run (pos 0)) Configured p.outputs_sent ≡ (if p.outputs_sent then Ok Synchronizing else Err WrongState)
  run_now = run_by p.outputs_sent

  step_accepted : (q r : Request) (n : ℕ) → q ≡ Change Running (stc.DoStep 1) → slice_get (q ∷ []) n ≡ Some r → p.state ≡ Running → p.steps < 2 ^ 32 - 1 → Accepts s p r
  unfolding next_on
  step_accepted q r n e h here few =
      let P : Request → Type 0 = Accepts s p in
      let less : nat_lt p.steps (2 ^ 32 - 1) ≡ true = lt-ltb p.steps (2 ^ 32 - 1) few in
      let z : refusal s p (words.Change Running (stc.DoStep 1)) ≡ first_true ((not (ready p.wires p.steps), InputsMissing) ∷ []) =
      at_state (stc.DoStep 1) Running (Ok Computing) here refl ∙ ap (λ (b : Bool). first_true ((not ((1 == 1) && b), BadSteps) ∷ (not (ready p.wires p.steps), InputsMissing) ∷ [])) less in
      subst P (sym e ∙ slot_one q r n h) (by (ready p.wires p.steps) z)
    where
      by : (b : Bool) → refusal s p (words.Change Running (stc.DoStep 1)) ≡ first_true ((not b, InputsMissing) ∷ []) → Accepts s p (Change Running (stc.DoStep 1))
      by true z = inl z
      by false z = inr (z, refl)

  -- a change of state that the plan asks for
  pub task_accepted : (task : Task) (list : List Cfg) (n : ℕ) (r : Request) (e : State) → is_by_list task ≡ false → slice_get (requests_of task list) n ≡ Some r → ComesFrom task e → (e ≡ Alive → ⊥) → p.state ≡ reached_by_turns e → IsFit p task → Accepts s p r
  unfolding next_on next_on_turn
  task_accepted (tasks.Register uuid) list n r e l h c alive k f = absurd (alive c)
  task_accepted tasks.Setup list n r e l h c alive k f = absurd cc
  task_accepted tasks.Adjust list n r e l h c alive k f = absurd cc
  task_accepted tasks.Prepare list n r e l h c alive k f = accepted_change stc.Prepare Configuration Preparing _ r n refl h (reach e Configuration Configuration k c refl) refl (ap (λ (b : Bool). refused_unless b IncompleteConfig) (f.complete_is refl))
  task_accepted tasks.Configure list n r e l h c alive k f = accepted_change stc.Configure Prepared Configuring _ r n refl h (reach e Preparing Prepared k c refl) refl refl
  task_accepted tasks.Initialize list n r e l h c alive k f = accepted_change stc.Initialize Configured Initializing _ r n refl h (reach e Configuring Configured k c refl) (initialized ∙ ap (λ (b : Bool). if b then Err WrongState else Ok Initializing) (f.unsent refl)) refl
  task_accepted (tasks.FirstOutputs row) list n r e l h c alive k f = accepted_change stc.SendOutputs Initialized SendingI _ r n refl h (reach e Initializing Initialized k c refl) refl refl
  task_accepted tasks.Run list n r e l h c alive k f = accepted_change (stc.Run (pos 0)) Configured Synchronizing _ r n refl h (reach e SendingI Configured k c refl) (run_now ∙ ap (λ (b : Bool). if b then Ok Synchronizing else Err WrongState) (f.sent refl)) refl
  task_accepted (tasks.Step i) list n r e l h c alive k f = step_accepted _ r n refl h (running e k c) f.few
  task_accepted (tasks.Outputs i row) list n r e l h c alive k f = accepted_change stc.SendOutputs Computed SendingD _ r n refl h (reach e Computing Computed k c refl) refl refl
  task_accepted tasks.Stop list n r e l h c alive k f = accepted_change stc.Stop Running Stopping _ r n refl h (running e k c) refl refl
  task_accepted tasks.Reset list n r e l h c alive k f = accepted_change stc.Reset Stopped Configuration _ r n refl h (reach e Stopping Stopped k c refl) refl refl
  task_accepted tasks.Deregister list n r e l h c alive k f = accepted_change stc.Deregister Stopped Alive _ r n refl h (reach e Stopping Stopped k c refl) refl refl

-- the registration, by a slave that is not registered
pub register_accepted : (s : SlaveSetup) (task : Task) (list : List Cfg) (n : ℕ) (r : Request) → slice_get (requests_of task list) n ≡ Some r → transport.is_register (asked_for r) ≡ true → refusal s (start_plant s) (asked_for r) ≡ None
register_accepted s task list n r h g = by task h
  where
    other : (q : Request) → transport.is_register (asked_for q) ≡ false → slice_get (q ∷ []) n ≡ Some r → refusal s (start_plant s) (asked_for r) ≡ None
    other q f h = clash (sym g ∙ ap (λ (z : Request). transport.is_register (asked_for z)) (sym (slot_one q r n h)) ∙ f)

    setting : (list : List Cfg) → slice_get (requests_of tasks.Setup list) n ≡ Some r → refusal s (start_plant s) (asked_for r) ≡ None
    setting list h = let z = in_list list n r h in clash (sym g ∙ ap (λ (q : Request). transport.is_register (asked_for q)) (z.1).0)

    by : (task : Task) → slice_get (requests_of task list) n ≡ Some r → refusal s (start_plant s) (asked_for r) ≡ None
    by (tasks.Register uuid) h = ap (λ (z : Request). refusal s (start_plant s) (asked_for z)) (sym (slot_one _ r n h)) ∙ registers s uuid
    by tasks.Setup h = setting list h
    by tasks.Adjust h = setting list h
    by tasks.Prepare h = other _ refl h
    by tasks.Configure h = other _ refl h
    by tasks.Initialize h = other _ refl h
    by (tasks.FirstOutputs row) h = other _ refl h
    by tasks.Run h = other _ refl h
    by (tasks.Step k) h = other _ refl h
    by (tasks.Outputs k row) h = other _ refl h
    by tasks.Stop h = other _ refl h
    by tasks.Reset h = other _ refl h
    by tasks.Deregister h = other _ refl h

-- only the last task ends the session
pub ends_session : (task : Task) (list : List Cfg) (n : ℕ) (state : State) → slice_get (requests_of task list) n ≡ Some (Change state stc.Deregister) → task ≡ tasks.Deregister
ends_session task list n state h = by task h
  where
    setting : (list : List Cfg) → slice_get (requests_of tasks.Setup list) n ≡ Some (Change state stc.Deregister) → ⊥
    setting list h = let z = in_list list n (Change state stc.Deregister) h in let y : Change state stc.Deregister ≡ Configure z.0 = (z.1).0 in cc

    by : (task : Task) → slice_get (requests_of task list) n ≡ Some (Change state stc.Deregister) → task ≡ tasks.Deregister
    by tasks.Deregister h = refl
    by tasks.Setup h = absurd (setting list h)
    by tasks.Adjust h = absurd (setting list h)
    by (tasks.Register uuid) h = let z = slot_one _ _ n h in absurd cc
    by tasks.Prepare h = let z = slot_one _ _ n h in absurd cc
    by tasks.Configure h = let z = slot_one _ _ n h in absurd cc
    by tasks.Initialize h = let z = slot_one _ _ n h in absurd cc
    by (tasks.FirstOutputs row) h = let z = slot_one _ _ n h in absurd cc
    by tasks.Run h = let z = slot_one _ _ n h in absurd cc
    by (tasks.Step k) h = let z = slot_one _ _ n h in absurd cc
    by (tasks.Outputs k row) h = let z = slot_one _ _ n h in absurd cc
    by tasks.Stop h = let z = slot_one _ _ n h in absurd cc
    by tasks.Reset h = let z = slot_one _ _ n h in absurd cc
