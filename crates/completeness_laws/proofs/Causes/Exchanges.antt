-- The exchange that ended a conversation, as the slave has it.
use Rattle.std.proofs.Common.{◌≡◌, ℕ, Bool, true, false, if◌then◌else◌, ◌⊎◌, inl, inr, Option, Some, List, [], ◌∷◌, ◌++◌, refl, sym, ap, ◌∙◌, subst}
use Rattle.std.specs.Prelude.{◌==◌, ◌&&◌, not}
use Rattle.std.proofs.lemmas.Bool.{eq-eqb}
use Rattle.dcp_types.specs.Codes.{state_code, error_code}
use Rattle.dcp_types.specs.declared.states.State.{State}
use Rattle.dcp_types.specs.declared.states.State.TheVariants.{Alive, Configuration, Preparing, Prepared, Configuring, Configured, Initializing, Initialized, SendingI, Synchronizing, Synchronized, Running, Computing, Computed, SendingD, Stopping, Stopped, ErrorHandling, ErrorResolved}
use Rattle.log_spec.specs.Messages.{Note}
use Rattle.log_spec.specs.Log as logs
use Rattle.slave_states.specs.Transitions.{next_on_turn, is_same}
use Rattle.slave_spec.specs.declared.words.SlaveRequest.{SlaveRequest}
use Rattle.slave_spec.specs.Requests.{is_in_error}
use Rattle.slave_spec.specs.Transport as transport
use Rattle.slave_laws.specs.Talk.Desks.{answer_note}
use Rattle.plan_laws.specs.Course.Taken.{asked_in}
use Rattle.slave_laws.specs.Model.Stages.{SlaveStage, reached_by_turns, IsInStage, IsNoteOf, IsVerdictNote, FitsStage, AllFitStages}
use Rattle.master_spec.specs.declared.requests.Request.{Request}
use Rattle.master_spec.specs.declared.requests.Request.TheVariants.{Change, Configure, AskState, AskError}
use Rattle.master_spec.specs.declared.requests.Answer.{Answer}
use Rattle.master_spec.specs.declared.requests.Answer.TheVariants.{Ack, Nack, StateAck, ErrorAck, LogAck}
use Rattle.master_spec.specs.declared.tasks.Task.{Task}
use Rattle.master_spec.specs.declared.tasks.Task.TheVariants as tasks
use Rattle.master_spec.specs.News.{Answers}
use Rattle.master_spec.specs.Tasks.{is_by_end, target_of, passing_of}
use Rattle.master_spec.specs.Conversation.{is_error, is_state}
use Rattle.master_spec.specs.Requests.{Asking, Decision}
use Rattle.master_spec.specs.Shown.{fits_change, fits_error}
use Rattle.master_laws.specs.Hears.Laws.{IsAnswerAs, IsDecision, AreDecisions}
use Rattle.master_log_laws.specs.Failures.Because.{fits_mark}
use Rattle.master_log_laws.proofs.Phases.Now.{IsOf, IsDecidedBy}
use Rattle.master_laws.proofs.PlanOrder.Hearing.{asked_for, asked_is}
use Rattle.completeness_laws.proofs.Causes.Homes.{entered_at, reaches}

-- ---- the newest exchange
pub record IsNewestExchange (id : ℕ) (r : Request) (a : Answer) (older : List Asking) (ds : List logs.DecidedRequest) : Type 0 where
  pub newest : logs.DecidedRequest
  pub others : List logs.DecidedRequest
  pub is : ds ≡ newest ∷ others
  pub asked : asked_in newest.request ≡ Some (asked_for r)
  pub heard : IsAnswerAs id newest.answer a
  pub told : AreDecisions id older others

pub newest_exchange : (id : ℕ) (r : Request) (a : Answer) (c : Asking) (older : List Asking) (ds : List logs.DecidedRequest) → IsOf r c → IsDecidedBy (Some a) c → AreDecisions id (c ∷ older) ds → IsNewestExchange id r a older ds
newest_exchange id r a c older ds o d h = let P : Option Decision → Type 0 = λ z. IsDecision id c z (AreDecisions id older) ds in by ds (subst P d.1 h)
  where
    by : (ds : List logs.DecidedRequest) → IsDecision id c (Some (record { place = d.0; answer = a })) (AreDecisions id older) ds → IsNewestExchange id r a older ds
    by [] k = absurd k
    by (e ∷ es) k = record { newest = e; others = es; is = refl; asked = ap asked_in k.0 ∙ asked_is id r c o; heard = (k.1).0; told = (k.1).1 }

-- what fits whole lists fits their ends
pub fit_end : (more ds : List logs.DecidedRequest) → AllFitStages (more ++ ds) → AllFitStages ds
fit_end [] ds a = a
fit_end (e ∷ more) ds a = fit_end more ds a.1

-- ---- what the master hears in an answer of a slave
abbrev pub heard_answer : transport.SlaveAnswer → Answer
heard_answer transport.Ack = Ack
heard_answer (transport.Nack code) = Nack (error_code code)
heard_answer (transport.StateAck state) = StateAck (state_code state)
heard_answer (transport.ErrorAck code) = ErrorAck code
heard_answer (transport.LogAck entries) = LogAck

answer_same : (n i m j : ℕ) (a b : Answer) → Answers n i a ≡ Answers m j b → a ≡ b
answer_same n i m j a b e = cc

pub note_heard : (id : ℕ) (n : Note) (a : Answer) (r : SlaveRequest) (next : ℕ) (x : transport.SlaveAnswer) → n ≡ answer_note r next x → IsAnswerAs id n a → a ≡ heard_answer x
note_heard id n a r next x e h = let P : Note → Type 0 = λ z. IsAnswerAs id z a in by x (subst P e h)
  where
    by : (x : transport.SlaveAnswer) → IsAnswerAs id (answer_note r next x) a → a ≡ heard_answer x
    by transport.Ack h = sym (answer_same r.number r.receiver r.number id Ack a h)
    by (transport.Nack code) h = sym (answer_same r.number r.receiver r.number id (Nack (error_code code)) a h)
    by (transport.StateAck state) h = sym (answer_same r.number r.receiver r.number id (StateAck (state_code state)) a h)
    by (transport.ErrorAck code) h = sym (answer_same r.number r.receiver r.number id (ErrorAck code) a h)
    by (transport.LogAck entries) h = sym (answer_same r.number r.receiver r.number id LogAck a h)

-- ---- it fits what was asked
error_is : (s : State) → is_in_error s ≡ true → is_error (state_code s) ≡ true
error_is ErrorHandling e = refl
error_is ErrorResolved e = refl
error_is Alive e = absurd cc
error_is Configuration e = absurd cc
error_is Preparing e = absurd cc
error_is Prepared e = absurd cc
error_is Configuring e = absurd cc
error_is Configured e = absurd cc
error_is Initializing e = absurd cc
error_is Initialized e = absurd cc
error_is SendingI e = absurd cc
error_is Synchronizing e = absurd cc
error_is Synchronized e = absurd cc
error_is Running e = absurd cc
error_is Computing e = absurd cc
error_is Computed e = absurd cc
error_is SendingD e = absurd cc
error_is Stopping e = absurd cc
error_is Stopped e = absurd cc

-- a task enters its target at once, or its passing state
enters_at_once : (task : Task) → is_by_end task ≡ false → (target_of task ≡ Some (entered_at task)) ⊎ (passing_of task ≡ Some (entered_at task))
enters_at_once (tasks.Register uuid) e = inl refl
enters_at_once tasks.Setup e = inl refl
enters_at_once tasks.Prepare e = inr refl
enters_at_once tasks.Configure e = inr refl
enters_at_once tasks.Initialize e = inr refl
enters_at_once (tasks.FirstOutputs row) e = inr refl
enters_at_once tasks.Run e = inr refl
enters_at_once (tasks.Step k) e = inr refl
enters_at_once (tasks.Outputs k row) e = inr refl
enters_at_once tasks.Stop e = inr refl
enters_at_once tasks.Reset e = inl refl
enters_at_once tasks.Adjust e = inl refl
enters_at_once tasks.Deregister e = absurd cc

-- after the end of the session it could be nowhere but in an error state
ends_alive : (task : Task) → is_by_end task ≡ true → entered_at task ≡ Alive
ends_alive tasks.Deregister e = refl
ends_alive (tasks.Register uuid) e = absurd cc
ends_alive tasks.Setup e = absurd cc
ends_alive tasks.Prepare e = absurd cc
ends_alive tasks.Configure e = absurd cc
ends_alive tasks.Initialize e = absurd cc
ends_alive (tasks.FirstOutputs row) e = absurd cc
ends_alive tasks.Run e = absurd cc
ends_alive (tasks.Step k) e = absurd cc
ends_alive (tasks.Outputs k row) e = absurd cc
ends_alive tasks.Stop e = absurd cc
ends_alive tasks.Reset e = absurd cc
ends_alive tasks.Adjust e = absurd cc

alive_stays : reached_by_turns Alive ≡ Alive
unfolding next_on_turn
alive_stays = refl

clash : {A : Type 0} → true ≡ false → A
clash e = absurd cc

same_state : (o : Option State) (s t : State) → o ≡ Some s → t ≡ s → is_state o (state_code t) ≡ true
same_state o s t e h = ap (λ (x : Option State). is_state x (state_code t)) e ∙ ap (λ (x : State). state_code x == state_code s) h ∙ eq-eqb (state_code s) (state_code s) refl

-- where the exchanges have a slave that is asked for its state in a task
pub record IsAskedIn (task : Task) (named : Bool) (g : SlaveStage) : Type 0 where
  pub entered : g.entered ≡ entered_at task
  pub rested : is_by_end task ≡ false → named ≡ true → g.rested ≡ true

state_fits : (task : Task) (named : Bool) (g : SlaveStage) (s : State) → IsAskedIn task named g → IsInStage g s → is_same s Alive ≡ false
    → (is_error (state_code s) ≡ true) ⊎ ((is_state (target_of task) (state_code s) ≡ true) ⊎ ((is_state (passing_of task) (state_code s) && not named) ≡ true))
state_fits task named g s k i alive = by (is_by_end task) refl i
  where
    Fits : Type 0
    Fits = (is_error (state_code s) ≡ true) ⊎ ((is_state (target_of task) (state_code s) ≡ true) ⊎ ((is_state (passing_of task) (state_code s) && not named) ≡ true))

    not_alive : s ≡ Alive → Fits
    not_alive e = clash (sym (ap (λ (t : State). is_same t Alive) e) ∙ alive)

    passing : (n : Bool) → named ≡ n → is_by_end task ≡ false → passing_of task ≡ Some (entered_at task) → s ≡ g.entered → g.rested ≡ false → Fits
    passing true n e p h f = clash (sym (k.rested e n) ∙ f)
    passing false n e p h f = inr (inr (ap (λ (b : Bool). b && not named) (same_state (passing_of task) (entered_at task) s p (h ∙ k.entered)) ∙ ap not n))

    at_once : is_by_end task ≡ false → (target_of task ≡ Some (entered_at task)) ⊎ (passing_of task ≡ Some (entered_at task)) → s ≡ g.entered → g.rested ≡ false → Fits
    at_once e (inl t) h f = inr (inl (same_state (target_of task) (entered_at task) s t (h ∙ k.entered)))
    at_once e (inr p) h f = passing named refl e p h f

    by : (b : Bool) → is_by_end task ≡ b → IsInStage g s → Fits
    by b e (inr (inr x)) = inl (error_is s x)
    by true e (inl x) = not_alive (x ∙ ap reached_by_turns (k.entered ∙ ends_alive task e) ∙ alive_stays)
    by true e (inr (inl x)) = not_alive (x.0 ∙ k.entered ∙ ends_alive task e)
    by false e (inl x) = inr (inl (same_state (target_of task) (reached_by_turns (entered_at task)) s (reaches task e) (x ∙ ap reached_by_turns k.entered)))
    by false e (inr (inl x)) = at_once e (enters_at_once task e) x.0 x.1

fits_if : (a b c : Bool) → (a ≡ true) ⊎ ((b ≡ true) ⊎ (c ≡ true)) → (if a then true else if b then true else c) ≡ true
fits_if true b c h = refl
fits_if false true c h = refl
fits_if false false c (inl h) = absurd cc
fits_if false false c (inr (inl h)) = absurd cc
fits_if false false c (inr (inr h)) = h

pub answer_fits : (id : ℕ) (task : Task) (named : Bool) (g : SlaveStage) (r : Request) (n : Note) (a : Answer) → FitsStage (Some (asked_for r)) g n → IsAnswerAs id n a → (r ≡ AskState → IsAskedIn task named g) → fits_mark task named r a ≡ true
answer_fits id task named g (Change state body) n a f h k = by f
  where
    by : IsVerdictNote n → fits_change a ≡ true
    by (inl x) = ap fits_change (note_heard id n a x.0 (x.1).0 transport.Ack (x.1).1 h)
    by (inr x) = ap fits_change (note_heard id n a (x.1).0 ((x.1).1).0 (transport.Nack x.0) ((x.1).1).1 h)
answer_fits id task named g (Configure body) n a f h k = by f
  where
    by : IsVerdictNote n → fits_change a ≡ true
    by (inl x) = ap fits_change (note_heard id n a x.0 (x.1).0 transport.Ack (x.1).1 h)
    by (inr x) = ap fits_change (note_heard id n a (x.1).0 ((x.1).1).0 (transport.Nack x.0) ((x.1).1).1 h)
answer_fits id task named g AskError n a f h k = ap fits_error (note_heard id n a (f.1).0 ((f.1).1).0 (transport.ErrorAck f.0) ((f.1).1).1 h)
answer_fits id task named g AskState n a f h k =
    let s : State = f.0 in
    let x : IsNoteOf n (transport.StateAck s) = (f.1).0 in
    let e : a ≡ StateAck (state_code s) = note_heard id n a x.0 (x.1).0 (transport.StateAck s) (x.1).1 h in
    ap (fits_mark task named AskState) e
    ∙ fits_if (is_error (state_code s)) (is_state (target_of task) (state_code s)) (is_state (passing_of task) (state_code s) && not named) (state_fits task named g s (k refl) ((f.1).1).0 ((f.1).1).1)
