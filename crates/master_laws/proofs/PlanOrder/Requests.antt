-- The requests of a phase are those of its job and questions, and an answer names INITIALIZED only where that is the target.
use Rattle.std.proofs.Common.{◌≡◌, ℕ, zero, suc, Bool, true, false, if◌then◌else◌, ◌⊎◌, inl, inr, Option, Some, None, List, [], ◌∷◌, map, refl, sym, ap, ◌∙◌, subst}
use Rattle.std.specs.Prelude.{◌&&◌, not, is_some, slice_get}
use Rattle.std.proofs.lemmas.Bool.{eqb-true}
use Rattle.dcp_types.specs.declared.limits.Limits.{Limits}
use Rattle.pdu_layout.specs.declared.messages.Cfg.{Cfg}
use Rattle.pdu_layout.specs.declared.messages.Cfg.TheVariants as cfg
use Rattle.pdu_layout.specs.declared.messages.Stc.TheVariants as stc
use Rattle.master_spec.specs.declared.causes.Cause.{Cause}
use Rattle.master_spec.specs.declared.causes.Cause.TheVariants as causes
use Rattle.master_spec.specs.declared.requests.Request.{Request}
use Rattle.master_spec.specs.declared.requests.Request.TheVariants.{Change, Configure, AskState, AskError}
use Rattle.master_spec.specs.declared.requests.Answer.{Answer}
use Rattle.master_spec.specs.declared.requests.Answer.TheVariants.{Ack, Nack, StateAck, ErrorAck, LogAck}
use Rattle.master_spec.specs.declared.requests.Latest.{Latest}
use Rattle.master_spec.specs.declared.requests.Latest.TheVariants as latests
use Rattle.master_spec.specs.declared.reactions.Reaction.TheVariants.{Wait, Ask, Repeat, GiveUp}
use Rattle.master_spec.specs.declared.tasks.Task.{Task}
use Rattle.master_spec.specs.declared.tasks.Task.TheVariants as tasks
use Rattle.master_spec.specs.Tasks.{requests_of, is_by_list, target_of, passing_of}
use Rattle.master_spec.specs.Jobs.{Job, asked_by}
use Rattle.master_spec.specs.Marks.{Mark, Begun, Asked, Again, Answered, Hinted, Brought, Turned, Ended, newest_number, job_of, cause_of, latest, is_reached}
use Rattle.master_spec.specs.Conversation.{is_state, on_passing, on_state, on_answer, reaction, unexpected}
use Rattle.master_spec.specs.Requests.{Asking, Decision, decided_by}
use Rattle.master_log_laws.specs.Asking.Legal.{Does, Rests, AreLegal}
use Rattle.master_log_laws.proofs.Asking.Legal.{own_rests}
use Rattle.master_log_laws.specs.Index.Index.{Placed, at, marks_of, code_of, again_at, decided_at}
use Rattle.master_log_laws.proofs.Index.Events.{acts}
use Rattle.master_log_laws.proofs.Phases.Now.{now_by, now, IsOf, Linked, linked, open_latest}
use Rattle.master_log_laws.proofs.Phases.Inverse.{reacts}
use Rattle.master_log_laws.proofs.Phases.Mains.{is_main_request}
use Rattle.master_log_laws.proofs.Phases.Stage.{Main, Question}
use Rattle.master_log_laws.proofs.Phases.Stages.{stage, open_stage}
use Rattle.master_laws.specs.Rows.Laws.{event_for}
use Rattle.master_laws.proofs.PlanOrder.Taken.{names_ready}

-- ---- what kind of request a job has
abbrev pub is_reset : Request → Bool
is_reset (Change state stc.Reset) = true
is_reset (Change state body) = false
is_reset (Configure body) = false
is_reset AskState = false
is_reset AskError = false

abbrev pub is_setting : Request → Bool
is_setting (Change state body) = false
is_setting (Configure body) = true
is_setting AskState = false
is_setting AskError = false

abbrev pub is_event : Request → Bool
is_event r = is_some (event_for (code_of r))

abbrev pub resets_slave : Task → Bool
resets_slave tasks.Reset = true
resets_slave _ = false

abbrev pub is_row_task : Task → Bool
is_row_task (tasks.FirstOutputs row) = true
is_row_task (tasks.Step k) = true
is_row_task (tasks.Outputs k row) = true
is_row_task tasks.Reset = true
is_row_task _ = false

pub record Kind (task : Task) (r : Request) : Type 0 where
  pub reset : is_reset r ≡ resets_slave task
  pub setting : is_setting r ≡ is_by_list task
  pub event : is_event r ≡ is_row_task task

no_event : (body : Cfg) → is_event (Configure body) ≡ false
no_event (cfg.TimeRes numerator denominator) = refl
no_event (cfg.Steps data_id steps) = refl
no_event (cfg.Input data_id position vr source_type) = refl
no_event (cfg.Output data_id position vr) = refl
no_event cfg.Clear = refl
no_event (cfg.Target net) = refl
no_event (cfg.Source net) = refl
no_event (cfg.Parameter vr kind value) = refl
no_event (cfg.Tunable param_id position vr kind) = refl
no_event (cfg.ParamNet param_id protocol port ip) = refl
no_event (cfg.Logging category level mode) = refl
no_event (cfg.Scope data_id scope) = refl

-- the configuration at a slot
pub in_list : (list : List Cfg) (n : ℕ) (r : Request) → slice_get (map Configure list) n ≡ Some r → (body : Cfg) × ((r ≡ Configure body) × (slice_get list n ≡ Some body))
in_list [] n r e = absurd cc
in_list (b ∷ list) zero r e = let z : Configure b ≡ r = cc in (b, (sym z, refl))
in_list (b ∷ list) (suc n) r e = in_list list n r e

list_kind : (task : Task) (list : List Cfg) (n : ℕ) (r : Request) → resets_slave task ≡ false → is_by_list task ≡ true → is_row_task task ≡ false → slice_get (map Configure list) n ≡ Some r → Kind task r
list_kind task list n r a b c e =
    let z = in_list list n r e in
    record { reset = ap is_reset (z.1).0 ∙ sym a; setting = ap is_setting (z.1).0 ∙ sym b; event = ap is_event (z.1).0 ∙ no_event z.0 ∙ sym c }

one_kind : (task : Task) (q : Request) (n : ℕ) (r : Request) → slice_get (q ∷ []) n ≡ Some r → Kind task q → Kind task r
one_kind task q zero r e k = let z : q ≡ r = cc in let P : Request → Type 0 = λ x. Kind task x in subst P z k
one_kind task q (suc n) r e k = absurd cc

kinds : (task : Task) (list : List Cfg) (n : ℕ) (r : Request) → slice_get (requests_of task list) n ≡ Some r → Kind task r
kinds (tasks.Register uuid) list n r e = one_kind _ _ n r e (record { reset = refl; setting = refl; event = refl })
kinds tasks.Setup list n r e = list_kind tasks.Setup list n r refl refl refl e
kinds tasks.Prepare list n r e = one_kind _ _ n r e (record { reset = refl; setting = refl; event = refl })
kinds tasks.Configure list n r e = one_kind _ _ n r e (record { reset = refl; setting = refl; event = refl })
kinds tasks.Initialize list n r e = one_kind _ _ n r e (record { reset = refl; setting = refl; event = refl })
kinds (tasks.FirstOutputs row) list n r e = one_kind _ _ n r e (record { reset = refl; setting = refl; event = refl })
kinds tasks.Run list n r e = one_kind _ _ n r e (record { reset = refl; setting = refl; event = refl })
kinds (tasks.Step k) list n r e = one_kind _ _ n r e (record { reset = refl; setting = refl; event = refl })
kinds (tasks.Outputs k row) list n r e = one_kind _ _ n r e (record { reset = refl; setting = refl; event = refl })
kinds tasks.Stop list n r e = one_kind _ _ n r e (record { reset = refl; setting = refl; event = refl })
kinds tasks.Reset list n r e = one_kind _ _ n r e (record { reset = refl; setting = refl; event = refl })
kinds tasks.Adjust list n r e = list_kind tasks.Adjust list n r refl refl refl e
kinds tasks.Deregister list n r e = one_kind _ _ n r e (record { reset = refl; setting = refl; event = refl })

pub kind_at : (job : Job) (n : ℕ) (r : Request) → slice_get (asked_by job) n ≡ Some r → Kind job.task r
kind_at job n r e = kinds job.task job.list n r e

-- ---- the requests of a phase
abbrev pub IsOfJob : Job → Request → Type 0
IsOfJob job r = (is_main_request r ≡ false) ⊎ ((n : ℕ) × (slice_get (asked_by job) n ≡ Some r))

abbrev pub AllAsk : Job → List Asking → Type 0
AllAsk job [] = Unit {0}
AllAsk job (b ∷ bs) = ((r : Request) × (IsOf r b × IsOfJob job r)) × AllAsk job bs

asks_cause : (limits : Limits) (ms : List Mark) (r : Request) → Does limits ms (Ask r) → cause_of ms ≡ None
asks_cause limits [] r d = refl
asks_cause limits (m ∷ ms) r d = by m d
  where
    clash : Wait ≡ Ask r → ⊥
    clash z = cc

    by : (m : Mark) → reaction limits m ms ≡ Ask r → cause_of (m ∷ ms) ≡ None
    by (Begun j) e = acts limits (Begun j) ms (λ z. clash (sym z ∙ e))
    by (Asked q) e = acts limits (Asked q) ms (λ z. clash (sym z ∙ e))
    by Again e = acts limits Again ms (λ z. clash (sym z ∙ e))
    by (Answered q a) e = acts limits (Answered q a) ms (λ z. clash (sym z ∙ e))
    by Hinted e = acts limits Hinted ms (λ z. clash (sym z ∙ e))
    by (Brought n p) e = acts limits (Brought n p) ms (λ z. clash (sym z ∙ e))
    by (Turned t) e = acts limits (Turned t) ms (λ z. clash (sym z ∙ e))
    by (Ended cause) e = absurd (clash (sym (own_rests limits (Ended cause) ms tt) ∙ e))

again_ask : (job : Job) (n : ℕ) (bs : List Asking) → AllAsk job bs → AllAsk job (again_at n bs)
again_ask job n [] a = tt
again_ask job n (b ∷ bs) a = a

decided_ask : (job : Job) (n : ℕ) (x : Answer) (bs : List Asking) → AllAsk job bs → AllAsk job (decided_at n x bs)
decided_ask job n x [] a = tt
decided_ask job n x (b ∷ bs) a = a

pub asked_of_job : (limits : Limits) (js : List Job) (xs : List Placed) (r : Request) → AreLegal limits js (Asked r ∷ marks_of xs) → (job : Job) → job_of (marks_of xs) ≡ Some job → IsOfJob job r
asked_of_job limits js xs r k job e = two (open_stage job (Asked r ∷ marks_of xs) (now (at 0 (Asked r) ∷ xs)) r refl (stage limits js (at 0 (Asked r) ∷ xs) k (own_rests limits (Asked r) (marks_of xs) tt) (asks_cause limits (marks_of xs) r k.0) job e))
  where
    two : Main job r None (now (at 0 (Asked r) ∷ xs)) ⊎ Question job r None (now (at 0 (Asked r) ∷ xs)) → IsOfJob job r
    two (inl m) = inr (_, m.slot)
    two (inr q) = inl q.asks

pub all_ask : (limits : Limits) (js : List Job) (xs : List Placed) → AreLegal limits js (marks_of xs) → (job : Job) → job_of (marks_of xs) ≡ Some job → AllAsk job (now xs)
all_ask limits js [] l job j = tt
all_ask limits js (x ∷ xs) l job j = by x.mark l j (λ z. all_ask limits js xs l.1 job z)
  where
    by : (m : Mark) → AreLegal limits js (m ∷ marks_of xs) → job_of (m ∷ marks_of xs) ≡ Some job → (job_of (marks_of xs) ≡ Some job → AllAsk job (now xs)) → AllAsk job (now_by x.place m (marks_of xs) (now xs))
    by (Begun i) k e f = tt
    by (Asked r) k e f = ((r, ((refl, refl), asked_of_job limits js xs r k job e)), f e)
    by Again k e f = again_ask job x.place (now xs) (f e)
    by (Answered r a) k e f = decided_ask job x.place a (now xs) (f e)
    by Hinted k e f = f e
    by (Brought n p) k e f = f e
    by (Turned t) k e f = f e
    by (Ended cause) k e f = f e

-- ---- answers that name INITIALIZED
abbrev pub named_by : Option Decision → Bool
named_by None = false
named_by (Some d) = names_ready d.answer

abbrev pub TellsHome : Job → List Asking → Type 0
TellsHome job [] = Unit {0}
TellsHome job (b ∷ bs) = (named_by b.decision ≡ true → is_state (target_of job.task) 7 ≡ true) × TellsHome job bs

-- what it does is not to give up
abbrev IsCalm : Limits → List Mark → Type 0
IsCalm limits marks = (cause : Cause) → Does limits marks (GiveUp cause) → ⊥

rests_calm : (limits : Limits) (marks : List Mark) → Rests limits marks → IsCalm limits marks
rests_calm limits [] r cause d = d
rests_calm limits (m ∷ marks) r cause d = let z : Wait ≡ GiveUp cause = sym r ∙ d in cc

asks_calm : (limits : Limits) (marks : List Mark) (r : Request) → Does limits marks (Ask r) → IsCalm limits marks
asks_calm limits [] r e cause d = d
asks_calm limits (m ∷ marks) r e cause d = let z : Ask r ≡ GiveUp cause = sym e ∙ d in cc

repeats_calm : (limits : Limits) (marks : List Mark) → Does limits marks Repeat → IsCalm limits marks
repeats_calm limits [] e cause d = d
repeats_calm limits (m ∷ marks) e cause d = let z : Repeat ≡ GiveUp cause = sym e ∙ d in cc

never_passing : (task : Task) → is_state (passing_of task) 7 ≡ false
never_passing (tasks.Register uuid) = refl
never_passing tasks.Setup = refl
never_passing tasks.Prepare = refl
never_passing tasks.Configure = refl
never_passing tasks.Initialize = refl
never_passing (tasks.FirstOutputs row) = refl
never_passing tasks.Run = refl
never_passing (tasks.Step k) = refl
never_passing (tasks.Outputs k row) = refl
never_passing tasks.Stop = refl
never_passing tasks.Reset = refl
never_passing tasks.Adjust = refl
never_passing tasks.Deregister = refl

-- an answer on which it goes on
home_answer : (limits : Limits) (job : Job) (r : Request) (a : Answer) (older marks : List Mark) → ((cause : Cause) → on_answer limits job r a older marks ≡ GiveUp cause → ⊥) → names_ready a ≡ true → is_state (target_of job.task) 7 ≡ true
home_answer limits job r Ack older marks g h = absurd cc
home_answer limits job r (Nack code) older marks g h = absurd cc
home_answer limits job r (ErrorAck code) older marks g h = absurd cc
home_answer limits job r LogAck older marks g h = absurd cc
home_answer limits job (Change s body) (StateAck state) older marks g h = absurd (g _ refl)
home_answer limits job (Configure body) (StateAck state) older marks g h = absurd (g _ refl)
home_answer limits job AskError (StateAck state) older marks g h = absurd (g _ refl)
home_answer limits job AskState (StateAck state) older marks g h = by (is_state (target_of job.task) 7) refl
  where
    seven : state ≡ 7
    seven = eqb-true state 7 h

    by : (b : Bool) → is_state (target_of job.task) 7 ≡ b → b ≡ true
    by true e = refl
    by false e = absurd (g (causes.Unexpected (newest_number marks) 178 7) (
        ap (λ (s : ℕ). on_state limits job s older marks) seven
        ∙ ap (λ (b : Bool). if b then Wait else (if is_state (passing_of job.task) 7 && not (is_reached job.task older) then on_passing limits 7 marks else unexpected (StateAck 7) marks)) e
        ∙ ap (λ (b : Bool). if b && not (is_reached job.task older) then on_passing limits 7 marks else unexpected (StateAck 7) marks) (never_passing job.task)
        ))

again_home : (job : Job) (n : ℕ) (bs : List Asking) → TellsHome job bs → TellsHome job (again_at n bs)
again_home job n [] a = tt
again_home job n (b ∷ bs) a = a

decided_home : (job : Job) (n : ℕ) (r : Request) (a : Answer) (bs : List Asking) → Linked (latests.Asked r) bs → (names_ready a ≡ true → is_state (target_of job.task) 7 ≡ true) → TellsHome job bs → TellsHome job (decided_at n a bs)
decided_home job n r a [] k g h = tt
decided_home job n r a (b ∷ bs) k g h =
    let e : named_by (decided_by b.decision (record { place = n; answer = a })) ≡ names_ready a = ap (λ (o : Option Decision). named_by (decided_by o (record { place = n; answer = a }))) k.1 in
    (λ z. g (sym e ∙ z), h.1)

pub tells_home : (limits : Limits) (js : List Job) (xs : List Placed) → AreLegal limits js (marks_of xs) → IsCalm limits (marks_of xs) → cause_of (marks_of xs) ≡ None → (job : Job) → job_of (marks_of xs) ≡ Some job → TellsHome job (now xs)
tells_home limits js [] l q c job j = tt
tells_home limits js (x ∷ xs) l q c job j = by x.mark l q c j (λ q c j. tells_home limits js xs l.1 q c job j)
  where
    by : (m : Mark) → AreLegal limits js (m ∷ marks_of xs) → IsCalm limits (m ∷ marks_of xs) → cause_of (m ∷ marks_of xs) ≡ None → job_of (m ∷ marks_of xs) ≡ Some job
        → (IsCalm limits (marks_of xs) → cause_of (marks_of xs) ≡ None → job_of (marks_of xs) ≡ Some job → TellsHome job (now xs)) → TellsHome job (now_by x.place m (marks_of xs) (now xs))
    by (Begun i) k q c j f = tt
    by (Asked r) k q c j f = (λ h. absurd cc, f (asks_calm limits (marks_of xs) r k.0) c j)
    by Again k q c j f = again_home job x.place (now xs) (f (repeats_calm limits (marks_of xs) k.0) c j)
    by (Answered r a) k q c j f =
        let P : Latest → Type 0 = λ y. Linked y (now xs) in
        let still = subst P (open_latest (latest (marks_of xs)) r (k.0).1) (linked limits js xs k.1) in
        decided_home job x.place r a (now xs) still (home_answer limits job r a (marks_of xs) (Answered r a ∷ marks_of xs) (λ cause e. q cause (reacts limits (Answered r a) (marks_of xs) job c j ∙ e))) (f (rests_calm limits (marks_of xs) (k.0).0) c j)
    by Hinted k q c j f = f (rests_calm limits (marks_of xs) k.0) c j
    by (Brought n p) k q c j f = f (rests_calm limits (marks_of xs) k.0) c j
    by (Turned t) k q c j f = f (rests_calm limits (marks_of xs) k.0) c j
    by (Ended cause) k q c j f = let z : Some cause ≡ None = c in absurd cc

pub rests_home : (limits : Limits) (js : List Job) (xs : List Placed) → AreLegal limits js (marks_of xs) → Rests limits (marks_of xs) → cause_of (marks_of xs) ≡ None → (job : Job) → job_of (marks_of xs) ≡ Some job → TellsHome job (now xs)
rests_home limits js xs l r c job j = tells_home limits js xs l (rests_calm limits (marks_of xs) r) c job j

pub asks_home : (limits : Limits) (js : List Job) (xs : List Placed) (r : Request) → AreLegal limits js (Asked r ∷ marks_of xs) → cause_of (marks_of xs) ≡ None → (job : Job) → job_of (marks_of xs) ≡ Some job → TellsHome job (now xs)
asks_home limits js xs r l c job j = tells_home limits js xs l.1 (asks_calm limits (marks_of xs) r l.0) c job j
