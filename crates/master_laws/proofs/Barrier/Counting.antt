-- By the marks of a conversation: how many row events were acknowledged, phase by phase.
use Rattle.std.proofs.Common.{◌≡◌, ℕ, zero, suc, ◌+◌, ◌%◌, ◌≤◌, Bool, true, false, if◌then◌else◌, ◌⊎◌, inl, inr, Option, Some, None, List, [], ◌∷◌, ◌++◌, map, length, refl, sym, ap, ◌∙◌, subst, arith}
use Rattle.std.specs.Prelude.{◌==◌, ◌&&◌, ◌||◌, is_some, nat_le, slice_get, count_by}
use Rattle.std.proofs.lemmas.Bool.{eqb-true}
use Rattle.std.proofs.lemmas.List.Sums.{sum_by-cons}
use Rattle.dcp_types.specs.declared.limits.Limits.{Limits}
use Rattle.pdu_layout.specs.declared.messages.Cfg.{Cfg}
use Rattle.pdu_layout.specs.declared.messages.Cfg.TheVariants as cfg
use Rattle.lockstep_laws.specs.Steps.{RowEvent, Show, Step, Restart, told_by, BenchProgress, events_counted, view_after}
use Rattle.lockstep_laws.specs.Steps as steps
use Rattle.master_spec.specs.declared.causes.Cause.{Cause}
use Rattle.master_spec.specs.declared.causes.Verdict.TheVariants as verdicts
use Rattle.master_spec.specs.declared.reactions.Reaction.TheVariants.{Wait, Ask}
use Rattle.master_spec.specs.declared.requests.Request.{Request}
use Rattle.master_spec.specs.declared.requests.Request.TheVariants.{Configure, AskState}
use Rattle.master_spec.specs.declared.requests.Answer.{Answer}
use Rattle.master_spec.specs.declared.requests.Latest.{Latest}
use Rattle.master_spec.specs.declared.requests.Latest.TheVariants as latests
use Rattle.master_spec.specs.declared.tasks.Task.{Task}
use Rattle.master_spec.specs.declared.tasks.Task.TheVariants as tasks
use Rattle.master_spec.specs.Jobs.{Job, asked_by}
use Rattle.master_spec.specs.Marks.{Mark, Begun, Asked, Again, Answered, Hinted, Brought, Turned, Ended, asked, count, is_begun, latest, open_in, open_request, job_of, cause_of, verdict_of, is_passed}
use Rattle.master_spec.specs.Conversation.{reaction}
use Rattle.master_spec.specs.Requests.{Asking, Decision, decided_by, is_main, is_acked_by, is_acked, acked}
use Rattle.master_log_laws.specs.Asking.Legal.{Does, Rests, IsLegal, AreLegal}
use Rattle.master_log_laws.proofs.Asking.Legal.{own_rests}
use Rattle.master_log_laws.specs.Index.Index.{Placed, at, marks_of, code_of, first_at, again_at, decided_at, askings_told}
use Rattle.master_log_laws.specs.Index.Late.{AreLate}
use Rattle.master_log_laws.proofs.Index.Events.{acts}
use Rattle.master_log_laws.specs.Phases.Laws.{AreDecided}
use Rattle.master_log_laws.proofs.Phases.Now.{now_by, now, past_by, past, Linked, linked, open_latest, split}
use Rattle.master_log_laws.proofs.Phases.Mains.{acked_more, AreMains, AreQuestions, of_main, one_if}
use Rattle.master_log_laws.proofs.Phases.Numbered.{ordered}
use Rattle.master_log_laws.proofs.Phases.Stage.{Main, Question, Stage, idling, main_open, question_open, trying, mains_done, state_told, mains_acked}
use Rattle.master_log_laws.proofs.Phases.Stages.{stage, open_stage}
use Rattle.master_log_laws.proofs.Phases.Tags.{job_phase, job_some, no_reaction, none_asked, HasPassed, verdict_passed, tried_not_passed}
use Rattle.master_laws.proofs.Rest.Resting.{rest_before, rest_open}
use Rattle.master_laws.specs.Rows.Laws.{event_for, asks_event, reply_by, progress_after, progress}
use Rattle.master_laws.proofs.Rows.Views.{acknowledged}
use Rattle.master_laws.specs.Barrier.Laws.{row_event_in, events_before, StandsInPhase}
use Rattle.master_laws.proofs.Barrier.Scripts.{events_of, none_before, before_next}

-- ---- counting requests
abbrev pub events_acked : List Asking → ℕ
events_acked bs = count_by (λ a. asks_event a && is_acked a) bs

pub events_more : (b : Asking) (bs : List Asking) → events_acked (b ∷ bs) ≡ one_if (asks_event b && is_acked b) + events_acked bs
events_more b bs = sum_by-cons (λ (a : Asking). if asks_event a && is_acked a then 1 else 0) b bs

pub events_append : (bs cs : List Asking) → events_acked (bs ++ cs) ≡ events_acked bs + events_acked cs
events_append [] cs = let z : events_acked [] ≡ 0 = refl in omega (arith, z)
events_append (b ∷ bs) cs =
    let h = events_append bs cs in
    let e = events_more b (bs ++ cs) in
    let f = events_more b bs in
    omega (arith, h, e, f)

abbrev main_code : ℕ → Bool
main_code n = (nat_le 1 n && nat_le n 10) || (nat_le 32 n && nat_le n 43)

-- who asks for a row event asks a request of the spine
pub event_main : (n : ℕ) → is_some (event_for n) ≡ true → main_code n ≡ true
event_main n h = by (n == 8) (n == 7) (n == 10) refl refl refl h
  where
    by : (a b c : Bool) → (n == 8) ≡ a → (n == 7) ≡ b → (n == 10) ≡ c → is_some (if a then Some Show else (if b then Some Step else (if c then Some Restart else None))) ≡ true → main_code n ≡ true
    by true b c e f g h = ap main_code (eqb-true n 8 e)
    by false true c e f g h = ap main_code (eqb-true n 7 f)
    by false false true e f g h = ap main_code (eqb-true n 10 g)
    by false false false e f g h = absurd cc

events_few : (bs : List Asking) → events_acked bs ≤ acked bs
events_few [] = omega arith
events_few (b ∷ bs) = by (asks_event b) (is_main b) refl refl (events_few bs)
  where
    one : (x y c : Bool) → (x ≡ true → y ≡ true) → one_if (x && c) ≤ one_if (y && c)
    one true true c f = omega arith
    one true false c f = let z : false ≡ true = f refl in absurd cc
    one false y c f = omega arith

    by : (x y : Bool) → asks_event b ≡ x → is_main b ≡ y → events_acked bs ≤ acked bs → events_acked (b ∷ bs) ≤ acked (b ∷ bs)
    by x y e f h =
        let k = one (asks_event b) (is_main b) (is_acked b) (λ z. event_main b.code z) in
        let m = events_more b bs in
        let n = acked_more b bs in
        omega (arith, h, k, m, n)

-- a question asks for none
pub not_event : (b : Asking) → is_main b ≡ false → asks_event b ≡ false
not_event b m = by (asks_event b) refl
  where
    by : (x : Bool) → asks_event b ≡ x → x ≡ false
    by true e = let z : false ≡ true = sym m ∙ event_main b.code e in absurd cc
    by false e = refl

pub events_off : (b : Asking) (bs : List Asking) → asks_event b ≡ false → events_acked (b ∷ bs) ≡ events_acked bs
events_off b bs e = let m = events_more b bs in let z : one_if (asks_event b && is_acked b) ≡ 0 = ap (λ (t : Bool). one_if (t && is_acked b)) e in omega (arith, m, z)

pub questions_off : (qs cs : List Asking) → AreQuestions qs → events_acked (qs ++ cs) ≡ events_acked cs
questions_off [] cs q = refl
questions_off (b ∷ qs) cs q = events_off b (qs ++ cs) (not_event b q.0) ∙ questions_off qs cs q.1

-- ---- the requests of a job are for its row event
no_setting : (body : Cfg) → event_for (code_of (Configure body)) ≡ None
no_setting (cfg.TimeRes numerator denominator) = refl
no_setting (cfg.Steps data_id steps) = refl
no_setting (cfg.Input data_id position vr source_type) = refl
no_setting (cfg.Output data_id position vr) = refl
no_setting cfg.Clear = refl
no_setting (cfg.Target net) = refl
no_setting (cfg.Source net) = refl
no_setting (cfg.Parameter vr kind value) = refl
no_setting (cfg.Tunable param_id position vr kind) = refl
no_setting (cfg.ParamNet param_id protocol port ip) = refl
no_setting (cfg.Logging category level mode) = refl
no_setting (cfg.Scope data_id scope) = refl

in_list : (list : List Cfg) (n : ℕ) (r : Request) → slice_get (map Configure list) n ≡ Some r → event_for (code_of r) ≡ None
in_list [] n r e = absurd cc
in_list (b ∷ list) zero r e = let z : Configure b ≡ r = cc in ap (λ (q : Request). event_for (code_of q)) (sym z) ∙ no_setting b
in_list (b ∷ list) (suc n) r e = in_list list n r e

in_one : (q : Request) (n : ℕ) (r : Request) (o : Option RowEvent) → slice_get (q ∷ []) n ≡ Some r → event_for (code_of q) ≡ o → event_for (code_of r) ≡ o
in_one q zero r o e h = let z : q ≡ r = cc in ap (λ (y : Request). event_for (code_of y)) (sym z) ∙ h
in_one q (suc n) r o e h = absurd cc

task_event : (task : Task) (list : List Cfg) (n : ℕ) (r : Request) → slice_get (asked_by (record { task = task; list = list })) n ≡ Some r → event_for (code_of r) ≡ row_event_in task
task_event (tasks.Register uuid) list n r e = in_one _ n r None e refl
task_event tasks.Setup list n r e = in_list list n r e
task_event tasks.Prepare list n r e = in_one _ n r None e refl
task_event tasks.Configure list n r e = in_one _ n r None e refl
task_event tasks.Initialize list n r e = in_one _ n r None e refl
task_event (tasks.FirstOutputs row) list n r e = in_one _ n r (Some Show) e refl
task_event tasks.Run list n r e = in_one _ n r None e refl
task_event (tasks.Step k) list n r e = in_one _ n r (Some Step) e refl
task_event (tasks.Outputs k row) list n r e = in_one _ n r (Some Show) e refl
task_event tasks.Stop list n r e = in_one _ n r None e refl
task_event tasks.Reset list n r e = in_one _ n r (Some Restart) e refl
task_event tasks.Adjust list n r e = in_list list n r e
task_event tasks.Deregister list n r e = in_one _ n r None e refl

pub slot_event : (job : Job) (n : ℕ) (r : Request) → slice_get (asked_by job) n ≡ Some r → event_for (code_of r) ≡ row_event_in job.task
slot_event job n r e = task_event job.task job.list n r e

-- and it is the one request of its job
pub task_alone : (task : Task) (list : List Cfg) → is_some (row_event_in task) ≡ true → length (asked_by (record { task = task; list = list })) ≡ 1
task_alone (tasks.FirstOutputs row) list h = refl
task_alone (tasks.Step k) list h = refl
task_alone (tasks.Outputs k row) list h = refl
task_alone tasks.Reset list h = refl
task_alone (tasks.Register uuid) list h = absurd cc
task_alone tasks.Setup list h = absurd cc
task_alone tasks.Prepare list h = absurd cc
task_alone tasks.Configure list h = absurd cc
task_alone tasks.Initialize list h = absurd cc
task_alone tasks.Run list h = absurd cc
task_alone tasks.Stop list h = absurd cc
task_alone tasks.Adjust list h = absurd cc
task_alone tasks.Deregister list h = absurd cc

get_one : {A : Type 0} (xs : List A) (n : ℕ) (x : A) → length xs ≡ 1 → slice_get xs n ≡ Some x → n ≡ 0
get_one [] n x l e = absurd cc
get_one (y ∷ ys) zero x l e = refl
get_one (y ∷ []) (suc n) x l e = absurd cc
get_one (y ∷ z ∷ ys) (suc n) x l e = absurd (omega (arith, l))

event_slot : (job : Job) (n : ℕ) (r : Request) → slice_get (asked_by job) n ≡ Some r → is_some (event_for (code_of r)) ≡ true → n ≡ 0
event_slot job n r e h = get_one (asked_by job) n r (task_alone job.task job.list (ap is_some (sym (slot_event job n r e)) ∙ h)) e

abbrev if_some : Option RowEvent → ℕ → ℕ
if_some None n = 0
if_some (Some k) n = n

mains_events : (job : Job) (o : Option RowEvent) → row_event_in job.task ≡ o → (ms : List Asking) → AreMains job ms → events_acked ms ≡ if_some o (acked ms)
mains_events job None e [] m = refl
mains_events job (Some k) e [] m = refl
mains_events job None e (b ∷ ms) m =
    let z : asks_event b ≡ false = ap (λ (n : ℕ). is_some (event_for n)) ((m.0).of).0 ∙ ap is_some (slot_event job (acked ms) (m.0).request (m.0).slot ∙ e) in
    events_off b ms z ∙ mains_events job None e ms (m.1).1
mains_events job (Some k) e (b ∷ ms) m =
    let z : asks_event b ≡ true = ap (λ (n : ℕ). is_some (event_for n)) ((m.0).of).0 ∙ ap is_some (slot_event job (acked ms) (m.0).request (m.0).slot ∙ e) in
    let y : is_main b ≡ true = of_main (m.0).request b (m.0).of ∙ (m.0).main in
    let h = mains_events job (Some k) e ms (m.1).1 in
    events_more b ms ∙ ap (λ (t : Bool). one_if (t && is_acked b) + events_acked ms) z ∙ ap (λ (n : ℕ). one_if (true && is_acked b) + n) h
    ∙ ap (λ (t : Bool). one_if (t && is_acked b) + acked ms) (sym y) ∙ sym (acked_more b ms)

pub whole_events : (job : Job) (ms : List Asking) → AreMains job ms → acked ms ≡ length (asked_by job) → events_acked ms ≡ events_of job
whole_events job ms m w = by (row_event_in job.task) refl
  where
    by : (o : Option RowEvent) → row_event_in job.task ≡ o → events_acked ms ≡ events_of job
    by None e = mains_events job None e ms m ∙ sym (ap (λ (o : Option RowEvent). if is_some o then 1 else 0) e)
    by (Some k) e = mains_events job (Some k) e ms m ∙ w ∙ task_alone job.task job.list (ap is_some e) ∙ sym (ap (λ (o : Option RowEvent). if is_some o then 1 else 0) e)

-- ---- a phase that has passed has its row event acknowledged
passed_events : (limits : Limits) (js : List Job) (job : Job) (xs : List Placed) → AreLegal limits js (marks_of xs) → Stage job (marks_of xs) (now xs) → is_passed job (marks_of xs) ≡ true → open_request (marks_of xs) ≡ None → events_acked (now xs) ≡ events_of job
passed_events limits js job xs l (idling q e a) p o = ap events_acked e ∙ whole_events job [] tt (sym (ap length a))
passed_events limits js job xs l (main_open r q k) p o = let z : Some r ≡ None = ap open_in (sym q) ∙ o in absurd cc
passed_events limits js job xs l (question_open r q k) p o = let z : Some r ≡ None = ap open_in (sym q) ∙ o in absurd cc
passed_events limits js job xs l (trying r code q h k) p o = absurd (tried_not_passed limits js job xs r code l h k p)
passed_events limits js job xs l (mains_done r q k w) p o = whole_events job (now xs) (mains_acked job r (now xs) k).0 w
passed_events limits js job xs l (state_told s q k h) p o =
    ap events_acked k.is ∙ questions_off (k.newest ∷ k.qs) k.ms (of_main AskState k.newest k.of ∙ k.asks, k.questions) ∙ whole_events job k.ms k.mains k.whole

job_none : (ms : List Mark) → count is_begun ms ≡ 0 → job_of ms ≡ None
job_none [] c = refl
job_none (Begun j ∷ ms) c = absurd (omega (arith, c))
job_none (Asked q ∷ ms) c = job_none ms c
job_none (Again ∷ ms) c = job_none ms c
job_none (Answered q a ∷ ms) c = job_none ms c
job_none (Hinted ∷ ms) c = job_none ms c
job_none (Brought n q ∷ ms) c = job_none ms c
job_none (Turned t ∷ ms) c = job_none ms c
job_none (Ended cause ∷ ms) c = job_none ms c

-- what was acknowledged before the phase
pub past_events : (limits : Limits) (js : List Job) (xs : List Placed) → AreLegal limits js (marks_of xs) → (p : ℕ) → count is_begun (marks_of xs) ≡ p + 1 → events_acked (askings_told (past xs)) ≡ events_before js p
past_events limits js [] l p c = absurd (omega (arith, c))
past_events limits js (x ∷ xs) l p c = by x.mark l.0 c (λ p c. past_events limits js xs l.1 p c)
  where
    from_zero : (p : ℕ) → count is_begun (marks_of xs) ≡ p → job_of (marks_of xs) ≡ None → events_acked (askings_told xs) ≡ events_before js p
    from_zero p c e =
        let z = none_asked limits js xs l.1 e in
        let y : p ≡ 0 = sym c ∙ z.1 in
        ap events_acked z.0 ∙ sym (none_before js) ∙ ap (events_before js) (sym y)

    from_passed : (p : ℕ) → count is_begun (marks_of xs) ≡ p → Rests limits (marks_of xs) → open_request (marks_of xs) ≡ None → HasPassed (marks_of xs) → ((q : ℕ) → count is_begun (marks_of xs) ≡ q + 1 → events_acked (askings_told (past xs)) ≡ events_before js q) → events_acked (askings_told xs) ≡ events_before js p
    from_passed zero c r o h f = let z = job_none (marks_of xs) c in let y : None ≡ Some h.job = sym z ∙ h.job_is in absurd cc
    from_passed (suc q) c r o h f =
        let c' : count is_begun (marks_of xs) ≡ q + 1 = omega (arith, c) in
        let here = job_phase limits js (marks_of xs) l.1 h.job h.job_is q c' in
        let full = passed_events limits js h.job xs l.1 (stage limits js xs l.1 r h.cause_is h.job h.job_is) h.passed o in
        let before = f q c' in
        let whole = ap events_acked (split limits js xs l.1) ∙ events_append (now xs) (askings_told (past xs)) in
        let next = before_next js q h.job here in
        let k : suc q ≡ q + 1 = omega arith in
        let e : events_acked (askings_told xs) ≡ events_before js (q + 1) = omega (arith, whole, full, before, next) in
        e ∙ ap (events_before js) (sym k)

    by : (m : Mark) → IsLegal limits js m (marks_of xs) → count is_begun (m ∷ marks_of xs) ≡ p + 1 → ((q : ℕ) → count is_begun (marks_of xs) ≡ q + 1 → events_acked (askings_told (past xs)) ≡ events_before js q) → events_acked (askings_told (past_by m xs (past xs))) ≡ events_before js p
    by (Begun j) k c f = begun (k.1).passed
      where
        c' : count is_begun (marks_of xs) ≡ p
        c' = omega (arith, c)

        begun : (job_of (marks_of xs) ≡ None) ⊎ (verdict_of (marks_of xs) ≡ verdicts.Passed) → events_acked (askings_told xs) ≡ events_before js p
        begun (inl e) = from_zero p c' e
        begun (inr v) = from_passed p c' k.0 (k.1).free (verdict_passed (marks_of xs) v) f
    by (Asked r) k c f = f p c
    by Again k c f = f p c
    by (Answered r a) k c f = f p c
    by Hinted k c f = f p c
    by (Brought n q) k c f = f p c
    by (Turned t) k c f = f p c
    by (Ended cause) k c f = f p c

-- ---- in the phase at most its own row event is acknowledged, and none while it is open
abbrev events_by : Option Job → ℕ
events_by None = 0
events_by (Some job) = events_of job

record Few (o : Option Job) (l : Latest) (bs : List Asking) : Type 0 where
  pub few : events_acked bs ≤ events_by o
  pub none : (r : Request) → l ≡ latests.Asked r → is_some (event_for (code_of r)) ≡ true → (events_acked bs ≡ 0) × (events_by o ≡ 1)

-- what has been asked has a job, and the conversation has not ended
lives : (limits : Limits) (ms : List Mark) (r : Request) → Does limits ms (Ask r) → (cause_of ms ≡ None) × ((job : Job) × (job_of ms ≡ Some job))
lives limits [] r d = absurd d
lives limits (m ∷ ms) r d = (cause_on m (acts limits m ms (λ z. clash (sym d ∙ z))) d, with_job (job_of (m ∷ ms)) refl)
  where
    clash : Ask r ≡ Wait → ⊥
    clash z = cc

    ended : (c : Cause) → reaction limits (Ended c) ms ≡ Ask r → ⊥
    ended c h = let z : Wait ≡ Ask r = sym (own_rests limits (Ended c) ms tt) ∙ h in cc

    cause_on : (m : Mark) → cause_of ms ≡ None → reaction limits m ms ≡ Ask r → cause_of (m ∷ ms) ≡ None
    cause_on (Begun j) e h = e
    cause_on (Asked q) e h = e
    cause_on Again e h = e
    cause_on (Answered q a) e h = e
    cause_on Hinted e h = e
    cause_on (Brought n p) e h = e
    cause_on (Turned t) e h = e
    cause_on (Ended cause) e h = absurd (ended cause h)

    with_job : (o : Option Job) → job_of (m ∷ ms) ≡ o → (job : Job) × (job_of (m ∷ ms) ≡ Some job)
    with_job None e = absurd (clash (sym d ∙ no_reaction limits m ms e))
    with_job (Some job) e = (job, e)

-- the newest request is open, and is for a row event: then none of the phase is acknowledged
open_none : (job : Job) (r : Request) (bs : List Asking) → Main job r None bs ⊎ Question job r None bs → is_some (event_for (code_of r)) ≡ true → (events_acked bs ≡ 0) × (events_of job ≡ 1)
open_none job r bs (inl m) e =
    let z = event_slot job (acked m.ms) r m.slot e in
    let f = events_few m.ms in
    let g = events_more m.newest m.ms in
    let h : one_if (asks_event m.newest && is_acked m.newest) ≡ 0 = ap (λ (o : Option Decision). one_if (asks_event m.newest && is_acked_by o)) m.decided ∙ never (asks_event m.newest) in
    (ap events_acked m.is ∙ omega (arith, z, f, g, h), ap (λ (b : Bool). if b then 1 else 0) (ap is_some (sym (slot_event job (acked m.ms) r m.slot)) ∙ e))
  where
    never : (b : Bool) → one_if (b && false) ≡ 0
    never true = refl
    never false = refl
open_none job r bs (inr q) e =
    let b : Asking = q.newest in
    let z : asks_event b ≡ true = ap (λ (n : ℕ). is_some (event_for n)) (q.of).0 ∙ e in
    let y : false ≡ true = sym (of_main r b q.of ∙ q.asks) ∙ event_main b.code z in
    absurd cc

few_again : (o : Option Job) (l : Latest) (n : ℕ) (bs : List Asking) → Few o l bs → Few o l (again_at n bs)
few_again o l n [] h = h
few_again o l n (b ∷ bs) h =
    let new : Asking = record { code = b.code; number = b.number; more = b.more; first = b.first; repeats = n ∷ b.repeats; decision = b.decision } in
    let e : events_acked (new ∷ bs) ≡ events_acked (b ∷ bs) = events_more new bs ∙ sym (events_more b bs) in
    let f = h.few in
    record { few = omega (arith, e, f); none = λ r z w. let k = h.none r z w in (e ∙ k.0, k.1) }

few_decided : (o : Option Job) (n : ℕ) (r : Request) (a : Answer) (bs : List Asking) → Linked (latests.Asked r) bs → Few o (latests.Asked r) bs → Few o (latests.Answered r a) (decided_at n a bs)
few_decided o n r a [] k h = absurd k
few_decided o n r a (b ∷ bs) k h =
    record { few = by (is_some (event_for (code_of r))) refl (events_more new bs) (events_more b bs); none = λ q z w. absurd (clash q z) }
  where
    clash : (q : Request) → latests.Answered r a ≡ latests.Asked q → ⊥
    clash q z = cc

    at_most : (x y : Bool) → one_if (x && y) ≤ 1
    at_most true true = omega arith
    at_most true false = omega arith
    at_most false y = omega arith

    new : Asking
    new = record { code = b.code; number = b.number; more = b.more; first = b.first; repeats = b.repeats; decision = decided_by b.decision (record { place = n; answer = a }) }

    by : (t : Bool) → is_some (event_for (code_of r)) ≡ t → events_acked (new ∷ bs) ≡ one_if (asks_event b && is_acked new) + events_acked bs → events_acked (b ∷ bs) ≡ one_if (asks_event b && is_acked b) + events_acked bs → events_acked (new ∷ bs) ≤ events_by o
    by true e f g =
        let u = h.none r refl e in
        let v = u.0 in
        let w = u.1 in
        let z = at_most (asks_event b) (is_acked new) in
        omega (arith, f, g, v, w, z)
    by false e f g =
        let z : asks_event b ≡ false = ap (λ (i : ℕ). is_some (event_for i)) (k.0).0 ∙ e in
        let x = ap (λ (t : Bool). one_if (t && is_acked new)) z in
        let y = h.few in
        omega (arith, f, g, x, y)

few : (limits : Limits) (js : List Job) (xs : List Placed) → AreLegal limits js (marks_of xs) → Few (job_of (marks_of xs)) (latest (marks_of xs)) (now xs)
few limits js [] l = record { few = omega arith; none = λ r z w. absurd (clash r z) }
  where
    clash : (r : Request) → latests.Nothing ≡ latests.Asked r → ⊥
    clash r z = cc
few limits js (x ∷ xs) l = by x.mark l (linked limits js xs l.1) (few limits js xs l.1)
  where
    nothing : (r : Request) → latests.Nothing ≡ latests.Asked r → ⊥
    nothing r z = cc

    same : (q r : Request) → latests.Asked q ≡ latests.Asked r → q ≡ r
    same q r z = cc

    by : (m : Mark) → AreLegal limits js (m ∷ marks_of xs) → Linked (latest (marks_of xs)) (now xs) → Few (job_of (marks_of xs)) (latest (marks_of xs)) (now xs) → Few (job_of (m ∷ marks_of xs)) (latest (m ∷ marks_of xs)) (now_by x.place m (marks_of xs) (now xs))
    by (Begun j) k i h = record { few = omega arith; none = λ r z w. absurd (nothing r z) }
    by (Asked r) k i h =
        let v = lives limits (marks_of xs) r k.0 in
        let b : Asking = first_at x.place (asked (marks_of xs) % 65536) r in
        let e = events_more b (now xs) in
        let z : one_if (asks_event b && false) ≡ 0 = never (asks_event b) in
        let f = h.few in
        record {
          few = omega (arith, e, z, f);
          none = λ q y w.
              let P : Option Job → Type 0 = λ o. (events_acked (b ∷ now xs) ≡ 0) × (events_by o ≡ 1) in
              let s = stage limits js (at x.place (Asked r) ∷ xs) k (own_rests limits (Asked r) (marks_of xs) tt) v.0 (v.1).0 (v.1).1 in
              subst P (sym (v.1).1) (open_none (v.1).0 r (b ∷ now xs) (open_stage (v.1).0 (Asked r ∷ marks_of xs) (b ∷ now xs) r refl s) (ap (λ (c : Request). is_some (event_for (code_of c))) (same r q y) ∙ w));
        }
      where
        never : (b : Bool) → one_if (b && false) ≡ 0
        never true = refl
        never false = refl
    by Again k i h = few_again (job_of (marks_of xs)) (latest (marks_of xs)) x.place (now xs) h
    by (Answered r a) k i h =
        let e = open_latest (latest (marks_of xs)) r (k.0).1 in
        let P : Latest → Type 0 = λ y. Linked y (now xs) in
        let Q : Latest → Type 0 = λ y. Few (job_of (marks_of xs)) y (now xs) in
        few_decided (job_of (marks_of xs)) x.place r a (now xs) (subst P e i) (subst Q e h)
    by Hinted k i h = h
    by (Brought n p) k i h = h
    by (Turned t) k i h = h
    by (Ended cause) k i h = h

-- ---- where a conversation stands in its phase
-- what is told later takes nothing back
told_rises : (t : steps.Told) (v : BenchProgress) → v.done ≤ (view_after t v).done
told_rises (steps.Begins k) v = by v.waiting
  where
    by : (b : Bool) → v.done ≤ (if b then v.done + 1 else v.done)
    by true = omega arith
    by false = omega arith
told_rises steps.Does v = by v.waiting
  where
    by : (b : Bool) → v.done ≤ (if b then v.done + 1 else v.done) + 1
    by true = omega arith
    by false = omega arith
told_rises steps.Rested v = by v.waiting
  where
    by : (b : Bool) → v.done ≤ (if b then v.done + 1 else v.done)
    by true = omega arith
    by false = omega arith
told_rises steps.Nothing v = omega arith

one_rises : (code : ℕ) (d : Option Decision) (v : BenchProgress) → v.done ≤ (progress_after code d v).done
one_rises code None v = omega arith
one_rises code (Some d) v = told_rises (told_by (event_for code) (reply_by d.answer)) v

progress_rises : (bs cs : List Asking) → (progress cs).done ≤ (progress (bs ++ cs)).done
progress_rises [] cs = omega arith
progress_rises (b ∷ bs) cs = let h = progress_rises bs cs in let e = one_rises b.code b.decision (progress (bs ++ cs)) in omega (arith, h, e)

pub at_rest : (v : BenchProgress) → v.waiting ≡ false → events_counted v ≡ v.done
at_rest v e = ap (λ (b : Bool). if b then v.done + 1 else v.done) e

abbrev Placing : Limits → List Job → List Placed → ℕ → Type 0
Placing limits js xs p = AreLegal limits js (marks_of xs) × (count is_begun (marks_of xs) ≡ p + 1)

-- the row events of the phases before are done
past_done : (limits : Limits) (js : List Job) (xs : List Placed) (p : ℕ) → Placing limits js xs p → (progress (askings_told (past xs))).done ≡ events_before js p
past_done limits js xs p k = sym (at_rest (progress (askings_told (past xs))) (rest_before limits js xs k.0)) ∙ acknowledged (askings_told (past xs)) ∙ past_events limits js xs k.0 p k.1

-- requests of this phase of which at most its row event is acknowledged
stands_by : (limits : Limits) (js : List Job) (xs : List Placed) (p : ℕ) → Placing limits js xs p → (bs : List Asking) → events_acked bs ≤ events_by (job_of (marks_of xs)) → StandsInPhase js p (progress (bs ++ askings_told (past xs)))
stands_by limits js xs p k bs h =
    let rise = progress_rises bs (askings_told (past xs)) in
    let done = past_done limits js xs p k in
    let all = acknowledged (bs ++ askings_told (past xs)) ∙ events_append bs (askings_told (past xs)) in
    let before = past_events limits js xs k.0 p k.1 in
    let j = job_some (marks_of xs) p k.1 in
    let next = before_next js p j.0 (job_phase limits js (marks_of xs) k.0 j.0 j.1 p k.1) in
    let own : events_by (job_of (marks_of xs)) ≡ events_of j.0 = ap events_by j.1 in
    record { least = omega (arith, rise, done); most = omega (arith, all, before, next, own, h) }

pub stands : (limits : Limits) (js : List Job) (xs : List Placed) (p : ℕ) → AreLegal limits js (marks_of xs) → count is_begun (marks_of xs) ≡ p + 1 → StandsInPhase js p (progress (askings_told xs))
stands limits js xs p l c =
    let P : List Asking → Type 0 = λ z. StandsInPhase js p (progress z) in
    subst P (sym (split limits js xs l)) (stands_by limits js xs p (l, c) (now xs) (few limits js xs l).few)

-- the newest request may be answered late
pub same_progress : (n : ℕ) (cs bs : List Asking) → AreLate n cs bs → AreDecided bs → progress cs ≡ progress bs
same_progress n [] [] l d = refl
same_progress n [] (b ∷ bs) l d = absurd l
same_progress n (c ∷ cs) [] l d = absurd l
same_progress n (c ∷ cs) (b ∷ bs) l d =
    ap (λ (i : ℕ). progress_after i c.decision (progress cs)) (l.0).code
    ∙ ap (λ (o : Option Decision). progress_after b.code o (progress cs)) (by b.decision refl d.0)
    ∙ ap (λ (z : List Asking). progress_after b.code b.decision (progress z)) l.1
  where
    by : (o : Option Decision) → b.decision ≡ o → is_some o ≡ true → c.decision ≡ b.decision
    by None e h = absurd cc
    by (Some d) e h = (l.0).kept d e ∙ sym e

pub late_stands : (limits : Limits) (js : List Job) (xs : List Placed) (p : ℕ) → AreLegal limits js (marks_of xs) → count is_begun (marks_of xs) ≡ p + 1 → (n : ℕ) (cs : List Asking) → AreLate n cs (askings_told xs) → StandsInPhase js p (progress cs)
late_stands limits js xs p l c n cs late = by (latest (marks_of xs)) refl (linked limits js xs l) (few limits js xs l)
  where
    P : BenchProgress → Type 0
    P v = StandsInPhase js p v

    closed : open_request (marks_of xs) ≡ None → StandsInPhase js p (progress cs)
    closed o = subst P (sym (same_progress n cs (askings_told xs) late ((ordered limits js xs l).decided o))) (stands limits js xs p l c)

    at_most : (x y : Bool) → one_if (x && y) ≤ 1
    at_most true true = omega arith
    at_most true false = omega arith
    at_most false y = omega arith

    opened : (r : Request) (ys : List Asking) → now xs ≡ ys → latest (marks_of xs) ≡ latests.Asked r → Linked (latests.Asked r) ys → AreLate n cs (ys ++ askings_told (past xs)) → Few (job_of (marks_of xs)) (latests.Asked r) ys → StandsInPhase js p (progress cs)
    opened r [] e q k a f = absurd k
    opened r (b ∷ ys) e q k a f = newest cs a
      where
        newest : (cs : List Asking) → AreLate n cs ((b ∷ ys) ++ askings_told (past xs)) → StandsInPhase js p (progress cs)
        newest [] a = absurd a
        newest (d ∷ ds) a =
            let Q : List Asking → Type 0 = λ z. StandsInPhase js p (progress (d ∷ z)) in
            subst Q (sym a.1) (stands_by limits js xs p (l, c) (d ∷ ys) (bounded (is_some (event_for (code_of r))) refl (events_more d ys) (events_more b ys)))
          where
            code_is : asks_event d ≡ is_some (event_for (code_of r))
            code_is = ap (λ (i : ℕ). is_some (event_for i)) ((a.0).code ∙ (k.0).0)

            bounded : (t : Bool) → is_some (event_for (code_of r)) ≡ t → events_acked (d ∷ ys) ≡ one_if (asks_event d && is_acked d) + events_acked ys → events_acked (b ∷ ys) ≡ one_if (asks_event b && is_acked b) + events_acked ys → events_acked (d ∷ ys) ≤ events_by (job_of (marks_of xs))
            bounded true t u v =
                let w = f.none r refl t in
                let x = w.0 in
                let y = w.1 in
                let z = at_most (asks_event d) (is_acked d) in
                omega (arith, u, v, x, y, z)
            bounded false t u v =
                let x = ap (λ (z : Bool). one_if (z && is_acked d)) (code_is ∙ t) in
                let y = f.few in
                omega (arith, u, v, x, y)

    by : (o : Latest) → latest (marks_of xs) ≡ o → Linked o (now xs) → Few (job_of (marks_of xs)) o (now xs) → StandsInPhase js p (progress cs)
    by latests.Nothing e k f = closed (ap open_in e)
    by (latests.Answered r a) e k f = closed (ap open_in e)
    by (latests.Asked r) e k f =
        let Q : List Asking → Type 0 = λ z. AreLate n cs z in
        opened r (now xs) refl e k (subst Q (split limits js xs l) late) f

-- ---- where a row event is open
-- xs end in the request for it, or in its repeat
pub record IsOpen (limits : Limits) (js : List Job) (xs : List Placed) (r : Request) (k : RowEvent) : Type 0 where
  pub rest : (progress (askings_told xs)).waiting ≡ false
  pub f : ℕ
  pub phase_is : count is_begun (marks_of xs) ≡ f + 1
  pub job : Job
  pub job_is : slice_get js f ≡ Some job
  pub event_is : row_event_in job.task ≡ Some k
  pub done : (progress (askings_told xs)).done ≡ events_before js f

pub open_event : (limits : Limits) (js : List Job) (xs : List Placed) (r : Request) (k : RowEvent) → AreLegal limits js (marks_of xs) → Rests limits (marks_of xs) → cause_of (marks_of xs) ≡ None → (job : Job) → job_of (marks_of xs) ≡ Some job
    → latest (marks_of xs) ≡ latests.Asked r → event_for (code_of r) ≡ Some k → (p : ℕ) → count is_begun (marks_of xs) ≡ p + 1 → IsOpen limits js xs r k
open_event limits js xs r k l rs c job j o e p n =
    let s = open_stage job (marks_of xs) (now xs) r o (stage limits js xs l rs c job j) in
    let none = open_none job r (now xs) s (ap is_some e) in
    let rest = rest_open limits js xs r k l rs c job j o e in
    let all = ap events_acked (split limits js xs l) ∙ events_append (now xs) (askings_told (past xs)) in
    let before = past_events limits js xs l p n in
    let zero_now = none.0 in
    let counted = sym (at_rest (progress (askings_told xs)) rest) ∙ acknowledged (askings_told xs) in
    record {
      rest = rest;
      f = p;
      phase_is = n;
      job = job;
      job_is = job_phase limits js (marks_of xs) l job j p n;
      event_is = by s;
      done = omega (arith, all, before, zero_now, counted);
    }
  where
    by : Main job r None (now xs) ⊎ Question job r None (now xs) → row_event_in job.task ≡ Some k
    by (inl m) = sym (slot_event job (acked m.ms) r m.slot) ∙ e
    by (inr q) =
        let b : Asking = q.newest in
        let z : asks_event b ≡ true = ap (λ (i : ℕ). is_some (event_for i)) (q.of).0 ∙ ap is_some e in
        let y : false ≡ true = sym (of_main r b q.of ∙ q.asks) ∙ event_main b.code z in
        absurd cc
