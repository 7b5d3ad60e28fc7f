-- By the marks of a conversation: a phase that has passed leaves its row event done.
use Rattle.std.proofs.Common.{◌≡◌, ℕ, ◌+◌, Bool, true, false, if◌then◌else◌, Option, Some, None, List, [], ◌∷◌, ◌++◌, refl, sym, ap, ◌∙◌, subst, arith}
use Rattle.std.specs.Prelude.{◌&&◌, ◌||◌, is_some}
use Rattle.std.specs.List.{list_any}
use Rattle.std.proofs.lemmas.Bool.{eqb-true, and_parts}
use Rattle.std.proofs.lemmas.List.{append_assoc}
use Rattle.dcp_types.specs.declared.limits.Limits.{Limits}
use Rattle.lockstep_laws.specs.Steps.{RowEvent, Reply, AtRest, Otherwise, told_by, is_on_its_way, BenchProgress, events_counted, view_after}
use Rattle.master_spec.specs.declared.requests.Request.{Request}
use Rattle.master_spec.specs.declared.requests.Request.TheVariants.{AskState}
use Rattle.master_spec.specs.declared.requests.Answer.{Answer}
use Rattle.master_spec.specs.declared.requests.Answer.TheVariants.{Ack, Nack, StateAck, ErrorAck, LogAck}
use Rattle.master_spec.specs.declared.tasks.Task.{Task}
use Rattle.master_spec.specs.declared.tasks.Task.TheVariants as tasks
use Rattle.master_spec.specs.Tasks.{is_by_list, is_by_end, target_of}
use Rattle.master_spec.specs.Jobs.{Job}
use Rattle.master_spec.specs.Marks.{count, is_begun, is_passed}
use Rattle.master_spec.specs.Conversation.{is_state}
use Rattle.master_spec.specs.Requests.{Asking, Decision, is_state_question, acked}
use Rattle.master_spec.specs.Shown.{names_in, names_target}
use Rattle.master_log_laws.specs.Asking.Legal.{Rests, AreLegal}
use Rattle.master_log_laws.specs.Index.Index.{Placed, marks_of, askings_told}
use Rattle.master_log_laws.proofs.Phases.Now.{now, past, split}
use Rattle.master_log_laws.proofs.Phases.Mains.{AreMains, AreQuestions, of_main}
use Rattle.master_log_laws.proofs.Phases.Counts.{names_it, reached_now}
use Rattle.master_log_laws.proofs.Phases.Stage.{Main, Question, Stage, idling, main_open, question_open, trying, mains_done, state_told, mains_acked}
use Rattle.master_log_laws.proofs.Phases.Stages.{stage}
use Rattle.master_log_laws.proofs.Phases.Tags.{job_phase, HasPassed, mains_name, passed_reached, tried_not_passed}
use Rattle.master_laws.proofs.Rest.Resting.{rest_before}
use Rattle.master_laws.specs.Rows.Laws.{event_for, reply_by, progress_after, progress}
use Rattle.master_laws.proofs.Rows.Views.{acknowledged}
use Rattle.master_laws.specs.Barrier.Laws.{row_event_in, events_before}
use Rattle.master_laws.proofs.Barrier.Scripts.{events_of, before_next}
use Rattle.master_laws.proofs.Barrier.Counting.{events_acked, events_append, not_event, events_off, questions_off, slot_event, whole_events, past_events, at_rest}

-- ---- requests that are for no row event
abbrev AreOff : List Asking → Type 0
AreOff [] = Unit {0}
AreOff (b ∷ bs) = (event_for b.code ≡ None) × AreOff bs

off_append : (bs cs : List Asking) → AreOff bs → AreOff cs → AreOff (bs ++ cs)
off_append [] cs a b = b
off_append (x ∷ bs) cs a b = (a.0, off_append bs cs a.1 b)

off_events : (bs : List Asking) → AreOff bs → events_acked bs ≡ 0
off_events [] a = refl
off_events (b ∷ bs) a = events_off b bs (ap is_some a.0) ∙ off_events bs a.1

still_rests : (code : ℕ) (d : Option Decision) (v : BenchProgress) → event_for code ≡ None → v.waiting ≡ false → (progress_after code d v).waiting ≡ false
still_rests code None v e h = h
still_rests code (Some d) v e h = ap (λ (o : Option RowEvent). (view_after (told_by o (reply_by d.answer)) v).waiting) e ∙ by (reply_by d.answer)
  where
    by : (r : Reply) → (view_after (told_by None r) v).waiting ≡ false
    by r = grind (arith, h)

off_rests : (bs cs : List Asking) → AreOff bs → (progress cs).waiting ≡ false → (progress (bs ++ cs)).waiting ≡ false
off_rests [] cs a h = h
off_rests (b ∷ bs) cs a h = still_rests b.code b.decision (progress (bs ++ cs)) a.0 (off_rests bs cs a.1 h)

none_of : (o : Option RowEvent) → is_some o ≡ false → o ≡ None
none_of None e = refl
none_of (Some k) e = absurd cc

questions_are_off : (qs : List Asking) → AreQuestions qs → AreOff qs
questions_are_off [] q = tt
questions_are_off (b ∷ qs) q = (none_of (event_for b.code) (not_event b q.0), questions_are_off qs q.1)

mains_are_off : (job : Job) (ms : List Asking) → row_event_in job.task ≡ None → AreMains job ms → AreOff ms
mains_are_off job [] e m = tt
mains_are_off job (b ∷ ms) e m = (ap event_for ((m.0).of).0 ∙ slot_event job (acked ms) (m.0).request (m.0).slot ∙ e, mains_are_off job ms e (m.1).1)

main_is_off : (job : Job) (r : Request) (d : Option Answer) (bs : List Asking) → row_event_in job.task ≡ None → Main job r d bs → AreOff bs
main_is_off job r d bs e k =
    let P : List Asking → Type 0 = λ z. AreOff z in
    subst P (sym k.is) (ap event_for (k.of).0 ∙ slot_event job (acked k.ms) r k.slot ∙ e, mains_are_off job k.ms e k.mains)

question_is_off : (job : Job) (r : Request) (d : Option Answer) (bs : List Asking) → row_event_in job.task ≡ None → Question job r d bs → AreOff bs
question_is_off job r d bs e k =
    let P : List Asking → Type 0 = λ z. AreOff z in
    subst P (sym k.is) (off_append (k.newest ∷ k.qs) k.ms (questions_are_off (k.newest ∷ k.qs) (of_main r k.newest k.of ∙ k.asks, k.questions)) (mains_are_off job k.ms e k.mains))

stage_is_off : (job : Job) (xs : List Placed) → row_event_in job.task ≡ None → Stage job (marks_of xs) (now xs) → AreOff (now xs)
stage_is_off job xs e (idling q b a) = let P : List Asking → Type 0 = λ z. AreOff z in subst P (sym b) tt
stage_is_off job xs e (main_open r q k) = main_is_off job r None (now xs) e k
stage_is_off job xs e (question_open r q k) = question_is_off job r None (now xs) e k
stage_is_off job xs e (trying r code q h k) = main_is_off job r (Some (Nack code)) (now xs) e k
stage_is_off job xs e (mains_done r q k w) = main_is_off job r (Some Ack) (now xs) e k
stage_is_off job xs e (state_told s q k h) = question_is_off job AskState (Some (StateAck s)) (now xs) e k

-- ---- the target was named
names_rest : (task : Task) (s : ℕ) → is_state (target_of task) s ≡ true → is_on_its_way s ≡ false
names_rest (tasks.Register uuid) s h = ap is_on_its_way (eqb-true s _ h)
names_rest tasks.Setup s h = ap is_on_its_way (eqb-true s _ h)
names_rest tasks.Prepare s h = ap is_on_its_way (eqb-true s _ h)
names_rest tasks.Configure s h = ap is_on_its_way (eqb-true s _ h)
names_rest tasks.Initialize s h = ap is_on_its_way (eqb-true s _ h)
names_rest (tasks.FirstOutputs row) s h = ap is_on_its_way (eqb-true s _ h)
names_rest tasks.Run s h = ap is_on_its_way (eqb-true s _ h)
names_rest (tasks.Step k) s h = ap is_on_its_way (eqb-true s _ h)
names_rest (tasks.Outputs k row) s h = ap is_on_its_way (eqb-true s _ h)
names_rest tasks.Stop s h = ap is_on_its_way (eqb-true s _ h)
names_rest tasks.Reset s h = ap is_on_its_way (eqb-true s _ h)
names_rest tasks.Adjust s h = ap is_on_its_way (eqb-true s _ h)
names_rest tasks.Deregister s h = absurd cc

told_target : (task : Task) (a : Answer) (v : BenchProgress) → names_in task a ≡ true → (view_after (told_by None (reply_by a)) v).waiting ≡ false
told_target task (StateAck s) v h = ap (λ (t : Bool). (view_after (told_by None (if t then Otherwise else AtRest)) v).waiting) (names_rest task s h)
told_target task Ack v h = absurd cc
told_target task (Nack code) v h = absurd cc
told_target task (ErrorAck code) v h = absurd cc
told_target task LogAck v h = absurd cc

target_rests : (task : Task) (b : Asking) (v : BenchProgress) → names_it task b ≡ true → (progress_after b.code b.decision v).waiting ≡ false
target_rests task b v h = by b.decision p.1
  where
    p : (is_state_question b ≡ true) × (names_target task b.decision ≡ true)
    p = and_parts (is_state_question b) (names_target task b.decision) h

    off : event_for b.code ≡ None
    off = ap event_for (eqb-true b.code 128 p.0)

    by : (o : Option Decision) → names_target task o ≡ true → (progress_after b.code o v).waiting ≡ false
    by None h = absurd cc
    by (Some d) h = ap (λ (o : Option RowEvent). (view_after (told_by o (reply_by d.answer)) v).waiting) off ∙ told_target task d.answer v h

named_rests : (task : Task) (qs cs : List Asking) → AreOff qs → list_any (names_it task) qs ≡ true → (progress (qs ++ cs)).waiting ≡ false
named_rests task [] cs a h = absurd cc
named_rests task (b ∷ qs) cs a h = by (names_it task b) refl h (λ z. named_rests task qs cs a.1 z)
  where
    by : (t : Bool) → names_it task b ≡ t → (t || list_any (names_it task) qs) ≡ true → (list_any (names_it task) qs ≡ true → (progress (qs ++ cs)).waiting ≡ false) → (progress ((b ∷ qs) ++ cs)).waiting ≡ false
    by true e h f = target_rests task b (progress (qs ++ cs)) e
    by false e h f = still_rests b.code b.decision (progress (qs ++ cs)) a.0 (f h)

any_append : (task : Task) (qs ms : List Asking) → list_any (names_it task) ms ≡ false → list_any (names_it task) (qs ++ ms) ≡ true → list_any (names_it task) qs ≡ true
any_append task [] ms e h = let z : true ≡ false = sym h ∙ e in absurd cc
any_append task (b ∷ qs) ms e h = by (names_it task b) h (λ z. any_append task qs ms e z)
  where
    by : (t : Bool) → (t || list_any (names_it task) (qs ++ ms)) ≡ true → (list_any (names_it task) (qs ++ ms) ≡ true → list_any (names_it task) qs ≡ true) → (t || list_any (names_it task) qs) ≡ true
    by true h f = refl
    by false h f = f h

-- ---- a phase that has passed
-- all of its row event is acknowledged, and it is told
abbrev IsDone : Job → List Asking → List Asking → Type 0
IsDone job bs before = ((progress (bs ++ before)).waiting ≡ false) × (events_acked bs ≡ events_of job)

question_done : (job : Job) (r : Request) (d : Option Answer) (bs before : List Asking) → list_any (names_it job.task) bs ≡ true → Question job r d bs → IsDone job bs before
question_done job r d bs before h k =
    let qs : List Asking = k.newest ∷ k.qs in
    let q : AreQuestions qs = (of_main r k.newest k.of ∙ k.asks, k.questions) in
    let any : list_any (names_it job.task) (qs ++ k.ms) ≡ true = ap (list_any (names_it job.task)) (sym k.is) ∙ h in
    let P : List Asking → Type 0 = λ z. IsDone job z before in
    let Q : List Asking → Type 0 = λ z. (progress z).waiting ≡ false in
    subst P (sym k.is) (
      subst Q (sym (append_assoc qs k.ms before)) (named_rests job.task qs (k.ms ++ before) (questions_are_off qs q) (any_append job.task qs k.ms (mains_name job job.task k.ms k.mains) any)),
      questions_off qs k.ms q ∙ whole_events job k.ms k.mains k.whole,
    )

event_task : (task : Task) (k : RowEvent) → row_event_in task ≡ Some k → (is_by_list task ≡ false) × (is_by_end task ≡ false)
event_task (tasks.FirstOutputs row) k e = (refl, refl)
event_task (tasks.Step n) k e = (refl, refl)
event_task (tasks.Outputs n row) k e = (refl, refl)
event_task tasks.Reset k e = (refl, refl)
event_task (tasks.Register uuid) k e = absurd cc
event_task tasks.Setup k e = absurd cc
event_task tasks.Prepare k e = absurd cc
event_task tasks.Configure k e = absurd cc
event_task tasks.Initialize k e = absurd cc
event_task tasks.Run k e = absurd cc
event_task tasks.Stop k e = absurd cc
event_task tasks.Adjust k e = absurd cc
event_task tasks.Deregister k e = absurd cc

-- no answer named the target while the main request is the newest
main_names_none : (job : Job) (r : Request) (bs : List Asking) → Main job r None bs → list_any (names_it job.task) bs ≡ false
main_names_none job r bs k =
    ap (list_any (names_it job.task)) k.is
    ∙ ap (λ (o : Option Decision). (is_state_question k.newest && names_target job.task o) || list_any (names_it job.task) k.ms) k.decided
    ∙ ap (λ (t : Bool). t || list_any (names_it job.task) k.ms) (none (is_state_question k.newest))
    ∙ mains_name job job.task k.ms k.mains
  where
    none : (b : Bool) → (b && false) ≡ false
    none true = refl
    none false = refl

stage_done : (limits : Limits) (js : List Job) (job : Job) (xs : List Placed) (before : List Asking) → AreLegal limits js (marks_of xs) → is_passed job (marks_of xs) ≡ true → list_any (names_it job.task) (now xs) ≡ true → Stage job (marks_of xs) (now xs) → IsDone job (now xs) before
stage_done limits js job xs before l p h (idling q b a) = let z : false ≡ true = ap (list_any (names_it job.task)) (sym b) ∙ h in absurd cc
stage_done limits js job xs before l p h (main_open r q k) = let z : false ≡ true = sym (main_names_none job r (now xs) k) ∙ h in absurd cc
stage_done limits js job xs before l p h (question_open r q k) = question_done job r None (now xs) before h k
stage_done limits js job xs before l p h (trying r code q w k) = absurd (tried_not_passed limits js job xs r code l w k p)
stage_done limits js job xs before l p h (mains_done r q k w) = let z : false ≡ true = sym (mains_name job job.task (now xs) (mains_acked job r (now xs) k).0) ∙ h in absurd cc
stage_done limits js job xs before l p h (state_told s q k w) = question_done job AskState (Some (StateAck s)) (now xs) before h k

pub passed_rests : (limits : Limits) (js : List Job) (xs : List Placed) (p : ℕ) → AreLegal limits js (marks_of xs) → Rests limits (marks_of xs) → HasPassed (marks_of xs) → count is_begun (marks_of xs) ≡ p + 1
    → progress (askings_told xs) ≡ record { done = events_before js (p + 1); waiting = false }
passed_rests limits js xs p l rs h c = both (progress (askings_told xs)) (subst P (sym (split limits js xs l)) done.0) count_is
  where
    P : List Asking → Type 0
    P z = (progress z).waiting ≡ false

    at_stage : Stage h.job (marks_of xs) (now xs)
    at_stage = stage limits js xs l rs h.cause_is h.job h.job_is

    by : (o : Option RowEvent) → row_event_in (h.job).task ≡ o → IsDone h.job (now xs) (askings_told (past xs))
    by None e =
        let off = stage_is_off h.job xs e at_stage in
        (off_rests (now xs) (askings_told (past xs)) off (rest_before limits js xs l), off_events (now xs) off ∙ sym (ap (λ (o : Option RowEvent). if is_some o then 1 else 0) e))
    by (Some k) e =
        let t = event_task (h.job).task k e in
        let z = sym (reached_now (h.job).task limits js xs l) ∙ passed_reached h.job (marks_of xs) t.0 t.1 h.passed in
        stage_done limits js h.job xs (askings_told (past xs)) l h.passed z at_stage

    done : IsDone h.job (now xs) (askings_told (past xs))
    done = by (row_event_in (h.job).task) refl

    count_is : events_counted (progress (askings_told xs)) ≡ events_before js (p + 1)
    count_is =
        let all = acknowledged (askings_told xs) ∙ ap events_acked (split limits js xs l) ∙ events_append (now xs) (askings_told (past xs)) in
        let before = past_events limits js xs l p c in
        let own = done.1 in
        let next = before_next js p h.job (job_phase limits js (marks_of xs) l h.job h.job_is p c) in
        omega (arith, all, before, own, next)

    both : (v : BenchProgress) → v.waiting ≡ false → events_counted v ≡ events_before js (p + 1) → v ≡ record { done = events_before js (p + 1); waiting = false }
    both v e n = ap (λ (b : Bool). record { done = v.done; waiting = b }) e ∙ ap (λ (i : ℕ). record { done = i; waiting = false }) (sym (at_rest v e) ∙ n)
