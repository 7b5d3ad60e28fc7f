-- Each main request stands in the spine in the phase in which it was asked.
use Rattle.std.proofs.Common.{◌≡◌, ℕ, zero, suc, ◌+◌, ◌-◌, ◌%◌, ◌<◌, ◌≤◌, Bool, true, false, if◌then◌else◌, ◌⊎◌, inl, inr, Option, Some, None, List, [], ◌∷◌, ◌++◌, map, length, refl, sym, ap, ◌∙◌, subst, arith}
use Rattle.std.specs.Prelude.{◌==◌, ◌&&◌, ◌||◌, nat_le, nat_lt, slice_get}
use Rattle.std.specs.List.{list_any}
use Rattle.std.proofs.lemmas.Bool.{ltb-true, lt-ltb, and_parts}
use Rattle.dcp_types.specs.declared.limits.Limits.{Limits}
use Rattle.pdu_layout.specs.declared.messages.Cfg.{Cfg}
use Rattle.master_spec.specs.declared.causes.Cause.{Cause}
use Rattle.master_spec.specs.declared.causes.Verdict.TheVariants as verdicts
use Rattle.master_spec.specs.declared.requests.Request.{Request}
use Rattle.master_spec.specs.declared.requests.Request.TheVariants.{Change, Configure, AskState, AskError}
use Rattle.master_spec.specs.declared.requests.Answer.{Answer}
use Rattle.master_spec.specs.declared.requests.Answer.TheVariants.{Ack, Nack, StateAck}
use Rattle.master_spec.specs.declared.tasks.Task.{Task}
use Rattle.master_spec.specs.declared.tasks.Task.TheVariants as tasks
use Rattle.master_spec.specs.declared.reactions.Reaction.TheVariants.{Wait, Ask}
use Rattle.master_spec.specs.Tasks.{is_by_list, is_by_end, asks_step, task_row}
use Rattle.master_spec.specs.Jobs.{Job, asked_by}
use Rattle.master_spec.specs.Marks.{Mark, Begun, Asked, Again, Answered, Hinted, Brought, Turned, Ended, asked, is_missing, acks_change, count, is_begun, this_phase, open_in, open_request, settings_answered, is_reached, has_row_outputs, is_passed, job_of, cause_of, verdict_by, verdict_of}
use Rattle.master_spec.specs.Conversation.{reaction_in, reaction}
use Rattle.master_spec.specs.Requests.{Asking, is_main, acked, phase_at, phase_reached, of_phase}
use Rattle.master_spec.specs.Shown.{names_target}
use Rattle.master_log_laws.specs.Asking.Legal.{Does, Rests, IsLegal, AreLegal}
use Rattle.master_log_laws.proofs.Asking.Legal.{own_rests}
use Rattle.master_log_laws.specs.Index.Index.{Placed, at, marks_of, first_at, again_at, decided_at, askings_told_by, askings_told}
use Rattle.master_log_laws.proofs.Index.Events.{acts}
use Rattle.master_log_laws.proofs.Phases.Now.{now_by, now, past_by, past, IsOf, split}
use Rattle.master_log_laws.proofs.Phases.Mains.{is_main_request, of_main, acked_append, AreMains, AreQuestions, questions_acked, slot_below}
use Rattle.master_log_laws.proofs.Phases.Counts.{is_question, code_is_question, names_it, reached_now}
use Rattle.master_log_laws.proofs.Phases.Stage.{Main, Question, Stage, idling, main_open, question_open, trying, mains_done, state_told, mains_missing}
use Rattle.master_log_laws.proofs.Phases.Stages.{stage}

-- ---- the spine up to a phase
abbrev pub offset : List Job → ℕ → ℕ
offset js zero = 0
offset [] (suc p) = 0
offset (job ∷ js) (suc p) = length (asked_by job) + offset js p

pub phase_at_offset : (js : List Job) (p i : ℕ) (job : Job) → slice_get js p ≡ Some job → i < length (asked_by job) → phase_at js (offset js p + i) ≡ p + 1
phase_at_offset [] p i job e h = absurd cc
phase_at_offset (j ∷ js) zero i job e h =
    let z : j ≡ job = cc in
    let l : i < length (asked_by j) = ap_lt z h in
    let k : 0 + i ≡ i = omega arith in
    ap (phase_at (j ∷ js)) k ∙ ap (λ (b : Bool). if b then 1 else 1 + phase_at js (i - length (asked_by j))) (lt-ltb i (length (asked_by j)) l)
  where
    ap_lt : j ≡ job → i < length (asked_by job) → i < length (asked_by j)
    ap_lt z h = let P : Job → Type 0 = λ x. i < length (asked_by x) in subst P (sym z) h
phase_at_offset (j ∷ js) (suc p) i job e h =
    let n = length (asked_by j) in
    let f : nat_lt (n + offset js p + i) n ≡ false = not_less (n + offset js p + i) n (omega arith) in
    let g : n + offset js p + i - n ≡ offset js p + i = omega arith in
    let k = phase_at_offset js p i job e h in
    ap (λ (b : Bool). if b then 1 else 1 + phase_at js (n + offset js p + i - n)) f ∙ ap (λ (m : ℕ). 1 + phase_at js m) g ∙ ap (λ (m : ℕ). 1 + m) k ∙ omega arith
  where
    not_less : (a b : ℕ) → b ≤ a → nat_lt a b ≡ false
    not_less a b h = by (nat_lt a b) refl
      where
        by : (t : Bool) → nat_lt a b ≡ t → t ≡ false
        by true e = let z = ltb-true a b e in absurd (omega (arith, z, h))
        by false e = refl

pub offset_next : (js : List Job) (p : ℕ) (job : Job) → slice_get js p ≡ Some job → offset js (p + 1) ≡ offset js p + length (asked_by job)
offset_next [] p job e = absurd cc
offset_next (j ∷ js) zero job e =
    let z : j ≡ job = cc in
    let k : 0 + 1 ≡ suc 0 = omega arith in
    ap (offset (j ∷ js)) k ∙ ap (λ (x : Job). length (asked_by x) + 0) z ∙ omega arith
offset_next (j ∷ js) (suc p) job e =
    let h = offset_next js p job e in
    let k : suc p + 1 ≡ suc (p + 1) = omega arith in
    ap (offset (j ∷ js)) k ∙ omega (arith, h)

-- ---- the job of the phase
pub job_phase : (limits : Limits) (js : List Job) (marks : List Mark) → AreLegal limits js marks → (job : Job) → job_of marks ≡ Some job → (p : ℕ) → count is_begun marks ≡ p + 1 → slice_get js p ≡ Some job
job_phase limits js [] l job e p c = absurd (clash e)
  where
    clash : None ≡ Some job → ⊥
    clash z = cc
job_phase limits js (Begun j ∷ marks) l job e p c = let z : count is_begun marks ≡ p = omega (arith, c) in ap (slice_get js) (sym z) ∙ ((l.0).1).job_is ∙ e
job_phase limits js (Asked r ∷ marks) l job e p c = job_phase limits js marks l.1 job e p c
job_phase limits js (Again ∷ marks) l job e p c = job_phase limits js marks l.1 job e p c
job_phase limits js (Answered r a ∷ marks) l job e p c = job_phase limits js marks l.1 job e p c
job_phase limits js (Hinted ∷ marks) l job e p c = job_phase limits js marks l.1 job e p c
job_phase limits js (Brought n q ∷ marks) l job e p c = job_phase limits js marks l.1 job e p c
job_phase limits js (Turned t ∷ marks) l job e p c = job_phase limits js marks l.1 job e p c
job_phase limits js (Ended cause ∷ marks) l job e p c = job_phase limits js marks l.1 job e p c

pub job_some : (marks : List Mark) (p : ℕ) → count is_begun marks ≡ p + 1 → (job : Job) × (job_of marks ≡ Some job)
job_some [] p c = absurd (omega (arith, c))
job_some (Begun j ∷ marks) p c = (j, refl)
job_some (Asked r ∷ marks) p c = job_some marks p c
job_some (Again ∷ marks) p c = job_some marks p c
job_some (Answered r a ∷ marks) p c = job_some marks p c
job_some (Hinted ∷ marks) p c = job_some marks p c
job_some (Brought n q ∷ marks) p c = job_some marks p c
job_some (Turned t ∷ marks) p c = job_some marks p c
job_some (Ended cause ∷ marks) p c = job_some marks p c

-- without a job nothing was asked
pub no_reaction : (limits : Limits) (m : Mark) (marks : List Mark) → job_of (m ∷ marks) ≡ None → reaction limits m marks ≡ Wait
unfolding reaction
no_reaction limits m marks e = ap (λ (o : Option Job). reaction_in limits o m marks (m ∷ marks)) e

pub none_asked : (limits : Limits) (js : List Job) (xs : List Placed) → AreLegal limits js (marks_of xs) → job_of (marks_of xs) ≡ None → (askings_told xs ≡ []) × (count is_begun (marks_of xs) ≡ 0)
none_asked limits js [] l e = (refl, refl)
none_asked limits js (x ∷ xs) l e = by x.mark l.0 e (λ z. none_asked limits js xs l.1 z)
  where
    Result : List Asking → ℕ → Type 0
    Result bs n = (bs ≡ []) × (n ≡ 0)

    waits : (ms : List Mark) (q : Request) → job_of ms ≡ None → Does limits ms (Ask q) → ⊥
    waits [] q e d = d
    waits (m ∷ ms) q e d = let z : Wait ≡ Ask q = sym (no_reaction limits m ms e) ∙ d in cc

    by : (m : Mark) → IsLegal limits js m (marks_of xs) → job_of (m ∷ marks_of xs) ≡ None → (job_of (marks_of xs) ≡ None → Result (askings_told xs) (count is_begun (marks_of xs))) → Result (askings_told_by x.place m (marks_of xs) (askings_told xs)) (count is_begun (m ∷ marks_of xs))
    by (Begun j) k e f = absurd (clash e)
      where
        clash : Some j ≡ None → ⊥
        clash z = cc
    by (Asked r) k e f = absurd (waits (marks_of xs) r e k)
    by Again k e f = let z = f e in (ap (again_at x.place) z.0, z.1)
    by (Answered r a) k e f = let z = f e in (ap (decided_at x.place a) z.0, z.1)
    by Hinted k e f = f e
    by (Brought n p) k e f = f e
    by (Turned t) k e f = f e
    by (Ended cause) k e f = f e

-- ---- a phase that has passed has all its main requests acknowledged
pub record HasPassed (marks : List Mark) : Type 0 where
  pub job : Job
  pub job_is : job_of marks ≡ Some job
  pub cause_is : cause_of marks ≡ None
  pub passed : is_passed job marks ≡ true

pub verdict_passed : (marks : List Mark) → verdict_of marks ≡ verdicts.Passed → HasPassed marks
verdict_passed marks v = by (cause_of marks) (job_of marks) refl refl v
  where
    by : (c : Option Cause) (j : Option Job) → cause_of marks ≡ c → job_of marks ≡ j → verdict_by c j marks ≡ verdicts.Passed → HasPassed marks
    by (Some cause) j e f h = absurd cc
    by None None e f h = absurd cc
    by None (Some job) e f h = record { job = job; job_is = f; cause_is = e; passed = two (is_passed job marks) h }
      where
        two : (b : Bool) → (if b then verdicts.Passed else verdicts.Going) ≡ verdicts.Passed → b ≡ true
        two true z = refl
        two false z = absurd cc

-- mains name no target
question_off : (r : Request) → is_main_request r ≡ true → is_question r ≡ false
question_off (Change s b) h = refl
question_off (Configure b) h = refl
question_off AskState h = absurd cc
question_off AskError h = absurd cc

main_names : (task : Task) (r : Request) (b : Asking) → IsOf r b → is_main_request r ≡ true → names_it task b ≡ false
main_names task r b o m = ap (λ (t : Bool). t && names_target task b.decision) (ap (λ (n : ℕ). n == 128) o.0 ∙ code_is_question r ∙ question_off r m)

pub mains_name : (job : Job) (task : Task) (ms : List Asking) → AreMains job ms → list_any (names_it task) ms ≡ false
mains_name job task [] m = refl
mains_name job task (b ∷ ms) m = ap (λ (t : Bool). t || list_any (names_it task) ms) (main_names task (m.0).request b (m.0).of (m.0).main) ∙ mains_name job task ms (m.1).1

-- a job that asks for a step is that of a step
pub one_off : (q r : Request) (n : ℕ) → slice_get (q ∷ []) n ≡ Some r → asks_step r ≡ true → asks_step q ≡ false → ⊥
one_off q r zero e h f = let z : q ≡ r = cc in let y : true ≡ false = sym h ∙ ap asks_step (sym z) ∙ f in cc
one_off q r (suc n) e h f = cc

pub list_off : (list : List Cfg) (n : ℕ) (r : Request) → slice_get (map Configure list) n ≡ Some r → asks_step r ≡ true → ⊥
list_off [] n r e h = cc
list_off (b ∷ list) zero r e h = let z : Configure b ≡ r = cc in let y : true ≡ false = sym h ∙ ap asks_step (sym z) in cc
list_off (b ∷ list) (suc n) r e h = list_off list n r e h

step_task : (task : Task) (list : List Cfg) (n : ℕ) (r : Request) → asks_step r ≡ true → slice_get (asked_by (record { task = task; list = list })) n ≡ Some r → (is_by_list task ≡ false) × (is_by_end task ≡ false)
step_task (tasks.Register uuid) list n r h e = absurd (one_off _ r n e h refl)
step_task tasks.Setup list n r h e = absurd (list_off list n r e h)
step_task tasks.Prepare list n r h e = absurd (one_off _ r n e h refl)
step_task tasks.Configure list n r h e = absurd (one_off _ r n e h refl)
step_task tasks.Initialize list n r h e = absurd (one_off _ r n e h refl)
step_task (tasks.FirstOutputs row) list n r h e = absurd (one_off _ r n e h refl)
step_task tasks.Run list n r h e = absurd (one_off _ r n e h refl)
step_task (tasks.Step k) list n r h e = (refl, refl)
step_task (tasks.Outputs k row) list n r h e = absurd (one_off _ r n e h refl)
step_task tasks.Stop list n r h e = absurd (one_off _ r n e h refl)
step_task tasks.Reset list n r h e = absurd (one_off _ r n e h refl)
step_task tasks.Adjust list n r h e = absurd (list_off list n r e h)
step_task tasks.Deregister list n r h e = absurd (one_off _ r n e h refl)

pub passed_reached : (job : Job) (marks : List Mark) → is_by_list job.task ≡ false → is_by_end job.task ≡ false → is_passed job marks ≡ true → is_reached job.task marks ≡ true
passed_reached job marks f g h = by (is_by_list job.task) (is_by_end job.task) f g h
  where
    by : (a b : Bool) → a ≡ false → b ≡ false → (if a then nat_le (length job.list) (settings_answered marks) else if b then list_any acks_change (this_phase marks) else (is_reached job.task marks && has_row_outputs (task_row job.task) marks)) ≡ true → is_reached job.task marks ≡ true
    by true b f g h = absurd cc
    by false true f g h = absurd cc
    by false false f g h = (and_parts (is_reached job.task marks) (has_row_outputs (task_row job.task) marks) h).0

-- a step that was refused has not passed
pub tried_not_passed : (limits : Limits) (js : List Job) (job : Job) (xs : List Placed) (r : Request) (code : ℕ) → AreLegal limits js (marks_of xs) → (is_missing code && asks_step r) ≡ true → Main job r (Some (Nack code)) (now xs) → is_passed job (marks_of xs) ≡ true → ⊥
tried_not_passed limits js job xs r code l h k p =
    let a = and_parts (is_missing code) (asks_step r) h in
    let t = step_task job.task job.list (acked k.ms) r a.1 k.slot in
    let e = passed_reached job (marks_of xs) t.0 t.1 p in
    let f = reached_now job.task limits js xs l in
    let g = mains_name job job.task (now xs) (mains_missing job r code (now xs) k h).0 in
    let y : true ≡ false = sym e ∙ f ∙ g in cc

pub passed_done : (limits : Limits) (js : List Job) (job : Job) (xs : List Placed) → AreLegal limits js (marks_of xs) → Stage job (marks_of xs) (now xs) → is_passed job (marks_of xs) ≡ true → open_request (marks_of xs) ≡ None → acked (now xs) ≡ length (asked_by job)
passed_done limits js job xs l (idling q e a) p o = ap acked e ∙ sym (ap length a)
passed_done limits js job xs l (main_open r q k) p o = let z : Some r ≡ None = ap open_in (sym q) ∙ o in absurd cc
passed_done limits js job xs l (question_open r q k) p o = let z : Some r ≡ None = ap open_in (sym q) ∙ o in absurd cc
passed_done limits js job xs l (trying r code q h k) p o = absurd (tried_not_passed limits js job xs r code l h k p)
passed_done limits js job xs l (mains_done r q k w) p o = w
passed_done limits js job xs l (state_told s q k h) p o =
    ap acked k.is ∙ questions_acked (k.newest ∷ k.qs) k.ms (of_main AskState k.newest k.of ∙ k.asks, k.questions) ∙ k.whole

-- ---- what is acknowledged before the phase
pub base : (limits : Limits) (js : List Job) (xs : List Placed) → AreLegal limits js (marks_of xs) → (p : ℕ) → count is_begun (marks_of xs) ≡ p + 1 → acked (askings_told (past xs)) ≡ offset js p
base limits js [] l p c = absurd (omega (arith, c))
base limits js (x ∷ xs) l p c = by x.mark l.0 c (λ p c. base limits js xs l.1 p c)
  where
    from_zero : (p : ℕ) → count is_begun (marks_of xs) ≡ p → job_of (marks_of xs) ≡ None → acked (askings_told xs) ≡ offset js p
    from_zero p c e =
        let z = none_asked limits js xs l.1 e in
        let y : p ≡ 0 = sym c ∙ z.1 in
        ap acked z.0 ∙ ap (offset js) (sym y)

    from_passed : (p : ℕ) → count is_begun (marks_of xs) ≡ p → Rests limits (marks_of xs) → open_request (marks_of xs) ≡ None → HasPassed (marks_of xs) → ((q : ℕ) → count is_begun (marks_of xs) ≡ q + 1 → acked (askings_told (past xs)) ≡ offset js q) → acked (askings_told xs) ≡ offset js p
    from_passed zero c r o h f = let z = job_none (marks_of xs) c in let y : None ≡ Some h.job = sym z ∙ h.job_is in absurd cc
      where
        job_none : (ms : List Mark) → count is_begun ms ≡ 0 → job_of ms ≡ None
        job_none [] c = refl
        job_none (Begun j ∷ ms) c = absurd (omega (arith, c))
        job_none (Asked q ∷ ms) c = job_none ms c
        job_none (Again ∷ ms) c = job_none ms c
        job_none (Answered q a ∷ ms) c = job_none ms c
        job_none (Hinted ∷ ms) c = job_none ms c
        job_none (Brought n q ∷ ms) c = job_none ms c
        job_none (Turned t ∷ ms) c = job_none ms c
        job_none (Ended cause ∷ ms) c = job_none ms c
    from_passed (suc q) c r o h f =
        let c' : count is_begun (marks_of xs) ≡ q + 1 = omega (arith, c) in
        let here = job_phase limits js (marks_of xs) l.1 h.job h.job_is q c' in
        let full = passed_done limits js h.job xs l.1 (stage limits js xs l.1 r h.cause_is h.job h.job_is) h.passed o in
        let before = f q c' in
        let whole = ap acked (split limits js xs l.1) ∙ acked_append (now xs) (askings_told (past xs)) in
        let next = offset_next js q h.job here in
        let k : suc q ≡ q + 1 = omega arith in
        let e : acked (askings_told xs) ≡ offset js (q + 1) = omega (arith, whole, full, before, next) in
        e ∙ ap (offset js) (sym k)

    by : (m : Mark) → IsLegal limits js m (marks_of xs) → count is_begun (m ∷ marks_of xs) ≡ p + 1 → ((q : ℕ) → count is_begun (marks_of xs) ≡ q + 1 → acked (askings_told (past xs)) ≡ offset js q) → acked (askings_told (past_by m xs (past xs))) ≡ offset js p
    by (Begun j) k c f = begun (k.1).passed
      where
        c' : count is_begun (marks_of xs) ≡ p
        c' = omega (arith, c)

        begun : (job_of (marks_of xs) ≡ None) ⊎ (verdict_of (marks_of xs) ≡ verdicts.Passed) → acked (askings_told xs) ≡ offset js p
        begun (inl e) = from_zero p c' e
        begun (inr v) = from_passed p c' k.0 (k.1).free (verdict_passed (marks_of xs) v) f
    by (Asked r) k c f = f p c
    by Again k c f = f p c
    by (Answered r a) k c f = f p c
    by Hinted k c f = f p c
    by (Brought n q) k c f = f p c
    by (Turned t) k c f = f p c
    by (Ended cause) k c f = f p c

-- ---- the phases of requests
-- the main ones of a list stand at most in this phase
abbrev pub AtMost : List Job → ℕ → List Asking → Type 0
AtMost js p [] = Unit {0}
AtMost js p (a ∷ bs) = (is_main a ≡ true → phase_at js (acked bs) ≤ p) × AtMost js p bs

-- the main ones of a list stand in this phase, with these before them
abbrev pub Exactly : List Job → ℕ → List Asking → List Asking → Type 0
Exactly js p [] before = Unit {0}
Exactly js p (a ∷ bs) before = (is_main a ≡ true → phase_at js (acked (bs ++ before)) ≡ p) × Exactly js p bs before

at_slot : (js : List Job) (p : ℕ) (job : Job) (n : ℕ) (ms before : List Asking) → slice_get js p ≡ Some job → acked before ≡ offset js p → acked ms ≡ n → n < length (asked_by job) → phase_at js (acked (ms ++ before)) ≡ p + 1
at_slot js p job n ms before e o k h =
    let w = acked_append ms before in
    let z : acked (ms ++ before) ≡ offset js p + n = omega (arith, w, o, k) in
    ap (phase_at js) z ∙ phase_at_offset js p n job e h

exactly_mains : (js : List Job) (p : ℕ) (job : Job) (ms before : List Asking) → slice_get js p ≡ Some job → acked before ≡ offset js p → AreMains job ms → Exactly js (p + 1) ms before
exactly_mains js p job [] before e o m = tt
exactly_mains js p job (b ∷ ms) before e o m = (λ h. at_slot js p job (acked ms) ms before e o refl (slot_below job (acked ms) (m.0).request (m.0).slot), exactly_mains js p job ms before e o (m.1).1)

exactly_questions : (js : List Job) (p : ℕ) (qs ms before : List Asking) → AreQuestions qs → Exactly js p ms before → Exactly js p (qs ++ ms) before
exactly_questions js p [] ms before q x = x
exactly_questions js p (b ∷ qs) ms before q x = (λ h. absurd (clash (sym q.0 ∙ h)), exactly_questions js p qs ms before q.1 x)
  where
    clash : false ≡ true → ⊥
    clash z = cc

pub exactly_main : (js : List Job) (p : ℕ) (job : Job) (r : Request) (d : Option Answer) (bs before : List Asking) → slice_get js p ≡ Some job → acked before ≡ offset js p → Main job r d bs → Exactly js (p + 1) bs before
exactly_main js p job r d bs before e o k =
    let P : List Asking → Type 0 = λ z. Exactly js (p + 1) z before in
    subst P (sym k.is) (λ h. at_slot js p job (acked k.ms) k.ms before e o refl (slot_below job (acked k.ms) r k.slot), exactly_mains js p job k.ms before e o k.mains)

pub exactly_question : (js : List Job) (p : ℕ) (job : Job) (r : Request) (d : Option Answer) (bs before : List Asking) → slice_get js p ≡ Some job → acked before ≡ offset js p → Question job r d bs → Exactly js (p + 1) bs before
exactly_question js p job r d bs before e o k =
    let P : List Asking → Type 0 = λ z. Exactly js (p + 1) z before in
    subst P (sym k.is) (exactly_questions js (p + 1) (k.newest ∷ k.qs) k.ms before (of_main r k.newest k.of ∙ k.asks, k.questions) (exactly_mains js p job k.ms before e o k.mains))

pub exactly_stage : (js : List Job) (p : ℕ) (job : Job) (marks : List Mark) (bs before : List Asking) → slice_get js p ≡ Some job → acked before ≡ offset js p → Stage job marks bs → Exactly js (p + 1) bs before
exactly_stage js p job marks bs before e o (idling l b a) = let P : List Asking → Type 0 = λ z. Exactly js (p + 1) z before in subst P (sym b) tt
exactly_stage js p job marks bs before e o (main_open r l k) = exactly_main js p job r None bs before e o k
exactly_stage js p job marks bs before e o (question_open r l k) = exactly_question js p job r None bs before e o k
exactly_stage js p job marks bs before e o (trying r code l h k) = exactly_main js p job r (Some (Nack code)) bs before e o k
exactly_stage js p job marks bs before e o (mains_done r l k w) = exactly_main js p job r (Some Ack) bs before e o k
exactly_stage js p job marks bs before e o (state_told s l k h) = exactly_question js p job AskState (Some (StateAck s)) bs before e o k

-- what has been asked has a job, and the conversation has not ended
abbrev Lives : List Mark → Type 0
Lives ms = (cause_of ms ≡ None) × ((job : Job) × (job_of ms ≡ Some job))

lives : (limits : Limits) (ms : List Mark) (r : Request) → Does limits ms (Ask r) → Lives ms
lives limits [] r d = absurd d
lives limits (m ∷ ms) r d = (cause_on m (acts limits m ms (λ z. clash (sym d ∙ z))) d, with_job (job_of (m ∷ ms)) refl)
  where
    clash : Ask r ≡ Wait → ⊥
    clash z = cc

    ended : (c : Cause) → reaction limits (Ended c) ms ≡ Ask r → ⊥
    ended c h = let z : Wait ≡ Ask r = sym (own_rests limits (Ended c) ms tt) ∙ h in cc

    cause_on : (m : Mark) → cause_of ms ≡ None → reaction limits m ms ≡ Ask r → cause_of (m ∷ ms) ≡ None
    cause_on (Begun j) e h = e
    cause_on (Asked q) e h = e
    cause_on Again e h = e
    cause_on (Answered q a) e h = e
    cause_on Hinted e h = e
    cause_on (Brought n p) e h = e
    cause_on (Turned t) e h = e
    cause_on (Ended cause) e h = absurd (ended cause h)

    with_job : (o : Option Job) → job_of (m ∷ ms) ≡ o → (job : Job) × (job_of (m ∷ ms) ≡ Some job)
    with_job None e = absurd (clash (sym d ∙ no_reaction limits m ms e))
    with_job (Some job) e = (job, e)

pub counted : (marks : List Mark) (job : Job) → job_of marks ≡ Some job → (p : ℕ) × (count is_begun marks ≡ p + 1)
counted [] job e = absurd cc
counted (Begun j ∷ marks) job e = (count is_begun marks, refl)
counted (Asked r ∷ marks) job e = counted marks job e
counted (Again ∷ marks) job e = counted marks job e
counted (Answered r a ∷ marks) job e = counted marks job e
counted (Hinted ∷ marks) job e = counted marks job e
counted (Brought n q ∷ marks) job e = counted marks job e
counted (Turned t ∷ marks) job e = counted marks job e
counted (Ended cause ∷ marks) job e = counted marks job e

pub asked_in : (limits : Limits) (js : List Job) (n : ℕ) (r : Request) (xs : List Placed) → AreLegal limits js (Asked r ∷ marks_of xs) → is_main (first_at n (asked (marks_of xs) % 65536) r) ≡ true → phase_at js (acked (now xs ++ askings_told (past xs))) ≡ count is_begun (marks_of xs)
asked_in limits js n r xs l m =
    let v = lives limits (marks_of xs) r l.0 in
    let s = stage limits js (at n (Asked r) ∷ xs) l (own_rests limits (Asked r) (marks_of xs) tt) v.0 (v.1).0 (v.1).1 in
    let c = counted (marks_of xs) (v.1).0 (v.1).1 in
    let e = job_phase limits js (marks_of xs) l.1 (v.1).0 (v.1).1 c.0 c.1 in
    let b = base limits js xs l.1 c.0 c.1 in
    (exactly_stage js c.0 (v.1).0 (Asked r ∷ marks_of xs) (now (at n (Asked r) ∷ xs)) (askings_told (past xs)) e b s).0 m ∙ sym c.1

exactly_again : (js : List Job) (p n : ℕ) (bs before : List Asking) → Exactly js p bs before → Exactly js p (again_at n bs) before
exactly_again js p n [] before x = tt
exactly_again js p n (b ∷ bs) before x = x

exactly_decided : (js : List Job) (p n : ℕ) (a : Answer) (bs before : List Asking) → Exactly js p bs before → Exactly js p (decided_at n a bs) before
exactly_decided js p n a [] before x = tt
exactly_decided js p n a (b ∷ bs) before x = x

-- the main requests of the phase stand in it
pub exactly_now : (limits : Limits) (js : List Job) (xs : List Placed) → AreLegal limits js (marks_of xs) → Exactly js (count is_begun (marks_of xs)) (now xs) (askings_told (past xs))
exactly_now limits js [] l = tt
exactly_now limits js (x ∷ xs) l = by x.mark l (exactly_now limits js xs l.1)
  where
    n : ℕ
    n = count is_begun (marks_of xs)

    by : (m : Mark) → AreLegal limits js (m ∷ marks_of xs) → Exactly js n (now xs) (askings_told (past xs)) → Exactly js (count is_begun (m ∷ marks_of xs)) (now_by x.place m (marks_of xs) (now xs)) (askings_told (past_by m xs (past xs)))
    by (Begun j) k h = tt
    by (Asked r) k h = (λ m. asked_in limits js x.place r xs k m, h)
    by Again k h = exactly_again js n x.place (now xs) (askings_told (past xs)) h
    by (Answered r a) k h = exactly_decided js n x.place a (now xs) (askings_told (past xs)) h
    by Hinted k h = h
    by (Brought i q) k h = h
    by (Turned t) k h = h
    by (Ended cause) k h = h

-- ---- all requests stand at most in the present phase
at_most_later : (js : List Job) (p : ℕ) (bs : List Asking) → AtMost js p bs → AtMost js (p + 1) bs
at_most_later js p [] a = tt
at_most_later js p (b ∷ bs) a = (λ h. let z = a.0 h in omega (arith, z), at_most_later js p bs a.1)

at_most_again : (js : List Job) (p n : ℕ) (bs : List Asking) → AtMost js p bs → AtMost js p (again_at n bs)
at_most_again js p n [] a = tt
at_most_again js p n (b ∷ bs) a = a

at_most_decided : (js : List Job) (p n : ℕ) (x : Answer) (bs : List Asking) → AtMost js p bs → AtMost js p (decided_at n x bs)
at_most_decided js p n x [] a = tt
at_most_decided js p n x (b ∷ bs) a = a

pub at_most : (limits : Limits) (js : List Job) (xs : List Placed) → AreLegal limits js (marks_of xs) → AtMost js (count is_begun (marks_of xs)) (askings_told xs)
at_most limits js [] l = tt
at_most limits js (x ∷ xs) l = by x.mark l (at_most limits js xs l.1)
  where
    new : (r : Request) → AreLegal limits js (Asked r ∷ marks_of xs) → is_main (first_at x.place (asked (marks_of xs) % 65536) r) ≡ true → phase_at js (acked (askings_told xs)) ≤ count is_begun (marks_of xs)
    new r k h =
        let y : phase_at js (acked (askings_told xs)) ≡ count is_begun (marks_of xs) = ap (λ (z : List Asking). phase_at js (acked z)) (split limits js xs k.1) ∙ asked_in limits js x.place r xs k h in
        omega (arith, y)

    by : (m : Mark) → AreLegal limits js (m ∷ marks_of xs) → AtMost js (count is_begun (marks_of xs)) (askings_told xs) → AtMost js (count is_begun (m ∷ marks_of xs)) (askings_told_by x.place m (marks_of xs) (askings_told xs))
    by (Begun j) k a = at_most_later js (count is_begun (marks_of xs)) (askings_told xs) a
    by (Asked r) k a = (λ h. new r k h, a)
    by Again k a = at_most_again js (count is_begun (marks_of xs)) x.place (askings_told xs) a
    by (Answered r v) k a = at_most_decided js (count is_begun (marks_of xs)) x.place v (askings_told xs) a
    by Hinted k a = a
    by (Brought n p) k a = a
    by (Turned t) k a = a
    by (Ended cause) k a = a

-- ---- what the definitions of phases make of it
pub reached_at_most : (js : List Job) (p : ℕ) (bs : List Asking) → AtMost js p bs → phase_reached js bs ≤ p
reached_at_most js p [] a = omega arith
reached_at_most js p (b ∷ bs) a = by (is_main b) refl (reached_at_most js p bs a.1)
  where
    by : (t : Bool) → is_main b ≡ t → phase_reached js bs ≤ p → (if t then phase_at js (acked bs) else phase_reached js bs) ≤ p
    by true e h = a.0 e
    by false e h = h

-- a list with a main request in a phase reaches it
abbrev pub has_main : List Asking → Bool
has_main [] = false
has_main (b ∷ bs) = is_main b || has_main bs

pub reached_exactly : (js : List Job) (p : ℕ) (bs before : List Asking) → Exactly js p bs before → has_main bs ≡ true → phase_reached js (bs ++ before) ≡ p
reached_exactly js p [] before x h = absurd cc
reached_exactly js p (b ∷ bs) before x h = by (is_main b) refl h (λ z. reached_exactly js p bs before x.1 z)
  where
    by : (t : Bool) → is_main b ≡ t → (t || has_main bs) ≡ true → (has_main bs ≡ true → phase_reached js (bs ++ before) ≡ p) → (if t then phase_at js (acked (bs ++ before)) else phase_reached js (bs ++ before)) ≡ p
    by true e h f = x.0 e
    by false e h f = f h

-- the requests of the phase are kept, and of those before only questions
pub of_phase_now : (js : List Job) (p : ℕ) (bs before : List Asking) → Exactly js p bs before → of_phase js p (bs ++ before) ≡ bs ++ of_phase js p before
of_phase_now js p [] before x = refl
of_phase_now js p (b ∷ bs) before x = by (is_main b) refl (of_phase_now js p bs before x.1)
  where
    not_less : (n : ℕ) → n ≡ p → nat_lt n p ≡ false
    not_less n e = two (nat_lt n p) refl
      where
        two : (t : Bool) → nat_lt n p ≡ t → t ≡ false
        two true f = let z = ltb-true n p f in absurd (omega (arith, z, e))
        two false f = refl

    by : (t : Bool) → is_main b ≡ t → of_phase js p (bs ++ before) ≡ bs ++ of_phase js p before → (if t && nat_lt (phase_at js (acked (bs ++ before))) p then [] else b ∷ of_phase js p (bs ++ before)) ≡ b ∷ (bs ++ of_phase js p before)
    by true e h = ap (λ (t : Bool). if t then [] else b ∷ of_phase js p (bs ++ before)) (not_less (phase_at js (acked (bs ++ before))) (x.0 e)) ∙ ap (λ (z : List Asking). b ∷ z) h
    by false e h = ap (λ (z : List Asking). b ∷ z) h

pub of_phase_before : (js : List Job) (p : ℕ) (bs : List Asking) → AtMost js p bs → AreQuestions (of_phase js (p + 1) bs)
of_phase_before js p [] a = tt
of_phase_before js p (b ∷ bs) a = by (is_main b) refl (of_phase_before js p bs a.1)
  where
    less : (n : ℕ) → n ≤ p → nat_lt n (p + 1) ≡ true
    less n h = lt-ltb n (p + 1) (omega (arith, h))

    by : (t : Bool) → is_main b ≡ t → AreQuestions (of_phase js (p + 1) bs) → AreQuestions (if t && nat_lt (phase_at js (acked bs)) (p + 1) then [] else b ∷ of_phase js (p + 1) bs)
    by true e h = let P : Bool → Type 0 = λ t. AreQuestions (if t then [] else b ∷ of_phase js (p + 1) bs) in subst P (sym (less (phase_at js (acked bs)) (a.0 e))) tt
    by false e h = (e, h)

-- the requests before this phase stand in lesser ones
pub past_legal : (limits : Limits) (js : List Job) (xs : List Placed) → AreLegal limits js (marks_of xs) → AreLegal limits js (marks_of (past xs))
past_legal limits js [] l = tt
past_legal limits js (x ∷ xs) l = by x.mark l (past_legal limits js xs l.1)
  where
    by : (m : Mark) → AreLegal limits js (m ∷ marks_of xs) → AreLegal limits js (marks_of (past xs)) → AreLegal limits js (marks_of (past_by m xs (past xs)))
    by (Begun j) k h = k.1
    by (Asked r) k h = h
    by Again k h = h
    by (Answered r a) k h = h
    by Hinted k h = h
    by (Brought n q) k h = h
    by (Turned t) k h = h
    by (Ended cause) k h = h

pub past_count : (xs : List Placed) (p : ℕ) → count is_begun (marks_of xs) ≡ p + 1 → count is_begun (marks_of (past xs)) ≡ p
past_count [] p c = absurd (omega (arith, c))
past_count (x ∷ xs) p c = by x.mark c (λ d. past_count xs p d)
  where
    by : (m : Mark) → count is_begun (m ∷ marks_of xs) ≡ p + 1 → (count is_begun (marks_of xs) ≡ p + 1 → count is_begun (marks_of (past xs)) ≡ p) → count is_begun (marks_of (past_by m xs (past xs))) ≡ p
    by (Begun j) c f = omega (arith, c)
    by (Asked r) c f = f c
    by Again c f = f c
    by (Answered r a) c f = f c
    by Hinted c f = f c
    by (Brought n q) c f = f c
    by (Turned t) c f = f c
    by (Ended cause) c f = f c

pub past_at_most : (limits : Limits) (js : List Job) (xs : List Placed) → AreLegal limits js (marks_of xs) → (p : ℕ) → count is_begun (marks_of xs) ≡ p + 1 → AtMost js p (askings_told (past xs))
past_at_most limits js xs l p c = let P : ℕ → Type 0 = λ n. AtMost js n (askings_told (past xs)) in subst P (past_count xs p c) (at_most limits js (past xs) (past_legal limits js xs l))
