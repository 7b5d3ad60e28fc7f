-- By the marks of a conversation nothing is under way where a phase begins, and where a row event is asked for.
use Rattle.std.proofs.Common.{◌≡◌, ℕ, zero, suc, Bool, true, false, if◌then◌else◌, ◌⊎◌, inl, inr, Option, Some, None, List, [], ◌∷◌, ◌++◌, map, refl, sym, ap, ◌∙◌, subst, arith}
use Rattle.std.specs.Prelude.{slice_get}
use Rattle.std.proofs.lemmas.Bool.{eqb-true}
use Rattle.dcp_types.specs.declared.limits.Limits.{Limits}
use Rattle.pdu_layout.specs.declared.messages.Cfg.{Cfg}
use Rattle.pdu_layout.specs.declared.messages.Cfg.TheVariants as cfg
use Rattle.lockstep_laws.specs.Steps.{RowEvent, Otherwise, AtRest, told_by, is_on_its_way, view_after, BenchProgress}
use Rattle.master_spec.specs.declared.requests.Request.{Request}
use Rattle.master_spec.specs.declared.requests.Request.TheVariants.{Change, Configure, AskState, AskError}
use Rattle.master_spec.specs.declared.requests.Answer.TheVariants.{Nack, StateAck}
use Rattle.master_spec.specs.declared.causes.Verdict.TheVariants as verdicts
use Rattle.master_spec.specs.declared.requests.Latest.TheVariants as latests
use Rattle.master_spec.specs.declared.tasks.Task.{Task}
use Rattle.master_spec.specs.declared.tasks.Task.TheVariants as tasks
use Rattle.master_spec.specs.Tasks.{is_by_list, is_by_end, target_of, passing_of}
use Rattle.master_spec.specs.Jobs.{Job, asked_by}
use Rattle.master_spec.specs.Marks.{Mark, Begun, Asked, Again, Answered, Hinted, Brought, Turned, Ended, job_of, open_in, open_request, latest, cause_of, verdict_of, is_passed, is_reached}
use Rattle.master_spec.specs.Conversation.{is_state}
use Rattle.master_spec.specs.Requests.{Asking, Decision, acked}
use Rattle.master_log_laws.specs.Asking.Legal.{Rests, IsLegal, AreLegal}
use Rattle.master_log_laws.specs.Index.Index.{Placed, marks_of, code_of, askings_told}
use Rattle.master_log_laws.proofs.Phases.Now.{now, past, past_by, IsOf, split}
use Rattle.master_log_laws.proofs.Phases.Mains.{IsTried, AreMains, acked_yes, acked_more, of_main, change_slot, is_main_request}
use Rattle.master_log_laws.proofs.Phases.Counts.{reached_now}
use Rattle.master_log_laws.proofs.Phases.Stage.{Main, Question, Stage, idling, main_open, question_open, trying, mains_done, state_told, mains_acked}
use Rattle.master_log_laws.proofs.Phases.Stages.{stage, open_stage}
use Rattle.master_log_laws.proofs.Phases.Tags.{none_asked, HasPassed, verdict_passed, mains_name, passed_reached, tried_not_passed}
use Rattle.master_laws.specs.Rows.Laws.{event_for, reply_by, progress_after, progress}

-- ---- the tables
no_setting : (body : Cfg) → event_for (code_of (Configure body)) ≡ None
no_setting (cfg.TimeRes numerator denominator) = refl
no_setting (cfg.Steps data_id steps) = refl
no_setting (cfg.Input data_id position vr source_type) = refl
no_setting (cfg.Output data_id position vr) = refl
no_setting cfg.Clear = refl
no_setting (cfg.Target net) = refl
no_setting (cfg.Source net) = refl
no_setting (cfg.Parameter vr kind value) = refl
no_setting (cfg.Tunable param_id position vr kind) = refl
no_setting (cfg.ParamNet param_id protocol port ip) = refl
no_setting (cfg.Logging category level mode) = refl
no_setting (cfg.Scope data_id scope) = refl

in_list : (list : List Cfg) (n : ℕ) (r : Request) → slice_get (map Configure list) n ≡ Some r → event_for (code_of r) ≡ None
in_list [] n r e = absurd cc
in_list (b ∷ list) zero r e = let z : Configure b ≡ r = cc in ap (λ (q : Request). event_for (code_of q)) (sym z) ∙ no_setting b
in_list (b ∷ list) (suc n) r e = in_list list n r e

in_one : (q : Request) (n : ℕ) (r : Request) → slice_get (q ∷ []) n ≡ Some r → event_for (code_of q) ≡ None → event_for (code_of r) ≡ None
in_one q zero r e h = let z : q ≡ r = cc in ap (λ (y : Request). event_for (code_of y)) (sym z) ∙ h
in_one q (suc n) r e h = absurd cc

-- a task that passes without a state has no row event
no_event : (task : Task) (list : List Cfg) (n : ℕ) (r : Request) → (is_by_list task ≡ true) ⊎ (is_by_end task ≡ true) → slice_get (asked_by (record { task = task; list = list })) n ≡ Some r → event_for (code_of r) ≡ None
no_event (tasks.Register uuid) list n r h e = in_one _ n r e refl
no_event tasks.Setup list n r h e = in_list list n r e
no_event tasks.Prepare list n r h e = in_one _ n r e refl
no_event tasks.Configure list n r h e = in_one _ n r e refl
no_event tasks.Initialize list n r h e = in_one _ n r e refl
no_event (tasks.FirstOutputs row) list n r (inl h) e = absurd cc
no_event (tasks.FirstOutputs row) list n r (inr h) e = absurd cc
no_event tasks.Run list n r h e = in_one _ n r e refl
no_event (tasks.Step k) list n r (inl h) e = absurd cc
no_event (tasks.Step k) list n r (inr h) e = absurd cc
no_event (tasks.Outputs k row) list n r (inl h) e = absurd cc
no_event (tasks.Outputs k row) list n r (inr h) e = absurd cc
no_event tasks.Stop list n r h e = in_one _ n r e refl
no_event tasks.Reset list n r (inl h) e = absurd cc
no_event tasks.Reset list n r (inr h) e = absurd cc
no_event tasks.Adjust list n r h e = in_list list n r e
no_event tasks.Deregister list n r h e = in_one _ n r e refl

-- a slave that has passed rests
rests_at : (task : Task) (s : ℕ) → is_state (target_of task) s ≡ true → is_on_its_way s ≡ false
rests_at (tasks.Register uuid) s h = ap is_on_its_way (eqb-true s _ h)
rests_at tasks.Setup s h = ap is_on_its_way (eqb-true s _ h)
rests_at tasks.Prepare s h = ap is_on_its_way (eqb-true s _ h)
rests_at tasks.Configure s h = ap is_on_its_way (eqb-true s _ h)
rests_at tasks.Initialize s h = ap is_on_its_way (eqb-true s _ h)
rests_at (tasks.FirstOutputs row) s h = ap is_on_its_way (eqb-true s _ h)
rests_at tasks.Run s h = ap is_on_its_way (eqb-true s _ h)
rests_at (tasks.Step k) s h = ap is_on_its_way (eqb-true s _ h)
rests_at (tasks.Outputs k row) s h = ap is_on_its_way (eqb-true s _ h)
rests_at tasks.Stop s h = ap is_on_its_way (eqb-true s _ h)
rests_at tasks.Reset s h = ap is_on_its_way (eqb-true s _ h)
rests_at tasks.Adjust s h = ap is_on_its_way (eqb-true s _ h)
rests_at tasks.Deregister s h = absurd cc

passes_by_state : (task : Task) (s : ℕ) → is_state (passing_of task) s ≡ true → (is_by_list task ≡ false) × (is_by_end task ≡ false)
passes_by_state (tasks.Register uuid) s h = absurd cc
passes_by_state tasks.Setup s h = absurd cc
passes_by_state tasks.Prepare s h = (refl, refl)
passes_by_state tasks.Configure s h = (refl, refl)
passes_by_state tasks.Initialize s h = (refl, refl)
passes_by_state (tasks.FirstOutputs row) s h = (refl, refl)
passes_by_state tasks.Run s h = (refl, refl)
passes_by_state (tasks.Step k) s h = (refl, refl)
passes_by_state (tasks.Outputs k row) s h = (refl, refl)
passes_by_state tasks.Stop s h = (refl, refl)
passes_by_state tasks.Reset s h = absurd cc
passes_by_state tasks.Adjust s h = absurd cc
passes_by_state tasks.Deregister s h = absurd cc

-- ---- requests that begin nothing
abbrev Rest : List Asking → Type 0
Rest bs = (progress bs).waiting ≡ false

nothing_begun : (code : ℕ) (d : Option Decision) (v : BenchProgress) → event_for code ≡ None → v.waiting ≡ false → (progress_after code d v).waiting ≡ false
nothing_begun code None v e h = h
nothing_begun code (Some d) v e h = ap (λ (o : Option RowEvent). (view_after (told_by o (reply_by d.answer)) v).waiting) e ∙ by (reply_by d.answer)
  where
    by : (r : _) → (view_after (told_by None r) v).waiting ≡ false
    by r = grind (arith, h)

refused : (code : ℕ) (d : Option Decision) (place c : ℕ) (v : BenchProgress) → d ≡ Some (record { place = place; answer = Nack c }) → v.waiting ≡ false → (progress_after code d v).waiting ≡ false
refused code d place c v e h = ap (λ (x : Option Decision). (progress_after code x v).waiting) e ∙ by (event_for code)
  where
    by : (o : Option RowEvent) → (view_after (told_by o Otherwise) v).waiting ≡ false
    by o = grind (arith, h)

quiet_mains : (job : Job) (ms bs : List Asking) → (is_by_list job.task ≡ true) ⊎ (is_by_end job.task ≡ true) → AreMains job ms → Rest bs → Rest (ms ++ bs)
quiet_mains job [] bs q m h = h
quiet_mains job (b ∷ ms) bs q m h =
    let k = m.0 in
    nothing_begun b.code b.decision (progress (ms ++ bs)) (ap event_for (k.of).0 ∙ no_event job.task job.list (acked ms) k.request q k.slot) (quiet_mains job ms bs q (m.1).1 h)

tried_mains : (job : Job) (ms bs : List Asking) → AreMains job ms → acked ms ≡ 0 → Rest bs → Rest (ms ++ bs)
tried_mains job [] bs m a h = h
tried_mains job (b ∷ ms) bs m a h = by (m.1).0 (λ z. tried_mains job ms bs (m.1).1 z h)
  where
    by : IsTried b → (acked ms ≡ 0 → Rest (ms ++ bs)) → Rest ((b ∷ ms) ++ bs)
    by (inl k) f = let z = acked_yes b ms (of_main (m.0).request b (m.0).of ∙ (m.0).main) k in absurd (omega (arith, z, a))
    by (inr k) f =
        let z = acked_more b ms in
        let n : acked ms ≡ 0 = omega (arith, z, a) in
        refused b.code b.decision (k.0).0 (k.0).1 (progress (ms ++ bs)) (k.0).2 (f n)

-- ---- a phase that has passed leaves nothing under way
told_rest : (b : Asking) (bs : List Asking) (s : ℕ) → IsOf AskState b → (place : ℕ) → b.decision ≡ Some (record { place = place; answer = StateAck s }) → is_on_its_way s ≡ false → Rest (b ∷ bs)
told_rest b bs s o place d r =
    ap (λ (x : Option Decision). (progress_after b.code x (progress bs)).waiting) d
    ∙ ap (λ (c : ℕ). (progress_after c (Some (record { place = place; answer = StateAck s })) (progress bs)).waiting) o.0
    ∙ ap (λ (t : Bool). (view_after (told_by None (if t then Otherwise else AtRest)) (progress bs)).waiting) r

passed_rest : (limits : Limits) (js : List Job) (job : Job) (xs : List Placed) (bs : List Asking) → AreLegal limits js (marks_of xs) → Stage job (marks_of xs) (now xs) → is_passed job (marks_of xs) ≡ true → open_request (marks_of xs) ≡ None → Rest bs → Rest (now xs ++ bs)
passed_rest limits js job xs bs l (idling q e a) p o h = let P : List Asking → Type 0 = λ z. Rest (z ++ bs) in subst P (sym e) h
passed_rest limits js job xs bs l (main_open r q k) p o h = let z : Some r ≡ None = ap open_in (sym q) ∙ o in absurd cc
passed_rest limits js job xs bs l (question_open r q k) p o h = let z : Some r ≡ None = ap open_in (sym q) ∙ o in absurd cc
passed_rest limits js job xs bs l (trying r code q g k) p o h = absurd (tried_not_passed limits js job xs r code l g k p)
passed_rest limits js job xs bs l (mains_done r q k w) p o h = by (is_by_list job.task) (is_by_end job.task) refl refl
  where
    mains : AreMains job (now xs)
    mains = (mains_acked job r (now xs) k).0

    by : (a b : Bool) → is_by_list job.task ≡ a → is_by_end job.task ≡ b → Rest (now xs ++ bs)
    by true b e f = quiet_mains job (now xs) bs (inl e) mains h
    by false true e f = quiet_mains job (now xs) bs (inr f) mains h
    by false false e f =
        let z = passed_reached job (marks_of xs) e f p in
        let y : true ≡ false = sym z ∙ reached_now job.task limits js xs l ∙ mains_name job job.task (now xs) mains in
        absurd cc
passed_rest limits js job xs bs l (state_told s q k home) p o h = by home
  where
    at_rest : is_on_its_way s ≡ false → Rest (now xs ++ bs)
    at_rest r =
        let P : List Asking → Type 0 = λ z. Rest (z ++ bs) in
        subst P (sym k.is) (told_rest k.newest ((k.qs ++ k.ms) ++ bs) s k.of (k.decided).0 (k.decided).1 r)

    by : (is_state (target_of job.task) s ≡ true) ⊎ ((is_state (passing_of job.task) s ≡ true) × (is_reached job.task (marks_of xs) ≡ false)) → Rest (now xs ++ bs)
    by (inl t) = at_rest (rests_at job.task s t)
    by (inr t) =
        let b = passes_by_state job.task s t.0 in
        let y : true ≡ false = sym (passed_reached job (marks_of xs) b.0 b.1 p) ∙ t.1 in
        absurd cc

-- nothing is under way where the phase began
pub rest_before : (limits : Limits) (js : List Job) (xs : List Placed) → AreLegal limits js (marks_of xs) → (progress (askings_told (past xs))).waiting ≡ false
rest_before limits js [] l = refl
rest_before limits js (x ∷ xs) l = by x.mark l.0 (rest_before limits js xs l.1)
  where
    by : (m : Mark) → IsLegal limits js m (marks_of xs) → (progress (askings_told (past xs))).waiting ≡ false → (progress (askings_told (past_by m xs (past xs)))).waiting ≡ false
    by (Begun j) k f = begun (k.1).passed
      where
        from_passed : HasPassed (marks_of xs) → (progress (askings_told xs)).waiting ≡ false
        from_passed h =
            let P : List Asking → Type 0 = λ z. (progress z).waiting ≡ false in
            subst P (sym (split limits js xs l.1)) (passed_rest limits js h.job xs (askings_told (past xs)) l.1 (stage limits js xs l.1 k.0 h.cause_is h.job h.job_is) h.passed (k.1).free f)

        begun : (job_of (marks_of xs) ≡ None) ⊎ (verdict_of (marks_of xs) ≡ verdicts.Passed) → (progress (askings_told xs)).waiting ≡ false
        begun (inl e) = ap (λ (z : List Asking). (progress z).waiting) (none_asked limits js xs l.1 e).0
        begun (inr v) = from_passed (verdict_passed (marks_of xs) v)
    by (Asked r) k f = f
    by Again k f = f
    by (Answered r a) k f = f
    by Hinted k f = f
    by (Brought n q) k f = f
    by (Turned t) k f = f
    by (Ended cause) k f = f

-- ---- nor where a row event is open
event_one : (job : Job) (n : ℕ) (r : Request) (k : RowEvent) → slice_get (asked_by job) n ≡ Some r → event_for (code_of r) ≡ Some k → n ≡ 0
event_one job n (Change state body) k e h = (change_slot job n state body e).0
event_one job n (Configure body) k e h = let z : None ≡ Some k = sym (no_setting body) ∙ h in absurd cc
event_one job n AskState k e h = let z : None ≡ Some k = h in absurd cc
event_one job n AskError k e h = let z : None ≡ Some k = h in absurd cc

-- xs end in the request for a row event, or in its repeat
pub rest_open : (limits : Limits) (js : List Job) (xs : List Placed) (r : Request) (k : RowEvent) → AreLegal limits js (marks_of xs) → Rests limits (marks_of xs) → cause_of (marks_of xs) ≡ None → (job : Job) → job_of (marks_of xs) ≡ Some job
    → latest (marks_of xs) ≡ latests.Asked r → event_for (code_of r) ≡ Some k → (progress (askings_told xs)).waiting ≡ false
rest_open limits js xs r k l rs c job j o e = by (open_stage job (marks_of xs) (now xs) r o (stage limits js xs l rs c job j))
  where
    P : List Asking → Type 0
    P z = (progress z).waiting ≡ false

    Q : List Asking → Type 0
    Q z = Rest (z ++ askings_told (past xs))

    by : Main job r None (now xs) ⊎ Question job r None (now xs) → (progress (askings_told xs)).waiting ≡ false
    by (inl m) =
        let z = event_one job (acked m.ms) r k m.slot e in
        let f = tried_mains job m.ms (askings_told (past xs)) m.mains z (rest_before limits js xs l) in
        let g : Rest ((m.newest ∷ m.ms) ++ askings_told (past xs)) = ap (λ (d : Option Decision). (progress_after (m.newest).code d (progress (m.ms ++ askings_told (past xs)))).waiting) m.decided ∙ f in
        subst P (sym (split limits js xs l)) (subst Q (sym m.is) g)
    by (inr q) = absurd (question r e q.asks)
      where
        question : (r : Request) → event_for (code_of r) ≡ Some k → is_main_request r ≡ false → ⊥
        question (Change state body) h m = cc
        question (Configure body) h m = cc
        question AskState h m = let z : None ≡ Some k = h in cc
        question AskError h m = let z : None ≡ Some k = h in cc
