-- What a conversation asks, by its stage.
use Rattle.std.proofs.Common.{◌≡◌, ℕ, ◌+◌, ◌<◌, ◌⊎◌, inl, inr, Bool, true, false, if◌then◌else◌, Option, Some, None, List, [], ◌∷◌, map, length, refl, sym, ap, ◌∙◌, subst, arith}
use Rattle.std.specs.Prelude.{slice_get, not, count_by, ◌==◌, ◌&&◌, ◌||◌, nat_le}
use Rattle.std.specs.List.{list_any}
use Rattle.std.proofs.lemmas.Bool.{leb-true, eqb-true}
use Rattle.std.proofs.lemmas.List.Sums.{sum_by-cons}
use Rattle.std.proofs.lemmas.Option.{slice_get_within}
use Rattle.dcp_types.specs.declared.limits.Limits.{Limits}
use Rattle.dcp_types.specs.Codes.{state_code}
use Rattle.dcp_types.specs.declared.states.State.{State}
use Rattle.pdu_layout.specs.declared.messages.Cfg.{Cfg}
use Rattle.master_spec.specs.declared.requests.Request.{Request}
use Rattle.master_spec.specs.declared.requests.Request.TheVariants.{Change, Configure, AskState, AskError}
use Rattle.master_spec.specs.declared.requests.Answer.{Answer}
use Rattle.master_spec.specs.declared.requests.Answer.TheVariants.{Ack, Nack, StateAck, ErrorAck, LogAck}
use Rattle.master_spec.specs.declared.requests.Latest.{Latest}
use Rattle.master_spec.specs.declared.requests.Latest.TheVariants as latests
use Rattle.master_spec.specs.declared.reactions.Reaction.TheVariants.{Wait, Ask, GiveUp}
use Rattle.master_spec.specs.declared.reactions.Awaited.TheVariants.{TheState, TheOutputs, TheOthers}
use Rattle.master_spec.specs.declared.tasks.Task.{Task}
use Rattle.master_spec.specs.declared.tasks.Task.TheVariants as tasks
use Rattle.master_spec.specs.Jobs.{Job, asked_by}
use Rattle.master_spec.specs.Tasks.{is_by_list, is_by_end, passing_of, target_of, task_row}
use Rattle.master_spec.specs.Marks.{Mark, Answered, acks_change, cause_of, has_row_outputs, is_hinted, is_passed, is_reached, job_of, latest, names, newest_number, open_in, open_request, settings_answered, this_phase}
use Rattle.master_spec.specs.declared.causes.Cause.TheVariants as causes
use Rattle.master_spec.specs.Conversation.{awaited, awaited_by, awaited_after, is_error, is_late, is_state, on_answer, on_state, unexpected}
use Rattle.master_spec.specs.Requests.{Asking, Decision, acked, is_ack, is_acked, is_acked_by, is_configuration, is_state_question}
use Rattle.master_spec.specs.Shown.{names_target}
use Rattle.master_log_laws.specs.Asking.Legal.{AreLegal, Rests}
use Rattle.master_log_laws.specs.Index.Index.{Placed, at, marks_of}
use Rattle.master_log_laws.proofs.Phases.Now.{now}
use Rattle.master_log_laws.proofs.Phases.Mains.{is_main_request, asked_main, change_slot, list_slot, slot_below, length_map, mains_by_list}
use Rattle.master_log_laws.proofs.Phases.Counts.{conf_code, counts, is_as, names_it, configured_now, reached_now}
use Rattle.master_log_laws.proofs.Phases.Inverse.{list_asks, nack_asks}
use Rattle.master_log_laws.proofs.Phases.Stage.{Main, Question, Stage, idling, main_open, question_open, trying, mains_done, state_told}
use Rattle.master_log_laws.proofs.Phases.Stages.{stage}
use Rattle.master_log_laws.proofs.Phases.Tags.{mains_name, passed_reached, tried_not_passed}
use Rattle.completeness_laws.proofs.Timely.Talks.{reached_is, named_in}

clash : true ≡ false → ⊥
clash z = cc

-- ---- the stage, without places
abbrev pub placed : List Mark → List Placed
placed [] = []
placed (m ∷ ms) = at 0 m ∷ placed ms

pub marks_placed : (ms : List Mark) → marks_of (placed ms) ≡ ms
marks_placed [] = refl
marks_placed (m ∷ ms) = ap (λ (z : List Mark). m ∷ z) (marks_placed ms)

pub staged : (limits : Limits) (js : List Job) (ms : List Mark) → AreLegal limits js ms → Rests limits ms → cause_of ms ≡ None → (job : Job) → job_of ms ≡ Some job → Stage job ms (now (placed ms))
staged limits js ms l r c job j =
    let e = sym (marks_placed ms) in
    let A : List Mark → Type 0 = λ z. AreLegal limits js z in
    let B : List Mark → Type 0 = λ z. Rests limits z in
    let C : List Mark → Type 0 = λ z. cause_of z ≡ None in
    let D : List Mark → Type 0 = λ z. job_of z ≡ Some job in
    let S : List Mark → Type 0 = λ z. Stage job z (now (placed ms)) in
    subst S (marks_placed ms) (stage limits js (placed ms) (subst A e l) (subst B e r) (subst C e c) job (subst D e j))

-- ---- the job that ends the session
pub end_task : (task : Task) → is_by_end task ≡ true → (target_of task ≡ None) × (passing_of task ≡ None) × (is_by_list task ≡ false)
end_task tasks.Deregister e = (refl, refl, refl)
end_task (tasks.Register uuid) e = absurd cc
end_task tasks.Setup e = absurd cc
end_task tasks.Prepare e = absurd cc
end_task tasks.Configure e = absurd cc
end_task tasks.Initialize e = absurd cc
end_task (tasks.FirstOutputs row) e = absurd cc
end_task tasks.Run e = absurd cc
end_task (tasks.Step k) e = absurd cc
end_task (tasks.Outputs k row) e = absurd cc
end_task tasks.Stop e = absurd cc
end_task tasks.Reset e = absurd cc
end_task tasks.Adjust e = absurd cc

list_task : (task : Task) → is_by_list task ≡ true → (passing_of task ≡ None) × (is_by_end task ≡ false)
list_task tasks.Setup e = (refl, refl)
list_task tasks.Adjust e = (refl, refl)
list_task tasks.Deregister e = absurd cc
list_task (tasks.Register uuid) e = absurd cc
list_task tasks.Prepare e = absurd cc
list_task tasks.Configure e = absurd cc
list_task tasks.Initialize e = absurd cc
list_task (tasks.FirstOutputs row) e = absurd cc
list_task tasks.Run e = absurd cc
list_task (tasks.Step k) e = absurd cc
list_task (tasks.Outputs k row) e = absurd cc
list_task tasks.Stop e = absurd cc
list_task tasks.Reset e = absurd cc

-- a target is no error
pub target_no_error : (task : Task) (s : ℕ) → is_state (target_of task) s ≡ true → is_error s ≡ false
target_no_error task s e = by task e
  where
    one : (code : ℕ) → (s == code) ≡ true → is_error code ≡ false → is_error s ≡ false
    one code e f = ap is_error (eqb-true s code e) ∙ f

    by : (task : Task) → is_state (target_of task) s ≡ true → is_error s ≡ false
    by (tasks.Register uuid) e = one 1 e refl
    by tasks.Setup e = one 1 e refl
    by tasks.Prepare e = one 3 e refl
    by tasks.Configure e = one 5 e refl
    by tasks.Initialize e = one 7 e refl
    by (tasks.FirstOutputs row) e = one 5 e refl
    by tasks.Run e = one 11 e refl
    by (tasks.Step k) e = one 13 e refl
    by (tasks.Outputs k row) e = one 11 e refl
    by tasks.Stop e = one 16 e refl
    by tasks.Reset e = one 1 e refl
    by tasks.Adjust e = one 1 e refl
    by tasks.Deregister e = absurd cc

-- ---- an open main request
names_none : (job : Job) (b : Asking) → b.decision ≡ None → names_it job.task b ≡ false
names_none job b e = ap (λ (o : Option Decision). is_state_question b && names_target job.task o) e ∙ by (is_state_question b)
  where
    by : (t : Bool) → (t && false) ≡ false
    by true = refl
    by false = refl

main_unreached : (limits : Limits) (js : List Job) (job : Job) (ms : List Mark) (r : Request) → AreLegal limits js ms → Main job r None (now (placed ms)) → is_reached job.task ms ≡ false
main_unreached limits js job ms r l k =
    let A : List Mark → Type 0 = λ z. AreLegal limits js z in
    ap (is_reached job.task) (sym (marks_placed ms)) ∙ reached_now job.task limits js (placed ms) (subst A (sym (marks_placed ms)) l) ∙ ap (list_any (names_it job.task)) k.is
    ∙ ap (λ (t : Bool). t || list_any (names_it job.task) k.ms) (names_none job k.newest k.decided) ∙ mains_name job job.task k.ms k.mains

abbrev one_if : Bool → ℕ
one_if b = if b then 1 else 0

main_count : (limits : Limits) (js : List Job) (job : Job) (ms : List Mark) (r : Request) → AreLegal limits js ms → is_by_list job.task ≡ true → Main job r None (now (placed ms)) → settings_answered ms < length (asked_by job)
main_count limits js job ms r l b k =
    let A : List Mark → Type 0 = λ z. AreLegal limits js z in
    let e : settings_answered ms ≡ count_by (counts conf_code is_ack) (k.newest ∷ k.ms) =
    ap settings_answered (sym (marks_placed ms)) ∙ configured_now limits js (placed ms) (subst A (sym (marks_placed ms)) l) ∙ ap (count_by (counts conf_code is_ack)) k.is in
    let f = sum_by-cons (λ (a : Asking). if counts conf_code is_ack a then 1 else 0) k.newest k.ms in
    let g : counts conf_code is_ack k.newest ≡ false = ap (λ (o : Option Decision). conf_code k.newest.code && is_as is_ack o) k.decided ∙ right (conf_code k.newest.code) in
    let h : one_if (counts conf_code is_ack k.newest) ≡ 0 = ap one_if g in
    let i : count_by (counts conf_code is_ack) k.ms ≡ acked k.ms = same k.ms ∙ sym (mains_by_list job k.ms b k.mains) in
    let j = slot_below job (acked k.ms) r k.slot in
    omega (arith, e, f, h, i, j)
  where
    right : (t : Bool) → (t && false) ≡ false
    right true = refl
    right false = refl

    two : (o : Option Decision) → is_as is_ack o ≡ is_acked_by o
    two None = refl
    two (Some d) = refl

    same : (bs : List Asking) → count_by (counts conf_code is_ack) bs ≡ count_by (λ a. is_configuration a && is_acked a) bs
    same [] = refl
    same (b ∷ bs) =
        sum_by-cons (λ (a : Asking). if counts conf_code is_ack a then 1 else 0) b bs
        ∙ ap (λ (t : Bool). (if t then 1 else 0) + count_by (counts conf_code is_ack) bs) (ap (λ (t : Bool). conf_code b.code && t) (two b.decision))
        ∙ ap (λ (n : ℕ). (if is_configuration b && is_acked b then 1 else 0) + n) (same bs)
        ∙ sym (sum_by-cons (λ (a : Asking). if is_configuration a && is_acked a then 1 else 0) b bs)

list_long : (job : Job) (r : Request) (n : ℕ) → is_by_list job.task ≡ true → slice_get (asked_by job) n ≡ Some r → (asked_by job ≡ map Configure job.list) × ((body : Cfg) × (r ≡ Configure body))
list_long job (Configure body) n b s = ((list_slot job n body s).0, (body, refl))
list_long job (Change st body) n b s = absurd (clash (sym b ∙ (change_slot job n st body s).1.1))
list_long job AskState n b s = absurd (clash (sym (asked_main job n AskState s)))
list_long job AskError n b s = absurd (clash (sym (asked_main job n AskError s)))

-- whether the phase has passed, where it does not end the session
passed_or : (job : Job) (ms : List Mark) → is_by_end job.task ≡ false → is_passed job ms ≡ true → ((is_by_list job.task ≡ true) × (nat_le (length job.list) (settings_answered ms) ≡ true)) ⊎ ((is_by_list job.task ≡ false) × (is_reached job.task ms ≡ true))
passed_or job ms f p = by (is_by_list job.task) refl
  where
    by : (b : Bool) → is_by_list job.task ≡ b → ((is_by_list job.task ≡ true) × (nat_le (length job.list) (settings_answered ms) ≡ true)) ⊎ ((is_by_list job.task ≡ false) × (is_reached job.task ms ≡ true))
    by true e = inl (e, sym (ap (λ (b : Bool). if b then nat_le (length job.list) (settings_answered ms) else if is_by_end job.task then list_any acks_change (this_phase ms) else (is_reached job.task ms && has_row_outputs (task_row job.task) ms)) e) ∙ p)
    by false e = inr (e, passed_reached job ms e f p)

pub main_not_passed : (limits : Limits) (js : List Job) (job : Job) (ms : List Mark) (r : Request) → AreLegal limits js ms → is_by_end job.task ≡ false → Main job r None (now (placed ms)) → is_passed job ms ≡ true → ⊥
main_not_passed limits js job ms r l f k p = by (passed_or job ms f p)
  where
    by : ((is_by_list job.task ≡ true) × (nat_le (length job.list) (settings_answered ms) ≡ true)) ⊎ ((is_by_list job.task ≡ false) × (is_reached job.task ms ≡ true)) → ⊥
    by (inl z) =
        let n = main_count limits js job ms r l z.0 k in
        let m = leb-true (length job.list) (settings_answered ms) z.1 in
        let a = ap length (list_long job r (acked k.ms) z.0 k.slot).0 in
        let b = length_map job.list in
        absurd (omega (arith, n, m, a, b))
    by (inr z) = clash (sym z.1 ∙ main_unreached limits js job ms r l k)

-- ---- a conversation that has no request open and has passed waits for the others
pub closed_others : (limits : Limits) (js : List Job) (job : Job) (ms : List Mark) → AreLegal limits js ms → Stage job ms (now (placed ms)) → open_request ms ≡ None → is_passed job ms ≡ true → (more : List Mark) → latest more ≡ latest ms → is_passed job more ≡ true → awaited job more ≡ TheOthers
closed_others limits js job ms l s o p more e q = by s
  where
    to : (x : Latest) → latest ms ≡ x → awaited job more ≡ awaited_by job x more
    to x f = ap (λ (y : Latest). awaited_by job y more) (e ∙ f)

    acked_others : (r : Request) → awaited_by job (latests.Answered r Ack) more ≡ TheOthers
    acked_others (Change st body) = ap (λ (b : Bool). if b then TheOthers else TheState) q
    acked_others (Configure body) = refl
    acked_others AskState = refl
    acked_others AskError = refl

    by : Stage job ms (now (placed ms)) → awaited job more ≡ TheOthers
    by (idling f g a) = to latests.Nothing f
    by (main_open r f k) = let z : Some r ≡ None = ap open_in (sym f) ∙ o in absurd cc
    by (question_open r f k) = let z : Some r ≡ None = ap open_in (sym f) ∙ o in absurd cc
    by (trying r code f h k) =
        let A : List Mark → Type 0 = λ z. AreLegal limits js z in
        absurd (tried_not_passed limits js job (placed ms) r code (subst A (sym (marks_placed ms)) l) h k (ap (is_passed job) (marks_placed ms) ∙ p))
    by (mains_done r f k w) = to (latests.Answered r Ack) f ∙ acked_others r
    by (state_told st f k h) = to (latests.Answered AskState (StateAck st)) f ∙ ap (λ (b : Bool). if b then TheOthers else if is_state (target_of job.task) st then TheOutputs else TheState) q

-- what is awaited of the state is awaited after an answer, in a phase that has not passed
pub record AwaitsState (job : Job) (ms : List Mark) : Type 0 where
  pub request : Request
  pub answer : Answer
  pub latest_is : latest ms ≡ latests.Answered request answer
  pub going : is_passed job ms ≡ false
  pub other : (s : ℕ) → latest ms ≡ latests.Answered AskState (StateAck s) → is_state (target_of job.task) s ≡ false

pub awaits_state : (job : Job) (ms : List Mark) → awaited job ms ≡ TheState → AwaitsState job ms
awaits_state job ms e = by (latest ms) refl e
  where
    same_state : (st s : ℕ) → latests.Answered AskState (StateAck st) ≡ latests.Answered AskState (StateAck s) → st ≡ s
    same_state st s z = cc

    after : (r : Request) (a : Answer) → latest ms ≡ latests.Answered r a → (b : Bool) → is_passed job ms ≡ b → awaited_after (target_of job.task) r a b ≡ TheState → AwaitsState job ms
    after (Change st body) Ack f true p z = absurd cc
    after (Change st body) Ack f false p z = record { request = Change st body; answer = Ack; latest_is = f; going = p; other = λ s g. absurd (off s (sym f ∙ g)) }
      where
        off : (s : ℕ) → latests.Answered (Change st body) Ack ≡ latests.Answered AskState (StateAck s) → ⊥
        off s z = cc
    after (Change st body) (Nack code) f b p z = absurd cc
    after (Change st body) (StateAck c) f b p z = absurd cc
    after (Change st body) (ErrorAck c) f b p z = absurd cc
    after (Change st body) LogAck f b p z = absurd cc
    after AskState (StateAck st) f true p z = absurd cc
    after AskState (StateAck st) f false p z = two (is_state (target_of job.task) st) refl z
      where
        two : (t : Bool) → is_state (target_of job.task) st ≡ t → (if t then TheOutputs else TheState) ≡ TheState → AwaitsState job ms
        two true g w = absurd cc
        two false g w = record { request = AskState; answer = StateAck st; latest_is = f; going = p; other = λ s h. ap (is_state (target_of job.task)) (sym (same_state st s (sym f ∙ h))) ∙ g }
    after AskState Ack f b p z = absurd cc
    after AskState (Nack code) f b p z = absurd cc
    after AskState (ErrorAck code) f b p z = absurd cc
    after AskState LogAck f b p z = absurd cc
    after (Configure body) a f b p z = absurd cc
    after AskError a f b p z = absurd cc

    by : (x : Latest) → latest ms ≡ x → awaited_by job x ms ≡ TheState → AwaitsState job ms
    by latests.Nothing f z = absurd cc
    by (latests.Asked r) f z = absurd cc
    by (latests.Answered r a) f z = after r a f (is_passed job ms) refl z

-- ---- what is asked after an answer
record AsksState (job : Job) (s : ℕ) (older : List Mark) : Type 0 where
  pub passing : is_state (passing_of job.task) s ≡ true
  pub unreached : is_reached job.task older ≡ false
  pub other : is_state (target_of job.task) s ≡ false

state_again : (limits : Limits) (job : Job) (s : ℕ) (older marks : List Mark) (q : Request) → on_state limits job s older marks ≡ Ask q → (q ≡ AskError) ⊎ AsksState job s older
state_again limits job s older marks q h = by (is_error s) (is_state (target_of job.task) s) refl (is_state (passing_of job.task) s) refl (is_reached job.task older) refl (is_late limits marks) (is_hinted marks) h
  where
    same_ask : (x y : Request) → Ask x ≡ Ask y → x ≡ y
    same_ask x y z = cc

    by : (a b : Bool) → is_state (target_of job.task) s ≡ b → (c : Bool) → is_state (passing_of job.task) s ≡ c → (r : Bool) → is_reached job.task older ≡ r → (d e : Bool)
        → (if a then Ask AskError else if b then Wait else if c && not r then (if d then GiveUp (causes.Stuck (newest_number marks) s) else if e then Ask AskState else Wait) else unexpected (StateAck s) marks) ≡ Ask q → (q ≡ AskError) ⊎ AsksState job s older
    by true b f c g r i d e z = inl (sym (same_ask AskError q z))
    by false true f c g r i d e z = absurd cc
    by false false f true g false i d e z = inr (record { passing = g; unreached = i; other = f })
    by false false f true g true i d e z = absurd cc
    by false false f false g r i d e z = absurd cc

-- where the answer leads to another request, the phase has passed only if that asks for the error
pub answer_asks : (limits : Limits) (js : List Job) (job : Job) (ms : List Mark) (r : Request) (a : Answer) (q : Request) → AreLegal limits js ms → is_by_end job.task ≡ false → Stage job ms (now (placed ms)) → open_request ms ≡ Some r
    → on_answer limits job r a ms (Answered r a ∷ ms) ≡ Ask q → is_passed job (Answered r a ∷ ms) ≡ true → q ≡ AskError
answer_asks limits js job ms r a q l f s o e p = by s
  where
    open_is : (x : Request) → latest ms ≡ latests.Asked x → x ≡ r
    open_is x g = let z : Some x ≡ Some r = ap open_in (sym g) ∙ o in cc

    unnamed : (x : Bool) → is_reached job.task ms ≡ false → ((code : ℕ) → names code (Answered r a) ≡ false) → is_reached job.task (Answered r a ∷ ms) ≡ false
    unnamed x u n = reached_is job (Answered r a ∷ ms) ∙ two (target_of job.task) (sym (reached_is job ms) ∙ u)
      where
        two : (t : Option State) → named_in t (this_phase ms) ≡ false → named_in t (Answered r a ∷ this_phase ms) ≡ false
        two None z = refl
        two (Some st) z = ap (λ (b : Bool). b || list_any (names (state_code st)) (this_phase ms)) (n (state_code st)) ∙ z

    passed : ((is_by_list job.task ≡ true) × (nat_le (length job.list) (settings_answered (Answered r a ∷ ms)) ≡ true)) ⊎ ((is_by_list job.task ≡ false) × (is_reached job.task (Answered r a ∷ ms) ≡ true))
    passed = passed_or job (Answered r a ∷ ms) f p

    main : (x : Request) → latest ms ≡ latests.Asked x → Main job x None (now (placed ms)) → q ≡ AskError
    main x g k = by (Main-of k)
      where
        R : Request → Type 0
        R y = Main job y None (now (placed ms))

        Main-of : Main job x None (now (placed ms)) → R r
        Main-of k = subst R (open_is x g) k

        by : Main job r None (now (placed ms)) → q ≡ AskError
        by k = kinds r a k e (λ u n. unnamed true u n) passed
          where
            kinds : (r : Request) (a : Answer) → Main job r None (now (placed ms)) → on_answer limits job r a ms (Answered r a ∷ ms) ≡ Ask q
                → (is_reached job.task ms ≡ false → ((code : ℕ) → names code (Answered r a) ≡ false) → is_reached job.task (Answered r a ∷ ms) ≡ false)
                → ((is_by_list job.task ≡ true) × (nat_le (length job.list) (settings_answered (Answered r a ∷ ms)) ≡ true)) ⊎ ((is_by_list job.task ≡ false) × (is_reached job.task (Answered r a ∷ ms) ≡ true)) → q ≡ AskError
            kinds r (Nack code) k e u p = absurd (nack_asks limits job r code (Answered r (Nack code) ∷ ms) q e)
            kinds (Configure body) Ack k e u (inl z) =
                let b = list_asks (slice_get job.list (settings_answered (Answered (Configure body) Ack ∷ ms))) q e in
                let n = slice_get_within job.list (settings_answered (Answered (Configure body) Ack ∷ ms)) b.0 b.1.0 in
                let m = leb-true (length job.list) (settings_answered (Answered (Configure body) Ack ∷ ms)) z.1 in
                absurd (omega (arith, n, m))
            kinds (Configure body) Ack k e u (inr z) = absurd (clash (sym (list_slot job (acked k.ms) body k.slot).1 ∙ z.0))
            kinds (Change st body) Ack k e u (inl z) = absurd (clash (sym z.0 ∙ (change_slot job (acked k.ms) st body k.slot).1.1))
            kinds (Change st body) Ack k e u (inr z) = absurd (clash (sym z.1 ∙ u (main_unreached limits js job ms (Change st body) l k) (λ code. refl)))
            kinds AskState a k e u p = absurd (clash (sym (asked_main job (acked k.ms) AskState k.slot)))
            kinds AskError a k e u p = absurd (clash (sym (asked_main job (acked k.ms) AskError k.slot)))
            kinds (Configure body) (StateAck c) k e u p = absurd cc
            kinds (Configure body) (ErrorAck c) k e u p = absurd cc
            kinds (Configure body) LogAck k e u p = absurd cc
            kinds (Change st body) (StateAck c) k e u p = absurd cc
            kinds (Change st body) (ErrorAck c) k e u p = absurd cc
            kinds (Change st body) LogAck k e u p = absurd cc

    question : (x : Request) → latest ms ≡ latests.Asked x → Question job x None (now (placed ms)) → q ≡ AskError
    question x g k = kinds r a (sym (ap is_main_request (open_is x g)) ∙ k.asks) e passed
      where
        told : (c : ℕ) → AsksState job c ms → ((is_by_list job.task ≡ true) × (nat_le (length job.list) (settings_answered (Answered AskState (StateAck c) ∷ ms)) ≡ true)) ⊎ ((is_by_list job.task ≡ false) × (is_reached job.task (Answered AskState (StateAck c) ∷ ms) ≡ true)) → ⊥
        told c w (inl z) = let y : false ≡ true = sym (ap (λ (t : Option State). is_state t c) (list_task job.task z.0).0) ∙ w.passing in cc
        told c w (inr z) = clash (sym z.1 ∙ reached_is job (Answered AskState (StateAck c) ∷ ms) ∙ two (target_of job.task) w.other (sym (reached_is job ms) ∙ w.unreached))
          where
            two : (t : Option State) → is_state t c ≡ false → named_in t (this_phase ms) ≡ false → named_in t (Answered AskState (StateAck c) ∷ this_phase ms) ≡ false
            two None i j = refl
            two (Some st) i j = ap (λ (b : Bool). b || list_any (names (state_code st)) (this_phase ms)) i ∙ j

        kinds : (r : Request) (a : Answer) → is_main_request r ≡ false → on_answer limits job r a ms (Answered r a ∷ ms) ≡ Ask q
            → ((is_by_list job.task ≡ true) × (nat_le (length job.list) (settings_answered (Answered r a ∷ ms)) ≡ true)) ⊎ ((is_by_list job.task ≡ false) × (is_reached job.task (Answered r a ∷ ms) ≡ true)) → q ≡ AskError
        kinds (Change st body) a m e p = absurd (clash m)
        kinds (Configure body) a m e p = absurd (clash m)
        kinds r (Nack code) m e p = absurd (nack_asks limits job r code (Answered r (Nack code) ∷ ms) q e)
        kinds AskState (StateAck c) m e p = two (state_again limits job c ms (Answered AskState (StateAck c) ∷ ms) q e)
          where
            two : (q ≡ AskError) ⊎ AsksState job c ms → q ≡ AskError
            two (inl z) = z
            two (inr w) = absurd (told c w p)
        kinds AskState Ack m e p = absurd cc
        kinds AskState (ErrorAck c) m e p = absurd cc
        kinds AskState LogAck m e p = absurd cc
        kinds AskError (ErrorAck c) m e p = absurd cc
        kinds AskError Ack m e p = absurd cc
        kinds AskError (StateAck c) m e p = absurd cc
        kinds AskError LogAck m e p = absurd cc

    by : Stage job ms (now (placed ms)) → q ≡ AskError
    by (main_open x g k) = main x g k
    by (question_open x g k) = question x g k
    by (idling g b c) = let z : None ≡ Some r = ap open_in (sym g) ∙ o in absurd cc
    by (trying x code g h k) = let z : None ≡ Some r = ap open_in (sym g) ∙ o in absurd cc
    by (mains_done x g k w) = let z : None ≡ Some r = ap open_in (sym g) ∙ o in absurd cc
    by (state_told c g k h) = let z : None ≡ Some r = ap open_in (sym g) ∙ o in absurd cc
