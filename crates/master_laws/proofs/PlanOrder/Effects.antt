-- What the requests of a phase change of what a slave took.
use Rattle.std.proofs.Common.{◌≡◌, ℕ, zero, suc, ◌+◌, ◌≤◌, Bool, true, false, if◌then◌else◌, ◌⊎◌, inl, inr, Option, Some, None, List, [], ◌∷◌, ◌++◌, map, take, reverse, refl, sym, ap, ◌∙◌, arith}
use Rattle.std.specs.Prelude.{◌&&◌, ◌||◌, is_some, slice_get}
use Rattle.std.specs.List.{list_any}
use Rattle.std.proofs.lemmas.Bool.{and_parts}
use Rattle.std.proofs.lemmas.List.{reverse-append}
use Rattle.pdu_layout.specs.declared.messages.Cfg.{Cfg}
use Rattle.pdu_layout.specs.declared.messages.Stc.TheVariants as stc
use Rattle.slave_spec.specs.declared.words.Asked.{Asked}
use Rattle.slave_spec.specs.declared.words.Asked.TheVariants as words
use Rattle.plan_laws.specs.Course.Taken.{setting_taken, reset_taken, told_after}
use Rattle.master_spec.specs.declared.requests.Request.{Request}
use Rattle.master_spec.specs.declared.requests.Request.TheVariants.{Change, Configure, AskState, AskError}
use Rattle.master_spec.specs.declared.requests.Answer.{Answer}
use Rattle.master_spec.specs.declared.requests.Answer.TheVariants.{Ack, Nack, StateAck, ErrorAck, LogAck}
use Rattle.master_spec.specs.declared.tasks.Task.TheVariants as tasks
use Rattle.master_spec.specs.Tasks.{is_by_list, target_of, asks_step}
use Rattle.master_spec.specs.Conversation.{is_state}
use Rattle.master_spec.specs.Jobs.{Job, asked_by}
use Rattle.master_spec.specs.Requests.{Asking, Decision, is_main, is_state_question, is_ack, is_acked_by, is_acked, acked}
use Rattle.master_spec.specs.Shown.{names_in, names_target}
use Rattle.master_log_laws.proofs.Phases.Now.{IsOf}
use Rattle.master_log_laws.proofs.Phases.Mains.{is_main_request, of_main, of_step, one_if, acked_more, acked_yes, AreMains, AreQuestions, IsTried}
use Rattle.master_log_laws.proofs.Phases.Counts.{names_it}
use Rattle.master_laws.specs.Rows.Laws.{event_for, asks_event}
use Rattle.master_laws.proofs.PlanOrder.Hearing.{asked_for, asked_of, asked_is}
use Rattle.master_laws.proofs.PlanOrder.Taken.{names_ready, settings_with, settings_by, resets_with, resets_by, ready_with, ready_by, event_count, events_by}
use Rattle.master_laws.proofs.PlanOrder.Requests.{is_reset, is_setting, is_event, resets_slave, is_row_task, kind_at, in_list, IsOfJob, AllAsk, named_by, TellsHome}

-- ---- one request
no_clash : {A : Type 0} → true ≡ false → A
no_clash e = absurd cc

setting_off : (r : Request) (o : Option Decision) (rest : List Cfg) → is_setting r ≡ false → settings_with (Some (asked_for r)) o rest ≡ rest
setting_off r None rest e = refl
setting_off (Change state body) (Some d) rest e = refl
setting_off (Configure body) (Some d) rest e = absurd cc
setting_off AskState (Some d) rest e = refl
setting_off AskError (Some d) rest e = refl

reset_off : (r : Request) (o : Option Decision) (n : ℕ) → is_reset r ≡ false → resets_with (Some (asked_for r)) o n ≡ n
reset_off r None n e = refl
reset_off (Change state (stc.Register uuid op_mode major minor)) (Some d) n e = refl
reset_off (Change state stc.Deregister) (Some d) n e = refl
reset_off (Change state stc.Prepare) (Some d) n e = refl
reset_off (Change state stc.Configure) (Some d) n e = refl
reset_off (Change state stc.Initialize) (Some d) n e = refl
reset_off (Change state (stc.Run start_time)) (Some d) n e = refl
reset_off (Change state (stc.DoStep steps)) (Some d) n e = refl
reset_off (Change state stc.SendOutputs) (Some d) n e = refl
reset_off (Change state stc.Stop) (Some d) n e = refl
reset_off (Change state stc.Reset) (Some d) n e = absurd cc
reset_off (Configure body) (Some d) n e = refl
reset_off AskState (Some d) n e = refl
reset_off AskError (Some d) n e = refl

-- what it tells stays, but for an answer that names INITIALIZED
ready_off : (r : Request) (d : Decision) (before : Bool) → is_reset r ≡ false → ready_with (Some (asked_for r)) (Some d) before ≡ (if names_ready d.answer then true else before)
ready_off (Change state (stc.Register uuid op_mode major minor)) d before e = refl
ready_off (Change state stc.Deregister) d before e = refl
ready_off (Change state stc.Prepare) d before e = refl
ready_off (Change state stc.Configure) d before e = refl
ready_off (Change state stc.Initialize) d before e = refl
ready_off (Change state (stc.Run start_time)) d before e = refl
ready_off (Change state (stc.DoStep steps)) d before e = refl
ready_off (Change state stc.SendOutputs) d before e = refl
ready_off (Change state stc.Stop) d before e = refl
ready_off (Change state stc.Reset) d before e = absurd cc
ready_off (Configure body) d before e = refl
ready_off AskState d before e = refl
ready_off AskError d before e = refl

ready_unacked : (asked : Option Asked) (tells before : Bool) → told_after asked false tells before ≡ (if tells then true else before)
ready_unacked None tells before = refl
ready_unacked (Some (words.Setting body)) tells before = refl
ready_unacked (Some (words.Question q)) tells before = refl
ready_unacked (Some (words.Change state (stc.Register uuid op_mode major minor))) tells before = refl
ready_unacked (Some (words.Change state stc.Deregister)) tells before = refl
ready_unacked (Some (words.Change state stc.Prepare)) tells before = refl
ready_unacked (Some (words.Change state stc.Configure)) tells before = refl
ready_unacked (Some (words.Change state stc.Initialize)) tells before = refl
ready_unacked (Some (words.Change state (stc.Run start_time))) tells before = refl
ready_unacked (Some (words.Change state (stc.DoStep steps))) tells before = refl
ready_unacked (Some (words.Change state stc.SendOutputs)) tells before = refl
ready_unacked (Some (words.Change state stc.Stop)) tells before = refl
ready_unacked (Some (words.Change state stc.Reset)) tells before = refl

question_kind : (r : Request) → is_main_request r ≡ false → (is_reset r ≡ false) × ((is_setting r ≡ false) × (is_event r ≡ false))
question_kind (Change state body) e = absurd cc
question_kind (Configure body) e = absurd cc
question_kind AskState e = (refl, (refl, refl))
question_kind AskError e = (refl, (refl, refl))

none_more : (n : ℕ) → 0 + n ≡ n
none_more n = omega arith

-- no request of such a job resets, sets, or is for a row event
no_reset : (job : Job) (r : Request) → IsOfJob job r → resets_slave job.task ≡ false → is_reset r ≡ false
no_reset job r (inl q) e = (question_kind r q).0
no_reset job r (inr k) e = (kind_at job k.0 r k.1).reset ∙ e

no_setting : (job : Job) (r : Request) → IsOfJob job r → is_by_list job.task ≡ false → is_setting r ≡ false
no_setting job r (inl q) e = ((question_kind r q).1).0
no_setting job r (inr k) e = (kind_at job k.0 r k.1).setting ∙ e

no_event : (job : Job) (r : Request) → IsOfJob job r → is_row_task job.task ≡ false → is_event r ≡ false
no_event job r (inl q) e = ((question_kind r q).1).1
no_event job r (inr k) e = (kind_at job k.0 r k.1).event ∙ e

event_of : (r : Request) (b : Asking) → IsOf r b → asks_event b ≡ is_event r
event_of r b o = ap (λ (c : ℕ). is_some (event_for c)) o.0

-- ---- requests that change nothing
pub settings_same : (id : ℕ) (job : Job) (ys bs : List Asking) → AllAsk job ys → is_by_list job.task ≡ false → settings_by id (ys ++ bs) ≡ settings_by id bs
settings_same id job [] bs a e = refl
settings_same id job (b ∷ ys) bs a e =
    let r = (a.0).0 in
    ap (λ (o : Option Asked). settings_with o b.decision (settings_by id (ys ++ bs))) (asked_is id r b ((a.0).1).0)
    ∙ setting_off r b.decision (settings_by id (ys ++ bs)) (no_setting job r ((a.0).1).1 e)
    ∙ settings_same id job ys bs a.1 e

pub resets_same : (id : ℕ) (job : Job) (ys bs : List Asking) → AllAsk job ys → resets_slave job.task ≡ false → resets_by id (ys ++ bs) ≡ resets_by id bs
resets_same id job [] bs a e = refl
resets_same id job (b ∷ ys) bs a e =
    let r = (a.0).0 in
    ap (λ (o : Option Asked). resets_with o b.decision (resets_by id (ys ++ bs))) (asked_is id r b ((a.0).1).0)
    ∙ reset_off r b.decision (resets_by id (ys ++ bs)) (no_reset job r ((a.0).1).1 e)
    ∙ resets_same id job ys bs a.1 e

pub events_same : (job : Job) (ys bs : List Asking) → AllAsk job ys → is_row_task job.task ≡ false → events_by (ys ++ bs) ≡ events_by bs
events_same job [] bs a e = refl
events_same job (b ∷ ys) bs a e =
    let r = (a.0).0 in
    ap (λ (t : Bool). (if t && is_acked b then 1 else 0) + events_by (ys ++ bs)) (event_of r b ((a.0).1).0 ∙ no_event job r ((a.0).1).1 e)
    ∙ none_more (events_by (ys ++ bs))
    ∙ events_same job ys bs a.1 e

-- ---- those that are acknowledged
main_acked : (b : Asking) (ys : List Asking) (t : Bool) → (is_main b && is_acked b) ≡ t → acked (b ∷ ys) ≡ one_if t + acked ys
main_acked b ys t e = acked_more b ys ∙ ap (λ (x : Bool). one_if x + acked ys) e

-- each is for the job's row event, or a question
event_count_is : (job : Job) (b : Asking) → ((r : Request) × (IsOf r b × IsOfJob job r)) → is_row_task job.task ≡ true → event_count b ≡ one_if (is_main b && is_acked b)
event_count_is job b a e = ap (λ (t : Bool). if t && is_acked b then 1 else 0) (event_of a.0 b (a.1).0 ∙ same (a.1).1 ∙ sym (of_main a.0 b (a.1).0))
  where
    same : IsOfJob job a.0 → is_event a.0 ≡ is_main_request a.0
    same (inl q) = ((question_kind a.0 q).1).1 ∙ sym q
    same (inr k) = let z = (kind_at job k.0 a.0 k.1).event ∙ e in z ∙ sym (event_main a.0 z)
      where
        event_main : (r : Request) → is_event r ≡ true → is_main_request r ≡ true
        event_main (Change state body) z = refl
        event_main (Configure body) z = refl
        event_main AskState z = absurd cc
        event_main AskError z = absurd cc

pub events_more : (job : Job) (ys bs : List Asking) → AllAsk job ys → is_row_task job.task ≡ true → events_by (ys ++ bs) ≡ acked ys + events_by bs
events_more job [] bs a e = let z : acked [] ≡ 0 = refl in omega (arith, z)
events_more job (b ∷ ys) bs a e =
    let h = events_more job ys bs a.1 e in
    let c = event_count_is job b a.0 e in
    let m = acked_more b ys in
    omega (arith, h, c, m)

reset_one : (job : Job) (id : ℕ) (b : Asking) (n : ℕ) → ((r : Request) × (IsOf r b × IsOfJob job r)) → resets_slave job.task ≡ true → resets_with (asked_of id b) b.decision n ≡ one_if (is_main b && is_acked b) + n
reset_one job id b n a e =
    ap (λ (o : Option Asked). resets_with o b.decision n) (asked_is id a.0 b (a.1).0)
    ∙ two (a.1).1
  where
    off : (t : Bool) → is_main b ≡ false → n ≡ one_if (is_main b && t) + n
    off t q = sym (none_more n) ∙ ap (λ (m : Bool). one_if (m && t) + n) (sym q)

    on : (r : Request) (o : Option Decision) → is_reset r ≡ true → resets_with (Some (asked_for r)) o n ≡ one_if (is_main_request r && is_acked_by o) + n
    on (Change state stc.Reset) None z = sym (none_more n)
    on (Change state stc.Reset) (Some d) z = by (is_ack d.answer)
      where
        by : (t : Bool) → reset_taken (Some (words.Change state stc.Reset)) t n ≡ one_if t + n
        by true = omega arith
        by false = sym (none_more n)
    on (Change state (stc.Register uuid op_mode major minor)) o z = absurd cc
    on (Change state stc.Deregister) o z = absurd cc
    on (Change state stc.Prepare) o z = absurd cc
    on (Change state stc.Configure) o z = absurd cc
    on (Change state stc.Initialize) o z = absurd cc
    on (Change state (stc.Run start_time)) o z = absurd cc
    on (Change state (stc.DoStep steps)) o z = absurd cc
    on (Change state stc.SendOutputs) o z = absurd cc
    on (Change state stc.Stop) o z = absurd cc
    on (Configure body) o z = absurd cc
    on AskState o z = absurd cc
    on AskError o z = absurd cc

    two : IsOfJob job a.0 → resets_with (Some (asked_for a.0)) b.decision n ≡ one_if (is_main b && is_acked b) + n
    two (inl q) = reset_off a.0 b.decision n (question_kind a.0 q).0 ∙ off (is_acked b) (of_main a.0 b (a.1).0 ∙ q)
    two (inr k) = on a.0 b.decision ((kind_at job k.0 a.0 k.1).reset ∙ e) ∙ ap (λ (m : Bool). one_if (m && is_acked b) + n) (sym (of_main a.0 b (a.1).0))

pub resets_more : (id : ℕ) (job : Job) (ys bs : List Asking) → AllAsk job ys → resets_slave job.task ≡ true → resets_by id (ys ++ bs) ≡ acked ys + resets_by id bs
resets_more id job [] bs a e = let z : acked [] ≡ 0 = refl in omega (arith, z)
resets_more id job (b ∷ ys) bs a e =
    let h = resets_more id job ys bs a.1 e in
    let c = reset_one job id b (resets_by id (ys ++ bs)) a.0 e in
    let m = acked_more b ys in
    omega (arith, h, c, m)

-- ---- whether the outputs are ready
-- what one request leaves, where it is no reset that is acknowledged
ready_one : (id : ℕ) (r : Request) (b : Asking) (before : Bool) → IsOf r b → (is_reset r ≡ false) ⊎ ((is_main b && is_acked b) ≡ false) → ready_with (asked_of id b) b.decision before ≡ (if named_by b.decision then true else before)
ready_one id r b before o k = ap (λ (x : Option Asked). ready_with x b.decision before) (asked_is id r b o) ∙ two k b.decision refl
  where
    main : (r : Request) → is_reset r ≡ true → is_main_request r ≡ true
    main (Change state body) e = refl
    main (Configure body) e = absurd cc
    main AskState e = absurd cc
    main AskError e = absurd cc

    three : (d : Decision) (t : Bool) → is_reset r ≡ t → (is_main_request r && is_ack d.answer) ≡ false → ready_with (Some (asked_for r)) (Some d) before ≡ (if names_ready d.answer then true else before)
    three d false e n = ready_off r d before e
    three d true e n =
        let z : is_ack d.answer ≡ false = ap (λ (m : Bool). m && is_ack d.answer) (sym (main r e)) ∙ n in
        ap (λ (t : Bool). told_after (Some (asked_for r)) t (names_ready d.answer) before) z ∙ ready_unacked (Some (asked_for r)) (names_ready d.answer) before

    two : (is_reset r ≡ false) ⊎ ((is_main b && is_acked b) ≡ false) → (x : Option Decision) → b.decision ≡ x → ready_with (Some (asked_for r)) x before ≡ (if named_by x then true else before)
    two k None e = refl
    two (inl f) (Some d) e = ready_off r d before f
    two (inr n) (Some d) e = three d (is_reset r) refl (ap (λ (m : Bool). m && is_ack d.answer) (sym (of_main r b o)) ∙ ap (λ (x : Option Decision). is_main b && is_acked_by x) (sym e) ∙ n)

-- no reset among them is acknowledged
abbrev pub Undone : Job → List Asking → Type 0
Undone job ys = (resets_slave job.task ≡ false) ⊎ (acked ys ≡ 0)

undone_head : (job : Job) (b : Asking) (ys : List Asking) (a : (r : Request) × (IsOf r b × IsOfJob job r)) → Undone job (b ∷ ys) → (is_reset a.0 ≡ false) ⊎ ((is_main b && is_acked b) ≡ false)
undone_head job b ys a (inl e) = inl (no_reset job a.0 (a.1).1 e)
undone_head job b ys a (inr z) = by (is_main b && is_acked b) refl
  where
    by : (t : Bool) → (is_main b && is_acked b) ≡ t → (is_reset a.0 ≡ false) ⊎ ((is_main b && is_acked b) ≡ false)
    by true e = let m = main_acked b ys true e in absurd (omega (arith, m, z))
    by false e = inr e

undone_tail : (job : Job) (b : Asking) (ys : List Asking) → Undone job (b ∷ ys) → Undone job ys
undone_tail job b ys (inl e) = inl e
undone_tail job b ys (inr z) = let m = acked_more b ys in inr (omega (arith, m, z))

-- it stays ready
pub ready_stays : (id : ℕ) (job : Job) (ys bs : List Asking) → AllAsk job ys → Undone job ys → ready_by id bs ≡ true → ready_by id (ys ++ bs) ≡ true
ready_stays id job [] bs a u h = h
ready_stays id job (b ∷ ys) bs a u h =
    ready_one id (a.0).0 b (ready_by id (ys ++ bs)) ((a.0).1).0 (undone_head job b ys a.0 u)
    ∙ ap (λ (t : Bool). if named_by b.decision then true else t) (ready_stays id job ys bs a.1 (undone_tail job b ys u) h)
    ∙ by (named_by b.decision)
  where
    by : (t : Bool) → (if t then true else true) ≡ true
    by true = refl
    by false = refl

not_named : (job : Job) (o : Option Decision) → (named_by o ≡ true → is_state (target_of job.task) 7 ≡ true) → is_state (target_of job.task) 7 ≡ false → named_by o ≡ false
not_named job o f e = by (named_by o) refl
  where
    by : (t : Bool) → named_by o ≡ t → t ≡ false
    by true h = no_clash (sym (f h) ∙ e)
    by false h = refl

-- and no less where INITIALIZED is not the target
pub ready_same : (id : ℕ) (job : Job) (ys bs : List Asking) → AllAsk job ys → TellsHome job ys → resets_slave job.task ≡ false → is_state (target_of job.task) 7 ≡ false → ready_by id (ys ++ bs) ≡ ready_by id bs
ready_same id job [] bs a t e f = refl
ready_same id job (b ∷ ys) bs a t e f =
    ready_one id (a.0).0 b (ready_by id (ys ++ bs)) ((a.0).1).0 (inl (no_reset job (a.0).0 ((a.0).1).1 e))
    ∙ ap (λ (x : Bool). if x then true else ready_by id (ys ++ bs)) (not_named job b.decision t.0 f)
    ∙ ready_same id job ys bs a.1 t.1 e f

-- once INITIALIZED is named it is ready
pub ready_named : (id : ℕ) (job : Job) (ys bs : List Asking) → AllAsk job ys → resets_slave job.task ≡ false → target_of job.task ≡ target_of tasks.Initialize → list_any (names_it job.task) ys ≡ true → ready_by id (ys ++ bs) ≡ true
ready_named id job [] bs a e g h = absurd cc
ready_named id job (b ∷ ys) bs a e g h =
    ready_one id (a.0).0 b (ready_by id (ys ++ bs)) ((a.0).1).0 (inl (no_reset job (a.0).0 ((a.0).1).1 e))
    ∙ by (names_it job.task b) refl h (λ k. ready_named id job ys bs a.1 e g k)
  where
    tells : (o : Option Decision) → names_target job.task o ≡ true → named_by o ≡ true
    tells None z = absurd cc
    tells (Some d) z = answer d.answer z
      where
        answer : (x : Answer) → names_in job.task x ≡ true → names_ready x ≡ true
        answer (StateAck s) z = ap (λ t. is_state t s) (sym g) ∙ z
        answer Ack z = absurd cc
        answer (Nack code) z = absurd cc
        answer (ErrorAck code) z = absurd cc
        answer LogAck z = absurd cc

    stays : (t : Bool) → (if t then true else true) ≡ true
    stays true = refl
    stays false = refl

    by : (t : Bool) → names_it job.task b ≡ t → (t || list_any (names_it job.task) ys) ≡ true → (list_any (names_it job.task) ys ≡ true → ready_by id (ys ++ bs) ≡ true) → (if named_by b.decision then true else ready_by id (ys ++ bs)) ≡ true
    by true z k f = ap (λ (x : Bool). if x then true else ready_by id (ys ++ bs)) (tells b.decision (and_parts (is_state_question b) (names_target job.task b.decision) z).1)
    by false z k f = ap (λ (x : Bool). if named_by b.decision then true else x) (f k) ∙ stays (named_by b.decision)

-- a reset that is acknowledged leaves it not ready
pub ready_ends : (id : ℕ) (job : Job) (ys bs : List Asking) → AllAsk job ys → TellsHome job ys → resets_slave job.task ≡ true → is_state (target_of job.task) 7 ≡ false → 1 ≤ acked ys → ready_by id (ys ++ bs) ≡ false
ready_ends id job [] bs a t e f h = let z : acked [] ≡ 0 = refl in absurd (omega (arith, z, h))
ready_ends id job (b ∷ ys) bs a t e f h = by (is_main b && is_acked b) refl (λ k. ready_ends id job ys bs a.1 t.1 e f k)
  where
    r : Request
    r = (a.0).0

    of : IsOf r b
    of = ((a.0).1).0

    resets : is_main_request r ≡ true → is_reset r ≡ true
    resets m = two ((a.0).1).1
      where
        two : IsOfJob job r → is_reset r ≡ true
        two (inl q) = no_clash (sym m ∙ q)
        two (inr k) = (kind_at job k.0 r k.1).reset ∙ e

    ended : (r : Request) (o : Option Decision) → is_reset r ≡ true → is_acked_by o ≡ true → ready_with (Some (asked_for r)) o (ready_by id (ys ++ bs)) ≡ false
    ended (Change state stc.Reset) None z k = absurd cc
    ended (Change state stc.Reset) (Some d) z k = ap (λ (x : Bool). told_after (Some (words.Change state stc.Reset)) x (names_ready d.answer) (ready_by id (ys ++ bs))) k
    ended (Change state (stc.Register uuid op_mode major minor)) o z k = absurd cc
    ended (Change state stc.Deregister) o z k = absurd cc
    ended (Change state stc.Prepare) o z k = absurd cc
    ended (Change state stc.Configure) o z k = absurd cc
    ended (Change state stc.Initialize) o z k = absurd cc
    ended (Change state (stc.Run start_time)) o z k = absurd cc
    ended (Change state (stc.DoStep steps)) o z k = absurd cc
    ended (Change state stc.SendOutputs) o z k = absurd cc
    ended (Change state stc.Stop) o z k = absurd cc
    ended (Configure body) o z k = absurd cc
    ended AskState o z k = absurd cc
    ended AskError o z k = absurd cc

    by : (x : Bool) → (is_main b && is_acked b) ≡ x → (1 ≤ acked ys → ready_by id (ys ++ bs) ≡ false) → ready_by id ((b ∷ ys) ++ bs) ≡ false
    by true z g =
        let p = and_parts (is_main b) (is_acked b) z in
        ap (λ (o : Option Asked). ready_with o b.decision (ready_by id (ys ++ bs))) (asked_is id r b of)
        ∙ ended r b.decision (resets (sym (of_main r b of) ∙ p.0)) p.1
    by false z g =
        let m = main_acked b ys false z in
        ready_one id r b (ready_by id (ys ++ bs)) of (inr z)
        ∙ ap (λ (x : Bool). if x then true else ready_by id (ys ++ bs)) (not_named job b.decision t.0 f)
        ∙ g (omega (arith, m, h))

-- ---- the settings of a list
take_more : (list : List Cfg) (n : ℕ) (body : Cfg) → slice_get list n ≡ Some body → take (suc n) list ≡ take n list ++ body ∷ []
take_more [] n body e = absurd cc
take_more (b ∷ list) zero body e = let z : b ≡ body = cc in ap (λ (x : Cfg). x ∷ []) z
take_more (b ∷ list) (suc n) body e = ap (λ (l : List Cfg). b ∷ l) (take_more list n body e)

setting_on : (body : Cfg) (o : Option Decision) (rest : List Cfg) → is_acked_by o ≡ true → settings_with (Some (words.Setting body)) o rest ≡ body ∷ rest
setting_on body None rest h = absurd cc
setting_on body (Some d) rest h = ap (λ (t : Bool). setting_taken (Some (words.Setting body)) t rest) h

pub settings_mains : (id : ℕ) (job : Job) (ms bs : List Asking) → asked_by job ≡ map Configure job.list → AreMains job ms → settings_by id (ms ++ bs) ≡ reverse (take (acked ms) job.list) ++ settings_by id bs
settings_mains id job [] bs e m =
    let z : acked [] ≡ 0 = refl in
    ap (λ (n : ℕ). reverse (take n job.list) ++ settings_by id bs) (sym z)
settings_mains id job (b ∷ ms) bs e m =
    let k = m.0 in
    let s = in_list job.list (acked ms) k.request (ap (λ (rs : List Request). slice_get rs (acked ms)) (sym e) ∙ k.slot) in
    let body = s.0 in
    let is_acked_now = tried (s.1).0 (m.1).0 in
    let rest = settings_by id (ms ++ bs) in
    let more : acked (b ∷ ms) ≡ suc (acked ms) = acked_yes b ms (of_main k.request b k.of ∙ k.main) is_acked_now ∙ omega arith in
    ap (λ (o : Option Asked). settings_with o b.decision rest) (asked_is id k.request b k.of ∙ ap (λ (r : Request). Some (asked_for r)) (s.1).0)
    ∙ setting_on body b.decision rest is_acked_now
    ∙ ap (λ (l : List Cfg). body ∷ l) (settings_mains id job ms bs e (m.1).1)
    ∙ ap (λ (l : List Cfg). l ++ settings_by id bs) (sym (reverse-append (take (acked ms) job.list) (body ∷ [])))
    ∙ ap (λ (l : List Cfg). reverse l ++ settings_by id bs) (sym (take_more job.list (acked ms) body (s.1).1))
    ∙ ap (λ (n : ℕ). reverse (take n job.list) ++ settings_by id bs) (sym more)
  where
    tried : (m.0).request ≡ Configure (in_list job.list (acked ms) (m.0).request (ap (λ (rs : List Request). slice_get rs (acked ms)) (sym e) ∙ (m.0).slot)).0 → IsTried b → is_acked b ≡ true
    tried s (inl h) = h
    tried s (inr h) = no_clash (sym h.1 ∙ of_step (m.0).request b (m.0).of ∙ ap asks_step s)

pub settings_questions : (id : ℕ) (job : Job) (qs cs : List Asking) → AllAsk job qs → AreQuestions qs → settings_by id (qs ++ cs) ≡ settings_by id cs
settings_questions id job [] cs a q = refl
settings_questions id job (b ∷ qs) cs a q =
    let r = (a.0).0 in
    let z = question_kind r (sym (of_main r b ((a.0).1).0) ∙ q.0) in
    ap (λ (o : Option Asked). settings_with o b.decision (settings_by id (qs ++ cs))) (asked_is id r b ((a.0).1).0)
    ∙ setting_off r b.decision (settings_by id (qs ++ cs)) (z.1).0
    ∙ settings_questions id job qs cs a.1 q.1
