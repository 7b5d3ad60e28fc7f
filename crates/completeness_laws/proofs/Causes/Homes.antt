-- The state to which each task leads a slave, and where the requests of a phase have it.
use Rattle.std.proofs.Common.{◌≡◌, ℕ, zero, suc, Bool, true, false, if◌then◌else◌, inl, inr, Option, Some, None, List, [], ◌∷◌, ◌++◌, length, refl, sym, ap, ◌∙◌, subst, arith}
use Rattle.std.specs.Prelude.{◌==◌, ◌&&◌, ◌||◌, slice_get}
use Rattle.std.specs.List.{list_any}
use Rattle.std.proofs.lemmas.Bool.{and_parts}
use Rattle.std.proofs.lemmas.List.{append_assoc}
use Rattle.dcp_types.specs.Codes.{state_code}
use Rattle.dcp_types.specs.declared.states.State.{State}
use Rattle.dcp_types.specs.declared.states.State.TheVariants.{Alive, Configuration, Preparing, Configuring, Initializing, SendingI, Synchronizing, Computing, SendingD, Stopping}
use Rattle.pdu_layout.specs.declared.messages.Stc.{Stc}
use Rattle.slave_states.specs.Transitions.{next_on_turn}
use Rattle.slave_spec.specs.declared.words.Asked.{Asked}
use Rattle.slave_spec.specs.declared.words.Asked.TheVariants as words
use Rattle.slave_laws.specs.Model.Stages.{SlaveStage, entered_by, reached_by_turns, stage_entered, stage_changed, stage_told}
use Rattle.master_spec.specs.declared.requests.Request.{Request}
use Rattle.master_spec.specs.declared.requests.Request.TheVariants.{Change, Configure, AskState, AskError}
use Rattle.master_spec.specs.declared.requests.Answer.{Answer}
use Rattle.master_spec.specs.declared.requests.Answer.TheVariants.{Ack, Nack, StateAck, ErrorAck, LogAck}
use Rattle.pdu_layout.specs.declared.messages.Cfg.{Cfg}
use Rattle.master_spec.specs.declared.tasks.Task.{Task}
use Rattle.master_spec.specs.declared.tasks.Task.TheVariants as tasks
use Rattle.master_spec.specs.Tasks.{requests_of, is_by_list, is_by_end, target_of}
use Rattle.master_spec.specs.Conversation.{is_state}
use Rattle.master_spec.specs.Jobs.{Job, asked_by}
use Rattle.master_spec.specs.Requests.{Asking, Decision, is_main, is_state_question, is_acked_by, is_acked, acked}
use Rattle.master_spec.specs.Shown.{names_in, names_target, IsMissing}
use Rattle.master_log_laws.proofs.Phases.Now.{IsOf}
use Rattle.master_log_laws.proofs.Phases.Mains.{is_main_request, of_main, acked_yes, acked_no, IsMain, IsTried, AreMains, AreQuestions, Asks, by_list, by_one, job_asks}
use Rattle.master_log_laws.proofs.Phases.Counts.{names_it, is_question, code_is_question}
use Rattle.master_log_laws.proofs.Phases.Tags.{mains_name}
use Rattle.master_laws.proofs.PlanOrder.Hearing.{asked_for, asked_of, asked_is}
use Rattle.master_laws.proofs.PlanOrder.Requests.{is_setting, kind_at, AllAsk}
use Rattle.completeness_laws.proofs.Causes.Told.{named_code, stage_with, stage_of}

-- ---- the tables
-- the state right after the acknowledged request of a task, or where there is a list of settings
abbrev pub entered_at : Task → State
entered_at (tasks.Register uuid) = Configuration
entered_at tasks.Setup = Configuration
entered_at tasks.Prepare = Preparing
entered_at tasks.Configure = Configuring
entered_at tasks.Initialize = Initializing
entered_at (tasks.FirstOutputs row) = SendingI
entered_at tasks.Run = Synchronizing
entered_at (tasks.Step k) = Computing
entered_at (tasks.Outputs k row) = SendingD
entered_at tasks.Stop = Stopping
entered_at tasks.Reset = Configuration
entered_at tasks.Adjust = Configuration
entered_at tasks.Deregister = Alive

pub reaches : (task : Task) → is_by_end task ≡ false → target_of task ≡ Some (reached_by_turns (entered_at task))
unfolding next_on_turn
reaches (tasks.Register uuid) e = refl
reaches tasks.Setup e = refl
reaches tasks.Prepare e = refl
reaches tasks.Configure e = refl
reaches tasks.Initialize e = refl
reaches (tasks.FirstOutputs row) e = refl
reaches tasks.Run e = refl
reaches (tasks.Step k) e = refl
reaches (tasks.Outputs k row) e = refl
reaches tasks.Stop e = refl
reaches tasks.Reset e = refl
reaches tasks.Adjust e = refl
reaches tasks.Deregister e = absurd cc

one_enters : (s : State) (b : Stc) (t : State) (state : State) (body : Stc) → Change s b ∷ [] ≡ Change state body ∷ [] → entered_by b s ≡ Some t → entered_by body state ≡ Some t
one_enters s b t state body e h =
    let x : s ≡ state = cc in
    let y : b ≡ body = cc in
    ap (λ (z : Stc). entered_by z state) (sym y) ∙ ap (entered_by b) (sym x) ∙ h

enters : (task : Task) (list : List Cfg) (state : State) (body : Stc) → requests_of task list ≡ Change state body ∷ [] → is_by_list task ≡ false → entered_by body state ≡ Some (entered_at task)
enters (tasks.Register uuid) list state body e l = one_enters _ _ _ state body e refl
enters tasks.Setup list state body e l = absurd cc
enters tasks.Prepare list state body e l = one_enters _ _ _ state body e refl
enters tasks.Configure list state body e l = one_enters _ _ _ state body e refl
enters tasks.Initialize list state body e l = one_enters _ _ _ state body e refl
enters (tasks.FirstOutputs row) list state body e l = one_enters _ _ _ state body e refl
enters tasks.Run list state body e l = one_enters _ _ _ state body e refl
enters (tasks.Step k) list state body e l = one_enters _ _ _ state body e refl
enters (tasks.Outputs k row) list state body e l = one_enters _ _ _ state body e refl
enters tasks.Stop list state body e l = one_enters _ _ _ state body e refl
enters tasks.Reset list state body e l = one_enters _ _ _ state body e refl
enters tasks.Adjust list state body e l = absurd cc
enters tasks.Deregister list state body e l = one_enters _ _ _ state body e refl

-- ---- a question changes nothing but that it may tell where the slave is
abbrev pub IsKept : SlaveStage → SlaveStage → Type 0
IsKept h g = (h.entered ≡ g.entered) × (g.rested ≡ true → h.rested ≡ true)

told_kept : (o : Option ℕ) (g : SlaveStage) → IsKept (stage_told o g) g
told_kept None g = (refl, λ z. z)
told_kept (Some code) g = by (code == state_code (reached_by_turns g.entered))
  where
    by : (b : Bool) → IsKept (if b then record { entered = g.entered; rested = true } else g) g
    by true = (refl, λ z. refl)
    by false = (refl, λ z. z)

told_rests : (code : ℕ) (g : SlaveStage) → (code == state_code (reached_by_turns g.entered)) ≡ true → (stage_told (Some code) g).rested ≡ true
told_rests code g e = by (code == state_code (reached_by_turns g.entered)) e
  where
    by : (b : Bool) → b ≡ true → (if b then record { entered = g.entered; rested = true } else g).rested ≡ true
    by true e = refl
    by false e = absurd cc

question_kept : (r : Request) (o : Option Decision) (g : SlaveStage) → is_main_request r ≡ false → IsKept (stage_with (Some (asked_for r)) o g) g
question_kept (Change state body) o g m = absurd cc
question_kept (Configure body) o g m = absurd cc
question_kept AskState None g m = (refl, λ z. z)
question_kept AskState (Some d) g m = told_kept (named_code d.answer) g
question_kept AskError None g m = (refl, λ z. z)
question_kept AskError (Some d) g m = (refl, λ z. z)

one_kept : (id : ℕ) (r : Request) (b : Asking) (g : SlaveStage) → IsOf r b → is_main b ≡ false → IsKept (stage_with (asked_of id b) b.decision g) g
one_kept id r b g o m =
    let P : Option Asked → Type 0 = λ z. IsKept (stage_with z b.decision g) g in
    subst P (sym (asked_is id r b o)) (question_kept r b.decision g (sym (of_main r b o) ∙ m))

pub questions_keep : (id : ℕ) (job : Job) (qs cs : List Asking) → AllAsk job qs → AreQuestions qs → IsKept (stage_of id (qs ++ cs)) (stage_of id cs)
questions_keep id job [] cs a q = (refl, λ z. z)
questions_keep id job (b ∷ qs) cs a q =
    let x = one_kept id (a.0).0 b (stage_of id (qs ++ cs)) ((a.0).1).0 q.0 in
    let y = questions_keep id job qs cs a.1 q.1 in
    (x.0 ∙ y.0, λ z. x.1 (y.1 z))

-- once the target is named it is known to rest
target_rests : (task : Task) (r : Request) (o : Option Decision) (g : SlaveStage) → is_question r ≡ true → names_target task o ≡ true → target_of task ≡ Some (reached_by_turns g.entered) → (stage_with (Some (asked_for r)) o g).rested ≡ true
target_rests task (Change state body) o g q h e = absurd cc
target_rests task (Configure body) o g q h e = absurd cc
target_rests task AskError o g q h e = absurd cc
target_rests task AskState None g q h e = absurd cc
target_rests task AskState (Some d) g q h e = by d.answer h
  where
    by : (a : Answer) → names_in task a ≡ true → (stage_told (named_code a) g).rested ≡ true
    by (StateAck s) h = told_rests s g (ap (λ (t : Option State). is_state t s) (sym e) ∙ h)
    by Ack h = absurd cc
    by (Nack code) h = absurd cc
    by (ErrorAck code) h = absurd cc
    by LogAck h = absurd cc

pub named_rests : (id : ℕ) (job : Job) (task : Task) (qs cs : List Asking) → AllAsk job qs → AreQuestions qs → target_of task ≡ Some (reached_by_turns (stage_of id cs).entered) → list_any (names_it task) qs ≡ true → (stage_of id (qs ++ cs)).rested ≡ true
named_rests id job task [] cs a q t h = absurd cc
named_rests id job task (b ∷ qs) cs a q t h = by (names_it task b) refl h (λ z. named_rests id job task qs cs a.1 q.1 t z)
  where
    r : Request
    r = (a.0).0

    of : IsOf r b
    of = ((a.0).1).0

    g : SlaveStage
    g = stage_of id (qs ++ cs)

    same : target_of task ≡ Some (reached_by_turns g.entered)
    same = t ∙ ap (λ (s : State). Some (reached_by_turns s)) (sym (questions_keep id job qs cs a.1 q.1).0)

    by : (x : Bool) → names_it task b ≡ x → (x || list_any (names_it task) qs) ≡ true → (list_any (names_it task) qs ≡ true → g.rested ≡ true) → (stage_with (asked_of id b) b.decision g).rested ≡ true
    by true e k f =
        let p = and_parts (is_state_question b) (names_target task b.decision) e in
        let asks : is_question r ≡ true = sym (code_is_question r) ∙ sym (ap (λ (n : ℕ). n == 128) of.0) ∙ p.0 in
        let P : Option Asked → Type 0 = λ z. (stage_with z b.decision g).rested ≡ true in
        subst P (sym (asked_is id r b of)) (target_rests task r b.decision g asks p.1 same)
    by false e k f = (one_kept id r b g of q.0).1 (f k)

-- ---- main requests
main_same : (r : Request) (o : Option Decision) (g : SlaveStage) → is_main_request r ≡ true → is_acked_by o ≡ false → stage_with (Some (asked_for r)) o g ≡ g
main_same (Change state body) None g m h = refl
main_same (Change state body) (Some d) g m h = ap (λ (t : Bool). stage_changed body state t g) h
main_same (Configure body) None g m h = refl
main_same (Configure body) (Some d) g m h = refl
main_same AskState o g m h = absurd cc
main_same AskError o g m h = absurd cc

setting_same : (r : Request) (o : Option Decision) (g : SlaveStage) → is_setting r ≡ true → stage_with (Some (asked_for r)) o g ≡ g
setting_same (Configure body) None g m = refl
setting_same (Configure body) (Some d) g m = refl
setting_same (Change state body) o g m = absurd cc
setting_same AskState o g m = absurd cc
setting_same AskError o g m = absurd cc

change_acked : (state : State) (body : Stc) (o : Option Decision) (g : SlaveStage) → is_acked_by o ≡ true → stage_with (Some (words.Change state body)) o g ≡ stage_entered (entered_by body state) g
change_acked state body None g h = absurd cc
change_acked state body (Some d) g h = ap (λ (t : Bool). stage_changed body state t g) h

not_acked : (b : Asking) → IsMissing b → is_acked b ≡ false
not_acked b k = ap is_acked_by k.2

and_off : (x y : Bool) → y ≡ false → (x && y) ≡ false
and_off true y e = e
and_off false y e = refl

none_acked : acked [] ≡ 0
none_acked = refl

slot_one : (q r : Request) (n : ℕ) → slice_get (q ∷ []) n ≡ Some r → (n ≡ 0) × (q ≡ r)
slot_one q r zero e = let z : q ≡ r = cc in (refl, z)
slot_one q r (suc n) e = absurd cc

-- none is acknowledged
pub mains_none : (id : ℕ) (job : Job) (ms cs : List Asking) → AreMains job ms → acked ms ≡ 0 → stage_of id (ms ++ cs) ≡ stage_of id cs
mains_none id job [] cs m z = refl
mains_none id job (b ∷ ms) cs m z = by (m.1).0 (λ w. mains_none id job ms cs (m.1).1 w)
  where
    k : IsMain job b (acked ms)
    k = m.0

    by : IsTried b → (acked ms ≡ 0 → stage_of id (ms ++ cs) ≡ stage_of id cs) → stage_of id ((b ∷ ms) ++ cs) ≡ stage_of id cs
    by (inl h) f = let e = acked_yes b ms (of_main k.request b k.of ∙ k.main) h in absurd (omega (arith, e, z))
    by (inr h) f =
        let n = not_acked b h.0 in
        let e = acked_no b ms (and_off (is_main b) (is_acked b) n) in
        ap (λ (o : Option Asked). stage_with o b.decision (stage_of id (ms ++ cs))) (asked_is id k.request b k.of)
        ∙ main_same k.request b.decision (stage_of id (ms ++ cs)) k.main n
        ∙ f (omega (arith, e, z))

-- all are settings
pub mains_list : (id : ℕ) (job : Job) (ms cs : List Asking) → AreMains job ms → is_by_list job.task ≡ true → stage_of id (ms ++ cs) ≡ stage_of id cs
mains_list id job [] cs m l = refl
mains_list id job (b ∷ ms) cs m l =
    let k : IsMain job b (acked ms) = m.0 in
    ap (λ (o : Option Asked). stage_with o b.decision (stage_of id (ms ++ cs))) (asked_is id k.request b k.of)
    ∙ setting_same k.request b.decision (stage_of id (ms ++ cs)) ((kind_at job (acked ms) k.request k.slot).setting ∙ l)
    ∙ mains_list id job ms cs (m.1).1 l

-- the one request is acknowledged
pub mains_enter : (id : ℕ) (job : Job) (ms cs : List Asking) → AreMains job ms → is_by_list job.task ≡ false → acked ms ≡ 1 → stage_of id (ms ++ cs) ≡ record { entered = entered_at job.task; rested = false }
mains_enter id job [] cs m l z = let y = none_acked in absurd (omega (arith, y, z))
mains_enter id job (b ∷ ms) cs m l z = by (job_asks job)
  where
    k : IsMain job b (acked ms)
    k = m.0

    g : SlaveStage
    g = stage_of id (ms ++ cs)

    clash : false ≡ true → ⊥
    clash e = cc

    by : Asks job → stage_of id ((b ∷ ms) ++ cs) ≡ record { entered = entered_at job.task; rested = false }
    by (by_list n a) = absurd (clash (sym l ∙ n))
    by (by_one state body n a) = two (m.1).0
      where
        slot : (acked ms ≡ 0) × (Change state body ≡ k.request)
        slot = slot_one (Change state body) k.request (acked ms) (ap (λ (rs : List Request). slice_get rs (acked ms)) (sym a) ∙ k.slot)

        two : IsTried b → stage_of id ((b ∷ ms) ++ cs) ≡ record { entered = entered_at job.task; rested = false }
        two (inl h) =
            ap (λ (o : Option Asked). stage_with o b.decision g) (asked_is id k.request b k.of ∙ ap (λ (q : Request). Some (asked_for q)) (sym slot.1))
            ∙ change_acked state body b.decision g h
            ∙ ap (λ (o : Option State). stage_entered o g) (enters job.task job.list state body a l)
        two (inr h) =
            let e = acked_no b ms (and_off (is_main b) (is_acked b) (not_acked b h.0)) in
            let s = slot.0 in
            absurd (omega (arith, e, s, z))

-- ---- a whole phase
-- a list of settings comes to a slave that rests in its configuration
abbrev pub ComesTo : Job → SlaveStage → Type 0
ComesTo job g = is_by_list job.task ≡ true → (g.entered ≡ Configuration) × (g.rested ≡ true)

pub record IsFull (job : Job) (named : Bool) (g : SlaveStage) : Type 0 where
  pub entered : g.entered ≡ entered_at job.task
  pub rested : is_by_end job.task ≡ false → named ≡ true → g.rested ≡ true
  pub set : is_by_list job.task ≡ true → g.rested ≡ true

pub ask_left : (job : Job) (qs ms : List Asking) → AllAsk job (qs ++ ms) → AllAsk job qs
ask_left job [] ms a = tt
ask_left job (q ∷ qs) ms a = (a.0, ask_left job qs ms a.1)

any_left : (task : Task) (qs ms : List Asking) → list_any (names_it task) ms ≡ false → list_any (names_it task) (qs ++ ms) ≡ list_any (names_it task) qs
any_left task [] ms h = h
any_left task (q ∷ qs) ms h = ap (λ (b : Bool). names_it task q || b) (any_left task qs ms h)

list_entered : (task : Task) → is_by_list task ≡ true → entered_at task ≡ Configuration
list_entered tasks.Setup l = refl
list_entered tasks.Adjust l = refl
list_entered (tasks.Register uuid) l = refl
list_entered tasks.Reset l = refl
list_entered tasks.Prepare l = absurd cc
list_entered tasks.Configure l = absurd cc
list_entered tasks.Initialize l = absurd cc
list_entered (tasks.FirstOutputs row) l = absurd cc
list_entered tasks.Run l = absurd cc
list_entered (tasks.Step k) l = absurd cc
list_entered (tasks.Outputs k row) l = absurd cc
list_entered tasks.Stop l = absurd cc
list_entered tasks.Deregister l = absurd cc

pub full : (id : ℕ) (job : Job) (qs ms bs : List Asking) → AllAsk job qs → AreQuestions qs → AreMains job ms → acked ms ≡ length (asked_by job) → ComesTo job (stage_of id bs) → IsFull job (list_any (names_it job.task) (qs ++ ms)) (stage_of id ((qs ++ ms) ++ bs))
full id job qs ms bs a q m z c =
    let P : List Asking → Type 0 = λ ys. IsFull job (list_any (names_it job.task) (qs ++ ms)) (stage_of id ys) in
    subst P (sym (append_assoc qs ms bs)) (by (is_by_list job.task) refl)
  where
    kept : IsKept (stage_of id (qs ++ (ms ++ bs))) (stage_of id (ms ++ bs))
    kept = questions_keep id job qs (ms ++ bs) a q

    names_same : list_any (names_it job.task) (qs ++ ms) ≡ list_any (names_it job.task) qs
    names_same = any_left job.task qs ms (mains_name job job.task ms m)

    one_long : is_by_list job.task ≡ false → length (asked_by job) ≡ 1
    one_long l = two (job_asks job)
      where
        two : Asks job → length (asked_by job) ≡ 1
        two (by_list n e) = let x : false ≡ true = sym l ∙ n in absurd cc
        two (by_one state body n e) = ap length e

    by : (b : Bool) → is_by_list job.task ≡ b → IsFull job (list_any (names_it job.task) (qs ++ ms)) (stage_of id (qs ++ (ms ++ bs)))
    by true l =
        let s = mains_list id job ms bs m l in
        let k = c l in
        let r : (stage_of id (qs ++ (ms ++ bs))).rested ≡ true = kept.1 (ap (λ (g : SlaveStage). g.rested) s ∙ k.1) in
        record { entered = kept.0 ∙ ap (λ (g : SlaveStage). g.entered) s ∙ k.0 ∙ sym (list_entered job.task l); rested = λ e n. r; set = λ e. r }
    by false l =
        let s = mains_enter id job ms bs m l (z ∙ one_long l) in
        let e : (stage_of id (ms ++ bs)).entered ≡ entered_at job.task = ap (λ (g : SlaveStage). g.entered) s in
        record {
          entered = kept.0 ∙ e;
          rested = λ d n. named_rests id job job.task qs (ms ++ bs) a q (reaches job.task d ∙ ap (λ (t : State). Some (reached_by_turns t)) (sym e)) (sym names_same ∙ n);
          set = λ n. (let x : false ≡ true = sym l ∙ n in absurd cc);
        }
