-- Where a phase begins the slave stands as the plan has it after the jobs before.
use Rattle.std.proofs.Common.{◌≡◌, ℕ, suc, ◌+◌, true, false, ◌⊎◌, inl, inr, Some, None, List, [], ◌∷◌, ◌++◌, map, take, length, reverse, refl, sym, ap, ◌∙◌, subst, arith}
use Rattle.std.specs.List.{list_any}
use Rattle.std.proofs.lemmas.List.{append_assoc}
use Rattle.dcp_types.specs.declared.limits.Limits.{Limits}
use Rattle.pdu_layout.specs.declared.messages.Cfg.{Cfg}
use Rattle.master_spec.specs.declared.causes.Verdict.TheVariants as verdicts
use Rattle.master_spec.specs.declared.requests.Request.TheVariants.{Configure}
use Rattle.master_spec.specs.declared.tasks.Task.{Task}
use Rattle.master_spec.specs.declared.tasks.Task.TheVariants as tasks
use Rattle.master_spec.specs.Tasks.{is_by_list, is_by_end, target_of}
use Rattle.master_spec.specs.Conversation.{is_state}
use Rattle.master_spec.specs.Jobs.{Job, asked_by}
use Rattle.master_spec.specs.Marks.{Mark, Begun, Asked, Again, Answered, Hinted, Brought, Turned, Ended, count, is_begun, open_in, open_request, job_of, verdict_of, is_passed}
use Rattle.master_spec.specs.Requests.{Asking, acked}
use Rattle.master_log_laws.specs.Asking.Legal.{Rests, IsLegal, AreLegal}
use Rattle.master_log_laws.specs.Index.Index.{Placed, marks_of, askings_told}
use Rattle.master_log_laws.proofs.Phases.Now.{now, past, past_by, split}
use Rattle.master_log_laws.proofs.Phases.Mains.{AreMains, AreQuestions, length_map}
use Rattle.master_log_laws.proofs.Phases.Counts.{names_it, reached_now}
use Rattle.master_log_laws.proofs.Phases.Stage.{Stage, idling, main_open, question_open, trying, mains_done, state_told, mains_acked, more_questions}
use Rattle.master_log_laws.proofs.Phases.Stages.{stage}
use Rattle.master_log_laws.proofs.Phases.Tags.{none_asked, HasPassed, verdict_passed, passed_reached, tried_not_passed, passed_done, job_phase, counted}
use Rattle.master_laws.proofs.PlanOrder.Taken.{settings_by, resets_by, ready_by, events_by}
use Rattle.master_laws.proofs.PlanOrder.Requests.{resets_slave, is_row_task, AllAsk, all_ask, TellsHome, rests_home}
use Rattle.master_laws.proofs.PlanOrder.Effects.{settings_same, resets_same, events_same, events_more, resets_more, ready_same, ready_named, ready_ends, settings_mains, settings_questions}
use Rattle.master_laws.proofs.PlanOrder.Standing.{Standing, at_first, with_list, with_event, after_job, standing, standing_next}

-- the requests tell that the slave stands so
pub record Agrees (id : ℕ) (bs : List Asking) (s : Standing) : Type 0 where
  pub settings : settings_by id bs ≡ s.settings
  pub resets : resets_by id bs ≡ s.resets
  pub events : events_by bs ≡ s.events
  pub ready : ready_by id bs ≡ s.ready

-- ---- a phase that has passed
-- all its requests are acknowledged, and the questions are newer
record Whole (job : Job) (bs : List Asking) : Type 0 where
  pub qs : List Asking
  pub ms : List Asking
  pub is : bs ≡ qs ++ ms
  pub questions : AreQuestions qs
  pub mains : AreMains job ms
  pub full : acked ms ≡ length (asked_by job)

record Passed (job : Job) (ys : List Asking) : Type 0 where
  pub ask : AllAsk job ys
  pub home : TellsHome job ys
  pub full : acked ys ≡ length (asked_by job)
  pub whole : Whole job ys
  pub named : is_by_list job.task ≡ false → is_by_end job.task ≡ false → list_any (names_it job.task) ys ≡ true

whole_at : (limits : Limits) (js : List Job) (job : Job) (xs : List Placed) → AreLegal limits js (marks_of xs) → Stage job (marks_of xs) (now xs) → is_passed job (marks_of xs) ≡ true → open_request (marks_of xs) ≡ None → Whole job (now xs)
whole_at limits js job xs l (idling q e a) p o = record { qs = []; ms = []; is = e; questions = tt; mains = tt; full = sym (ap length a) }
whole_at limits js job xs l (main_open r q k) p o = let z : Some r ≡ None = ap open_in (sym q) ∙ o in absurd cc
whole_at limits js job xs l (question_open r q k) p o = let z : Some r ≡ None = ap open_in (sym q) ∙ o in absurd cc
whole_at limits js job xs l (trying r code q h k) p o = absurd (tried_not_passed limits js job xs r code l h k p)
whole_at limits js job xs l (mains_done r q k w) p o = record { qs = []; ms = now xs; is = refl; questions = tt; mains = (mains_acked job r (now xs) k).0; full = w }
whole_at limits js job xs l (state_told s q k h) p o = record { qs = k.newest ∷ k.qs; ms = k.ms; is = k.is; questions = more_questions job _ _ (now xs) k; mains = k.mains; full = k.whole }

passed_at : (limits : Limits) (js : List Job) (xs : List Placed) → AreLegal limits js (marks_of xs) → Rests limits (marks_of xs) → open_request (marks_of xs) ≡ None → (h : HasPassed (marks_of xs)) → Passed h.job (now xs)
passed_at limits js xs l r o h =
    let s = stage limits js xs l r h.cause_is h.job h.job_is in
    record {
      ask = all_ask limits js xs l h.job h.job_is;
      home = rests_home limits js xs l r h.cause_is h.job h.job_is;
      full = passed_done limits js h.job xs l s h.passed o;
      whole = whole_at limits js h.job xs l s h.passed o;
      named = λ a b. (sym (reached_now h.job.task limits js xs l) ∙ passed_reached h.job (marks_of xs) a b h.passed);
    }

-- ---- what it changes
module _ (id : ℕ) (job : Job) (ys bs : List Asking) (k : Passed job ys) (s : Standing) (g : Agrees id bs s) where
  plain : is_by_list job.task ≡ false → resets_slave job.task ≡ false → is_row_task job.task ≡ false → is_state (target_of job.task) 7 ≡ false → Agrees id (ys ++ bs) s
  plain a b c d = record {
    settings = settings_same id job ys bs k.ask a ∙ g.settings;
    resets = resets_same id job ys bs k.ask b ∙ g.resets;
    events = events_same job ys bs k.ask c ∙ g.events;
    ready = ready_same id job ys bs k.ask k.home b d ∙ g.ready;
  }

  event : is_by_list job.task ≡ false → resets_slave job.task ≡ false → is_row_task job.task ≡ true → is_state (target_of job.task) 7 ≡ false → length (asked_by job) ≡ 1 → Agrees id (ys ++ bs) (with_event s)
  event a b c d e =
      let m = events_more job ys bs k.ask c in
      let f = k.full in
      let h = g.events in
      record {
        settings = settings_same id job ys bs k.ask a ∙ g.settings;
        resets = resets_same id job ys bs k.ask b ∙ g.resets;
        events = omega (arith, m, f, h, e);
        ready = ready_same id job ys bs k.ask k.home b d ∙ g.ready;
      }

  reset : is_by_list job.task ≡ false → resets_slave job.task ≡ true → is_row_task job.task ≡ true → is_state (target_of job.task) 7 ≡ false → length (asked_by job) ≡ 1
      → Agrees id (ys ++ bs) (record { settings = s.settings; resets = s.resets + 1; events = s.events + 1; ready = false })
  reset a b c d e =
      let m = events_more job ys bs k.ask c in
      let n = resets_more id job ys bs k.ask b in
      let f = k.full in
      let h = g.events in
      let i = g.resets in
      record {
        settings = settings_same id job ys bs k.ask a ∙ g.settings;
        resets = omega (arith, n, f, i, e);
        events = omega (arith, m, f, h, e);
        ready = ready_ends id job ys bs k.ask k.home b d (omega (arith, f, e));
      }

  initialize : is_by_list job.task ≡ false → is_by_end job.task ≡ false → resets_slave job.task ≡ false → is_row_task job.task ≡ false → target_of job.task ≡ target_of tasks.Initialize
      → Agrees id (ys ++ bs) (record { settings = s.settings; resets = s.resets; events = s.events; ready = true })
  initialize a x b c d = record {
    settings = settings_same id job ys bs k.ask a ∙ g.settings;
    resets = resets_same id job ys bs k.ask b ∙ g.resets;
    events = events_same job ys bs k.ask c ∙ g.events;
    ready = ready_named id job ys bs k.ask b d (k.named a x);
  }

  ask_left : (qs ms : List Asking) → AllAsk job (qs ++ ms) → AllAsk job qs
  ask_left [] ms a = tt
  ask_left (q ∷ qs) ms a = (a.0, ask_left qs ms a.1)

  take_all : (list : List Cfg) → take (length list) list ≡ list
  take_all [] = refl
  take_all (b ∷ list) = ap (λ (l : List Cfg). b ∷ l) (take_all list)

  list_set : asked_by job ≡ map Configure job.list → settings_by id (ys ++ bs) ≡ reverse job.list ++ s.settings
  list_set e =
      let w = k.whole in
      let P : List Asking → Type 0 = λ z. AllAsk job z in
      let long : acked w.ms ≡ length job.list = w.full ∙ ap length e ∙ length_map job.list in
      ap (λ (z : List Asking). settings_by id (z ++ bs)) w.is
      ∙ ap (settings_by id) (append_assoc w.qs w.ms bs)
      ∙ settings_questions id job w.qs (w.ms ++ bs) (ask_left w.qs w.ms (subst P w.is k.ask)) w.questions
      ∙ settings_mains id job w.ms bs e w.mains
      ∙ ap (λ (n : ℕ). reverse (take n job.list) ++ settings_by id bs) long
      ∙ ap (λ (l : List Cfg). reverse l ++ settings_by id bs) (take_all job.list)
      ∙ ap (λ (l : List Cfg). reverse job.list ++ l) g.settings

  sets : asked_by job ≡ map Configure job.list → resets_slave job.task ≡ false → is_row_task job.task ≡ false → is_state (target_of job.task) 7 ≡ false → Agrees id (ys ++ bs) (with_list job.list s)
  sets e b c d = record {
    settings = list_set e;
    resets = resets_same id job ys bs k.ask b ∙ g.resets;
    events = events_same job ys bs k.ask c ∙ g.events;
    ready = ready_same id job ys bs k.ask k.home b d ∙ g.ready;
  }

passes : (id : ℕ) (task : Task) (list : List Cfg) (ys bs : List Asking) → Passed (record { task = task; list = list }) ys → (s : Standing) → Agrees id bs s → Agrees id (ys ++ bs) (after_job (record { task = task; list = list }) s)
passes id (tasks.Register uuid) list ys bs k s g = plain id _ ys bs k s g refl refl refl refl
passes id tasks.Setup list ys bs k s g = sets id _ ys bs k s g refl refl refl refl
passes id tasks.Prepare list ys bs k s g = plain id _ ys bs k s g refl refl refl refl
passes id tasks.Configure list ys bs k s g = plain id _ ys bs k s g refl refl refl refl
passes id tasks.Initialize list ys bs k s g = initialize id _ ys bs k s g refl refl refl refl refl
passes id (tasks.FirstOutputs row) list ys bs k s g = event id _ ys bs k s g refl refl refl refl refl
passes id tasks.Run list ys bs k s g = plain id _ ys bs k s g refl refl refl refl
passes id (tasks.Step n) list ys bs k s g = event id _ ys bs k s g refl refl refl refl refl
passes id (tasks.Outputs n row) list ys bs k s g = event id _ ys bs k s g refl refl refl refl refl
passes id tasks.Stop list ys bs k s g = plain id _ ys bs k s g refl refl refl refl
passes id tasks.Reset list ys bs k s g = reset id _ ys bs k s g refl refl refl refl refl
passes id tasks.Adjust list ys bs k s g = sets id _ ys bs k s g refl refl refl refl
passes id tasks.Deregister list ys bs k s g = plain id _ ys bs k s g refl refl refl refl

-- ---- phase by phase
pub agrees_past : (limits : Limits) (js : List Job) (id : ℕ) (xs : List Placed) → AreLegal limits js (marks_of xs) → (p : ℕ) → count is_begun (marks_of xs) ≡ p + 1 → Agrees id (askings_told (past xs)) (standing js p at_first)
agrees_past limits js id [] l p c = absurd (omega (arith, c))
agrees_past limits js id (x ∷ xs) l p c = by x.mark l.0 c (λ p c. agrees_past limits js id xs l.1 p c)
  where
    first : Agrees id [] at_first
    first = record { settings = refl; resets = refl; events = refl; ready = refl }

    from_none : (p : ℕ) → count is_begun (marks_of xs) ≡ p → job_of (marks_of xs) ≡ None → Agrees id (askings_told xs) (standing js p at_first)
    from_none p c e =
        let z = none_asked limits js xs l.1 e in
        let y : p ≡ 0 = sym c ∙ z.1 in
        let P : List Asking → Type 0 = λ bs. Agrees id bs (standing js p at_first) in
        let Q : ℕ → Type 0 = λ n. Agrees id [] (standing js n at_first) in
        subst P (sym z.0) (subst Q (sym y) first)

    from_passed : (p : ℕ) → count is_begun (marks_of xs) ≡ p → Rests limits (marks_of xs) → open_request (marks_of xs) ≡ None → HasPassed (marks_of xs) → ((q : ℕ) → count is_begun (marks_of xs) ≡ q + 1 → Agrees id (askings_told (past xs)) (standing js q at_first)) → Agrees id (askings_told xs) (standing js p at_first)
    from_passed p c r o h f =
        let q = counted (marks_of xs) h.job h.job_is in
        let e : p ≡ suc q.0 = let a = q.1 in omega (arith, a, c) in
        let g = passes id h.job.task h.job.list (now xs) (askings_told (past xs)) (passed_at limits js xs l.1 r o h) (standing js q.0 at_first) (f q.0 q.1) in
        let next = standing_next js q.0 at_first h.job (job_phase limits js (marks_of xs) l.1 h.job h.job_is q.0 q.1) in
        let P : List Asking → Type 0 = λ bs. Agrees id bs (standing js p at_first) in
        let Q : ℕ → Type 0 = λ n. Agrees id (now xs ++ askings_told (past xs)) (standing js n at_first) in
        let R : Standing → Type 0 = λ s. Agrees id (now xs ++ askings_told (past xs)) s in
        subst P (sym (split limits js xs l.1)) (subst Q (sym e) (subst R (sym next) g))

    by : (m : Mark) → IsLegal limits js m (marks_of xs) → count is_begun (m ∷ marks_of xs) ≡ p + 1 → ((q : ℕ) → count is_begun (marks_of xs) ≡ q + 1 → Agrees id (askings_told (past xs)) (standing js q at_first)) → Agrees id (askings_told (past_by m xs (past xs))) (standing js p at_first)
    by (Begun j) k c f = begun (omega (arith, c)) (k.1).passed
      where
        begun : count is_begun (marks_of xs) ≡ p → (job_of (marks_of xs) ≡ None) ⊎ (verdict_of (marks_of xs) ≡ verdicts.Passed) → Agrees id (askings_told xs) (standing js p at_first)
        begun c (inl e) = from_none p c e
        begun c (inr v) = from_passed p c k.0 (k.1).free (verdict_passed (marks_of xs) v) f
    by (Asked r) k c f = f p c
    by Again k c f = f p c
    by (Answered r a) k c f = f p c
    by Hinted k c f = f p c
    by (Brought n q) k c f = f p c
    by (Turned t) k c f = f p c
    by (Ended cause) k c f = f p c
