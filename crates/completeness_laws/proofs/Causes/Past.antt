-- Where a phase begins the slave rests where the phase before has led it.
use Rattle.std.proofs.Common.{◌≡◌, ℕ, ◌+◌, Bool, true, false, ◌⊎◌, inl, inr, Some, None, List, [], ◌∷◌, ◌++◌, length, refl, sym, ap, ◌∙◌, subst, arith}
use Rattle.std.specs.Prelude.{slice_get}
use Rattle.std.specs.List.{list_any}
use Rattle.dcp_types.specs.declared.limits.Limits.{Limits}
use Rattle.dcp_types.specs.declared.states.State.TheVariants.{Configuration}
use Rattle.slave_laws.specs.Model.Stages.{SlaveStage, stage_by}
use Rattle.master_spec.specs.declared.causes.Verdict.TheVariants as verdicts
use Rattle.master_spec.specs.declared.setups.Script.{Script}
use Rattle.master_spec.specs.declared.tasks.Task.{Task}
use Rattle.master_spec.specs.declared.tasks.Task.TheVariants as tasks
use Rattle.master_spec.specs.Tasks.{is_by_list, is_by_end, target_of}
use Rattle.master_spec.specs.Jobs.{Job, asked_by, jobs}
use Rattle.master_spec.specs.Marks.{Mark, Begun, Asked, Again, Answered, Hinted, Brought, Turned, Ended, count, is_begun, open_in, open_request, job_of, verdict_of, is_passed}
use Rattle.master_spec.specs.Requests.{Asking, acked}
use Rattle.master_log_laws.specs.Asking.Legal.{Rests, IsLegal, AreLegal}
use Rattle.master_log_laws.specs.Index.Index.{Placed, marks_of, askings_told}
use Rattle.master_log_laws.proofs.Phases.Now.{now, past, past_by, split}
use Rattle.master_log_laws.proofs.Phases.Mains.{AreMains, AreQuestions}
use Rattle.master_log_laws.proofs.Phases.Counts.{names_it, reached_now}
use Rattle.master_log_laws.proofs.Phases.Stage.{Stage, idling, main_open, question_open, trying, mains_done, state_told, mains_acked, more_questions}
use Rattle.master_log_laws.proofs.Phases.Stages.{stage}
use Rattle.master_log_laws.proofs.Phases.Tags.{none_asked, HasPassed, verdict_passed, passed_reached, tried_not_passed, job_phase, counted}
use Rattle.master_log_laws.proofs.Failures.Steady.{steady}
use Rattle.master_laws.proofs.PlanOrder.Requests.{AllAsk, all_ask}
use Rattle.completeness_laws.proofs.Causes.Told.{stage_of}
use Rattle.completeness_laws.proofs.Causes.Homes.{entered_at, ComesTo, IsFull, ask_left, full}

-- it has passed a task
abbrev pub HasPassedTask : Task → SlaveStage → Type 0
HasPassedTask task g = (g.entered ≡ entered_at task) × (is_by_end task ≡ false → g.rested ≡ true)

pub record IsAfterJob (js : List Job) (p : ℕ) (g : SlaveStage) : Type 0 where
  pub before : ℕ
  pub job : Job
  pub next : p ≡ before + 1
  pub job_at : slice_get js before ≡ Some job
  pub passed : HasPassedTask job.task g

abbrev pub StandsAt : List Job → ℕ → SlaveStage → Type 0
StandsAt js p g = ((p ≡ 0) × (g ≡ stage_by [])) ⊎ IsAfterJob js p g

-- ---- a phase that has passed
record Whole (job : Job) (bs : List Asking) : Type 0 where
  pub qs : List Asking
  pub ms : List Asking
  pub is : bs ≡ qs ++ ms
  pub questions : AreQuestions qs
  pub mains : AreMains job ms
  pub long : acked ms ≡ length (asked_by job)

whole_at : (limits : Limits) (js : List Job) (job : Job) (xs : List Placed) → AreLegal limits js (marks_of xs) → Stage job (marks_of xs) (now xs) → is_passed job (marks_of xs) ≡ true → open_request (marks_of xs) ≡ None → Whole job (now xs)
whole_at limits js job xs l (idling q e a) p o = record { qs = []; ms = []; is = e; questions = tt; mains = tt; long = sym (ap length a) }
whole_at limits js job xs l (main_open r q k) p o = let z : Some r ≡ None = ap open_in (sym q) ∙ o in absurd cc
whole_at limits js job xs l (question_open r q k) p o = let z : Some r ≡ None = ap open_in (sym q) ∙ o in absurd cc
whole_at limits js job xs l (trying r code q h k) p o = absurd (tried_not_passed limits js job xs r code l h k p)
whole_at limits js job xs l (mains_done r q k w) p o = record { qs = []; ms = now xs; is = refl; questions = tt; mains = (mains_acked job r (now xs) k).0; long = w }
whole_at limits js job xs l (state_told s q k h) p o = record { qs = k.newest ∷ k.qs; ms = k.ms; is = k.is; questions = more_questions job _ _ (now xs) k; mains = k.mains; long = k.whole }

clash : true ≡ false → ⊥
clash e = cc

pub passes : (limits : Limits) (js : List Job) (id : ℕ) (xs : List Placed) → AreLegal limits js (marks_of xs) → Rests limits (marks_of xs) → open_request (marks_of xs) ≡ None → (h : HasPassed (marks_of xs)) → ComesTo h.job (stage_of id (askings_told (past xs))) → HasPassedTask h.job.task (stage_of id (askings_told xs))
passes limits js id xs l r o h c =
    let P : List Asking → Type 0 = λ ys. HasPassedTask h.job.task (stage_of id ys) in
    subst P (sym (split limits js xs l)) (g.entered, rested)
  where
    job : Job
    job = h.job

    w : Whole job (now xs)
    w = whole_at limits js job xs l (stage limits js xs l r h.cause_is job h.job_is) h.passed o

    asks_left : AllAsk job w.qs
    asks_left = let P : List Asking → Type 0 = AllAsk job in ask_left job w.qs w.ms (subst P w.is (all_ask limits js xs l job h.job_is))

    g : IsFull job (list_any (names_it job.task) (now xs)) (stage_of id (now xs ++ askings_told (past xs)))
    g =
        let P : List Asking → Type 0 = λ ys. IsFull job (list_any (names_it job.task) ys) (stage_of id (ys ++ askings_told (past xs))) in
        subst P (sym w.is) (full id job w.qs w.ms (askings_told (past xs)) asks_left w.questions w.mains w.long c)

    rested : is_by_end job.task ≡ false → (stage_of id (now xs ++ askings_told (past xs))).rested ≡ true
    rested e = by (is_by_list job.task) refl
      where
        by : (b : Bool) → is_by_list job.task ≡ b → (stage_of id (now xs ++ askings_told (past xs))).rested ≡ true
        by true a = g.set a
        by false a = g.rested e (sym (reached_now job.task limits js xs l) ∙ passed_reached job (marks_of xs) a e h.passed)

-- ---- a list follows a registration or a reset
before_list : (t u : Task) → is_by_list u ≡ true → target_of t ≡ target_of u → is_by_list t ≡ false → (entered_at t ≡ Configuration) × (is_by_end t ≡ false)
before_list t u l e n = two t (e ∙ list_target u l) n
  where
    list_target : (u : Task) → is_by_list u ≡ true → target_of u ≡ Some Configuration
    list_target tasks.Setup l = refl
    list_target tasks.Adjust l = refl
    list_target (tasks.Register uuid) l = absurd cc
    list_target tasks.Prepare l = absurd cc
    list_target tasks.Configure l = absurd cc
    list_target tasks.Initialize l = absurd cc
    list_target (tasks.FirstOutputs row) l = absurd cc
    list_target tasks.Run l = absurd cc
    list_target (tasks.Step k) l = absurd cc
    list_target (tasks.Outputs k row) l = absurd cc
    list_target tasks.Stop l = absurd cc
    list_target tasks.Reset l = absurd cc
    list_target tasks.Deregister l = absurd cc

    two : (t : Task) → target_of t ≡ Some Configuration → is_by_list t ≡ false → (entered_at t ≡ Configuration) × (is_by_end t ≡ false)
    two (tasks.Register uuid) e n = (refl, refl)
    two tasks.Reset e n = (refl, refl)
    two tasks.Setup e n = absurd cc
    two tasks.Adjust e n = absurd cc
    two tasks.Prepare e n = absurd cc
    two tasks.Configure e n = absurd cc
    two tasks.Initialize e n = absurd cc
    two (tasks.FirstOutputs row) e n = absurd cc
    two tasks.Run e n = absurd cc
    two (tasks.Step k) e n = absurd cc
    two (tasks.Outputs k row) e n = absurd cc
    two tasks.Stop e n = absurd cc
    two tasks.Deregister e n = absurd cc

module _ (steps runs : ℕ) (script : Script) where
  abbrev js : List Job
  js = jobs steps runs script

  first_plain : (p : ℕ) (job : Job) → p ≡ 0 → slice_get js p ≡ Some job → is_by_list job.task ≡ true → ⊥
  first_plain p job z e l =
      let P : ℕ → Type 0 = λ q. slice_get js q ≡ Some job in
      let f : slice_get js 0 ≡ Some job = subst P z e in
      let s : record { task = tasks.Register script.uuid; list = [] } ≡ job = cc in
      clash (sym l ∙ ap (λ (j : Job). is_by_list j.task) (sym s))

  pub comes_to : (p : ℕ) (job : Job) (g : SlaveStage) → slice_get js p ≡ Some job → StandsAt js p g → ComesTo job g
  comes_to p job g e (inl k) l = absurd (first_plain p job k.0 e l)
  comes_to p job g e (inr k) l =
      let n = steady steps runs script k.before k.job job k.job_at (ap (slice_get js) (sym k.next) ∙ e) l in
      let t = before_list k.job.task job.task l n.0 n.1 in
      (k.passed.0 ∙ t.0, k.passed.1 t.1)

  -- ---- phase by phase
  pub stands_past : (limits : Limits) (id : ℕ) (xs : List Placed) → AreLegal limits js (marks_of xs) → (p : ℕ) → count is_begun (marks_of xs) ≡ p + 1 → StandsAt js p (stage_of id (askings_told (past xs)))
  stands_past limits id [] l p c = absurd (omega (arith, c))
  stands_past limits id (x ∷ xs) l p c = by x.mark l.0 c (λ p c. stands_past limits id xs l.1 p c)
    where
      from_none : (p : ℕ) → count is_begun (marks_of xs) ≡ p → job_of (marks_of xs) ≡ None → StandsAt js p (stage_of id (askings_told xs))
      from_none p c e = let z = none_asked limits js xs l.1 e in inl (sym c ∙ z.1, ap (stage_of id) z.0)

      from_passed : (p : ℕ) → count is_begun (marks_of xs) ≡ p → Rests limits (marks_of xs) → open_request (marks_of xs) ≡ None → HasPassed (marks_of xs) → ((q : ℕ) → count is_begun (marks_of xs) ≡ q + 1 → StandsAt js q (stage_of id (askings_told (past xs)))) → StandsAt js p (stage_of id (askings_told xs))
      from_passed p c r o h f =
          let q = counted (marks_of xs) h.job h.job_is in
          let here = job_phase limits js (marks_of xs) l.1 h.job h.job_is q.0 q.1 in
          let to = comes_to q.0 h.job (stage_of id (askings_told (past xs))) here (f q.0 q.1) in
          inr (record { before = q.0; job = h.job; next = sym c ∙ q.1; job_at = here; passed = passes limits js id xs l.1 r o h to })

      by : (m : Mark) → IsLegal limits js m (marks_of xs) → count is_begun (m ∷ marks_of xs) ≡ p + 1 → ((q : ℕ) → count is_begun (marks_of xs) ≡ q + 1 → StandsAt js q (stage_of id (askings_told (past xs)))) → StandsAt js p (stage_of id (askings_told (past_by m xs (past xs))))
      by (Begun j) k c f = begun (omega (arith, c)) (k.1).passed
        where
          begun : count is_begun (marks_of xs) ≡ p → (job_of (marks_of xs) ≡ None) ⊎ (verdict_of (marks_of xs) ≡ verdicts.Passed) → StandsAt js p (stage_of id (askings_told xs))
          begun c (inl e) = from_none p c e
          begun c (inr v) = from_passed p c k.0 (k.1).free (verdict_passed (marks_of xs) v) f
      by (Asked r) k c f = f p c
      by Again k c f = f p c
      by (Answered r a) k c f = f p c
      by Hinted k c f = f p c
      by (Brought n q) k c f = f p c
      by (Turned t) k c f = f p c
      by (Ended cause) k c f = f p c
