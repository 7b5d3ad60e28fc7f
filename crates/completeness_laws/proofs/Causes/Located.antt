-- Where a fault of the model came that is reported: in which run and at which step of it.
use Rattle.std.proofs.Common.{◌≡◌, ℕ, ◌+◌, ◌-◌, ◌*◌, ◌≤◌, Bool, true, false, if◌then◌else◌, ◌⊎◌, inl, inr, Some, None, List, [], ◌∷◌, ◌++◌, reverse, length, refl, sym, ap, ◌∙◌, subst, arith}
use Rattle.std.specs.Prelude.{◌==◌}
use Rattle.std.proofs.lemmas.List.{append_assoc}
use Rattle.std.proofs.lemmas.Bool.{eqb-true}
use Rattle.dcp_types.specs.declared.fault_codes.FaultCode.{FaultCode}
use Rattle.dcp_types.specs.declared.states.State.TheVariants.{Initializing, Computing}
use Rattle.dcp_ends.specs.declared.entries.LogEntry.{LogEntry}
use Rattle.scenario.specs.declared.scenarios.Scenario.{Scenario}
use Rattle.scenario.specs.Sound.{IsScenario}
use Rattle.slave_desc.specs.declared.descriptions.SlaveDesc.{SlaveDesc}
use Rattle.lockstep.specs.Lockstep.{IsMoment}
use Rattle.log_spec.specs.Log.{Parties, IsSlaveOf}
use Rattle.log_spec.specs.Log as logs
use Rattle.lockstep_laws.specs.Steps.{events_counted, view}
use Rattle.lockstep_laws.specs.Runs.{Behaves}
use Rattle.lockstep_laws.proofs.Conversation.{drop_later}
use Rattle.slave_spec.specs.declared.words.SlaveSetup.{SlaveSetup}
use Rattle.slave_spec.specs.declared.words.Session.TheVariants.{Before}
use Rattle.slave_spec.specs.Transport as transport
use Rattle.slave_spec.specs.Transport.{is_open}
use Rattle.slave_spec.specs.Plants.{Plant}
use Rattle.slave_spec.specs.Slaves.{machine}
use Rattle.slave_laws.specs.Talk.Plants.{under_way}
use Rattle.slave_laws.specs.Talk.Desks.{at}
use Rattle.slave_laws.specs.Talk.Benches.{bench_at}
use Rattle.slave_laws.specs.Model.Models.{plant_at}
use Rattle.slave_laws.specs.Model.Tuned.{served_at}
use Rattle.slave_laws.proofs.Wiring.Courses.{on_course}
use Rattle.slave_laws.specs.Data.Whole.{slaves_asked}
use Rattle.slave_laws.proofs.Data.Stepping.{asked_may}
use Rattle.slave_laws.specs.Model.Stages.{SlaveStage, stage_by}
use Rattle.slave_laws.proofs.Model.Standing.{slaves_stand}
use Rattle.plan_laws.specs.Course.Taken.{resets_taken}
use Rattle.lockstep_laws.specs.Models.Scenarios.{slave_numbered}
use Rattle.master_spec.specs.declared.causes.Cause.TheVariants as causes
use Rattle.master_spec.specs.declared.reports.Report.TheVariants as reports
use Rattle.master_spec.specs.declared.requests.Request.{Request}
use Rattle.master_spec.specs.declared.requests.Request.TheVariants.{Change, Configure, AskState, AskError}
use Rattle.master_spec.specs.declared.requests.Answer.TheVariants.{StateAck, ErrorAck}
use Rattle.master_spec.specs.declared.setups.Setup.{Setup}
use Rattle.master_spec.specs.declared.tasks.Task.{Task}
use Rattle.master_spec.specs.declared.tasks.Task.TheVariants as tasks
use Rattle.master_spec.specs.Tasks.{is_by_list}
use Rattle.master_spec.specs.Jobs.{Job, asked_by}
use Rattle.master_spec.specs.Marks.{Answered}
use Rattle.master_spec.specs.Requests.{Asking, is_main, is_state_question, acked}
use Rattle.master_spec.specs.Conversation.{is_error}
use Rattle.master_spec.specs.Setup.{setup_from, jobs_of}
use Rattle.master_log_laws.specs.Asking.Legal.{AreLegal}
use Rattle.master_log_laws.specs.Index.Runs.{course_at}
use Rattle.master_log_laws.specs.Index.Index.{marks_of, askings_told}
use Rattle.master_log_laws.proofs.Scenarios.Heard.{setups_heard}
use Rattle.master_log_laws.proofs.Phases.Now.{now, past, IsOf, IsDecidedBy}
use Rattle.master_log_laws.proofs.Phases.Mains.{is_main_request, of_main, asked_main, questions_acked, AreQuestions, Asks, by_list, by_one, job_asks}
use Rattle.master_log_laws.proofs.Phases.Stage.{Main, Question, IsAfterError}
use Rattle.master_laws.proofs.PlanOrder.Taken.{events_by, events_are, taken}
use Rattle.master_laws.proofs.PlanOrder.Requests.{resets_slave, is_row_task, AllAsk, all_ask}
use Rattle.master_laws.proofs.PlanOrder.Effects.{resets_same, events_same, events_more}
use Rattle.master_laws.proofs.PlanOrder.Standing.{Standing, at_first, standing, after_task, after_job}
use Rattle.master_laws.proofs.PlanOrder.Phases.{Agrees, agrees_past}
use Rattle.master_laws.proofs.Rows.Views.{viewed}
use Rattle.run_laws.specs.Laws.{parties, slave_setup_of, IsRunOf}
use Rattle.run_laws.proofs.Headline.Moments.{so_far, asked_always}
use Rattle.run_laws.proofs.Headline.Behaving.{are_slaves}
use Rattle.completeness_laws.specs.StepPhases.{phase_of_step}
use Rattle.completeness_laws.proofs.Causes.Goings.{open_during}
use Rattle.completeness_laws.proofs.Causes.Told.{stage_of}
use Rattle.completeness_laws.proofs.Causes.Homes.{entered_at, ask_left, full}
use Rattle.completeness_laws.proofs.Causes.Ended.{IsEndedBy, IsEndedByAnswer}
use Rattle.completeness_laws.proofs.Causes.Unexpected.{ended, last, last_answer, comes, legal, begun, job_is, IsLastAnswer}
use Rattle.completeness_laws.proofs.Causes.Heartbeat.{mark_is}
use Rattle.completeness_laws.proofs.Causes.Quiet.{IsOfModel}
use Rattle.completeness_laws.proofs.Causes.Taken.{reads, IsTakenAnswer, taken_answer}
use Rattle.completeness_laws.proofs.Causes.Faults.{entered_where}
use Rattle.completeness_laws.proofs.Causes.Moments.{FaultCame, came, served_grows}
use Rattle.completeness_laws.proofs.Causes.Places.{IsFirstPlace, IsStepPlace, FitsAt, fits_job}
use Rattle.completeness_laws.proofs.Causes.Timed.{none_done, before_done}
use Rattle.lockstep_laws.proofs.Places.{fits}

clash : {A : Type 0} → true ≡ false → A
clash e = absurd cc

-- the tasks of a run in which a model may fault
is_first : (task : Task) → entered_at task ≡ Initializing → task ≡ tasks.Initialize
is_first tasks.Initialize e = refl
is_first (tasks.Register uuid) e = absurd cc
is_first tasks.Setup e = absurd cc
is_first tasks.Prepare e = absurd cc
is_first tasks.Configure e = absurd cc
is_first (tasks.FirstOutputs row) e = absurd cc
is_first tasks.Run e = absurd cc
is_first (tasks.Step i) e = absurd cc
is_first (tasks.Outputs i row) e = absurd cc
is_first tasks.Stop e = absurd cc
is_first tasks.Reset e = absurd cc
is_first tasks.Adjust e = absurd cc
is_first tasks.Deregister e = absurd cc

is_step : (task : Task) → entered_at task ≡ Computing → (i : ℕ) × (task ≡ tasks.Step i)
is_step (tasks.Step i) e = (i, refl)
is_step tasks.Initialize e = absurd cc
is_step (tasks.Register uuid) e = absurd cc
is_step tasks.Setup e = absurd cc
is_step tasks.Prepare e = absurd cc
is_step tasks.Configure e = absurd cc
is_step (tasks.FirstOutputs row) e = absurd cc
is_step tasks.Run e = absurd cc
is_step (tasks.Outputs i row) e = absurd cc
is_step tasks.Stop e = absurd cc
is_step tasks.Reset e = absurd cc
is_step tasks.Adjust e = absurd cc
is_step tasks.Deregister e = absurd cc

one_asked : (job : Job) → is_by_list job.task ≡ false → length (asked_by job) ≡ 1
one_asked job l = by (job_asks job)
  where
    by : Asks job → length (asked_by job) ≡ 1
    by (by_list n e) = clash (sym n ∙ l)
    by (by_one state body n e) = ap length e

first_phase : (sc : Scenario) (m place phase : ℕ) → phase ≡ place + 1 → place + 1 ≡ m * (8 + 2 * sc.steps) + 5 → phase ≡ phase_of_step sc.steps (m + 1) 0
first_phase sc m place phase e f =
    let one : m ≡ m + 1 - 1 = omega arith in
    e ∙ f ∙ ap (λ (k : ℕ). k * (8 + 2 * sc.steps) + 5) one

step_phase : (sc : Scenario) (m i place phase : ℕ) → 1 ≤ i → phase ≡ place + 1 → place + 1 ≡ m * (8 + 2 * sc.steps) + (6 + 2 * i) → phase ≡ phase_of_step sc.steps (m + 1) i
step_phase sc m i place phase le e f =
    let one : m ≡ m + 1 - 1 = omega arith in
    e ∙ f ∙ ap (λ (k : ℕ). k * (8 + 2 * sc.steps) + (6 + 2 * i)) one ∙ ap (λ (b : Bool). (m + 1 - 1) * (8 + 2 * sc.steps) + (if b then 5 else 6 + 2 * i)) (by (i == 0) refl)
  where
    by : (b : Bool) → (i == 0) ≡ b → false ≡ (i == 0)
    by false z = sym z
    by true z = let h = eqb-true i 0 z in absurd (omega (arith, h, le))

-- the slave in INITIALIZING, or computing step i, when the fault came
abbrev pub IsAtStep : Plant → ℕ → Type 0
IsAtStep p i = ((i ≡ 0) × ((p.steps ≡ 0) × (p.state ≡ Initializing))) ⊎ ((p.steps + 1 ≡ i) × (p.state ≡ Computing))

abbrev pub IsForStep : Task → ℕ → Type 0
IsForStep task i = ((i ≡ 0) × (task ≡ tasks.Initialize)) ⊎ ((1 ≤ i) × (task ≡ tasks.Step i))

module _ (sc : Scenario) (other : SlaveDesc) (ok : IsScenario sc) (log : List LogEntry) (run : IsRunOf sc other log) (later sofar : List LogEntry) (front : reverse log ≡ later ++ sofar) (id phase : ℕ) (q c : ℕ)
    (reported : (course_at (setup_from sc) sofar).report ≡ Some (reports.Failed id phase (causes.Faulted q c))) where
  abbrev k : IsEndedBy (setup_from sc) sofar id phase (causes.Faulted q c)
  k = ended sc other ok log run later sofar front id phase (causes.Faulted q c) reported

  abbrev setup : Setup
  setup = setup_from sc

  abbrev w : Parties
  w = parties sc other

  abbrev s : SlaveSetup
  s = slave_setup_of sc other id

  abbrev job : Job
  job = k.job

  abbrev mark : k.mark ≡ Answered AskError (ErrorAck c)
  mark = mark_is sc other ok log run later sofar front id phase q c reported

  abbrev l : IsEndedByAnswer setup sofar k.slave k.job k.older AskError (ErrorAck c)
  l = last sc other ok log run later sofar front id phase (causes.Faulted q c) reported AskError (ErrorAck c) mark

  abbrev old : List Asking
  old = askings_told (past k.older)

  abbrev la : IsLastAnswer sc other sofar id AskError (ErrorAck c) (l.phase ++ old)
  la = last_answer sc other ok log run later sofar front id phase (causes.Faulted q c) reported AskError (ErrorAck c) mark

  abbrev pub asked_fault : IsTakenAnswer sc other sofar id AskError (ErrorAck c) (l.phase ++ old)
  asked_fault = taken_answer sc other sofar id AskError (ErrorAck c) (l.phase ++ old) la

  abbrev t : IsTakenAnswer sc other sofar id AskError (ErrorAck c) (l.phase ++ old)
  t = asked_fault

  abbrev early : List LogEntry
  early = t.taken.earlier

  abbrev p : List LogEntry → Plant
  p m = plant_at s w id m

  abbrev S : Standing
  S = standing (jobs_of setup k.slave) k.job_place at_first

  pub is_slave : IsSlaveOf w id
  is_slave = la.is

  legal_is : AreLegal setup.limits (jobs_of setup k.slave) (Answered AskError (ErrorAck c) ∷ marks_of k.older)
  legal_is = legal sc other ok log run later sofar front id phase (causes.Faulted q c) reported AskError (ErrorAck c) mark

  -- ---- the question
  record IsQuestion : Type 0 where
    pub all : AllAsk job l.phase
    pub entered : (stage_of id (l.phase ++ old)).entered ≡ entered_at job.task
    pub acked_is : acked l.phase ≡ length (asked_by job)

  is_question : IsQuestion
  is_question = by l.kind
    where
      by : ((u : Main job AskError None (now k.older)) × (u.ms ≡ l.phase)) ⊎ ((u : Question job AskError None (now k.older)) × (u.qs ++ u.ms ≡ l.phase)) → IsQuestion
      by (inl u) = clash (sym (asked_main job (acked (u.0).ms) AskError (u.0).slot))
      by (inr z) =
          let u : Question job AskError None (now k.older) = z.0 in
          let P : List Asking → Type 0 = AllAsk job in
          let all = (subst P u.is (all_ask setup.limits (jobs_of setup k.slave) k.older legal_is.1 job (job_is sc other ok log run later sofar front id phase (causes.Faulted q c) reported AskError (ErrorAck c) mark))).1 in
          let f = full id job u.qs u.ms old (ask_left job u.qs u.ms all) u.questions u.mains u.whole (comes sc other ok log run later sofar front id phase (causes.Faulted q c) reported AskError (ErrorAck c) mark) in
          record {
            all = subst P z.1 all;
            entered = ap (λ (ys : List Asking). (stage_of id (ys ++ old)).entered) (sym z.1) ∙ f.entered;
            acked_is = sym (ap acked z.1) ∙ questions_acked u.qs u.ms u.questions ∙ u.whole;
          }

  -- the question before it was answered with an error state
  pub record IsToldError : Type 0 where
    pub question : Asking
    pub rest : List Asking
    pub is : l.phase ≡ question ∷ rest
    pub of : IsOf AskState question
    pub state : ℕ
    pub decided : IsDecidedBy (Some (StateAck state)) question
    pub error : is_error state ≡ true

  pub told_error : IsToldError
  told_error = by l.kind
    where
      state_of : (r : Request) (b : Asking) → IsOf r b → is_main_request r ≡ false → is_state_question b ≡ true → IsOf AskState b
      state_of AskState b o m e = o
      state_of AskError b o m e = let z = eqb-true b.code 128 e in let y = o.0 in absurd (omega (arith, z, y))
      state_of (Change state body) b o m e = clash m
      state_of (Configure body) b o m e = clash m

      by : ((u : Main job AskError None (now k.older)) × (u.ms ≡ l.phase)) ⊎ ((u : Question job AskError None (now k.older)) × (u.qs ++ u.ms ≡ l.phase)) → IsToldError
      by (inl u) = clash (sym (asked_main job (acked (u.0).ms) AskError (u.0).slot))
      by (inr z) =
          let u : Question job AskError None (now k.older) = z.0 in
          let a : IsAfterError u.qs = u.after in
          let is : l.phase ≡ a.question ∷ (a.rest ++ u.ms) = sym z.1 ∙ ap (λ (qs : List Asking). qs ++ u.ms) a.is in
          let P : List Asking → Type 0 = AllAsk job in
          let Q : List Asking → Type 0 = AreQuestions in
          let ask = (subst P is is_question.all).0 in
          let main : is_main a.question ≡ false = (subst Q a.is u.questions).0 in
          record { question = a.question; rest = a.rest ++ u.ms; is = is; of = state_of ask.0 a.question (ask.1).0 (sym (of_main ask.0 a.question (ask.1).0) ∙ main) a.asked_state; state = a.state; decided = (a.place, a.named); error = a.error }

  -- ---- the moments
  early_is : reverse log ≡ (later ++ (t.taken.later ++ t.taken.entry ∷ [])) ++ early
  early_is = front ∙ ap (λ (z : List LogEntry). later ++ z) (t.taken.is ∙ sym (append_assoc t.taken.later (t.taken.entry ∷ []) early)) ∙ sym (append_assoc later (t.taken.later ++ t.taken.entry ∷ []) early)

  pub early_opened : is_open (at (machine s) w id early).slave.session ≡ true
  early_opened = by t.taken.takes_it.when
    where
      by : (((at (machine s) w id early).slave.session ≡ Before) × (transport.is_register t.taken.takes_it.request.asked ≡ true)) ⊎ (is_open (at (machine s) w id early).slave.session ≡ true) → is_open (at (machine s) w id early).slave.session ≡ true
      by (inr h) = h
      by (inl h) = clash (sym h.1 ∙ ap transport.is_register t.asked)

  behaves : (more m : List LogEntry) → reverse log ≡ more ++ m → Behaves w (slaves_asked sc other) m
  behaves more m e = drop_later w (slaves_asked sc other) (are_slaves sc other ok) more m (so_far sc other ok log run more m e)

  old_agrees : Agrees id old S
  old_agrees = agrees_past setup.limits (jobs_of setup k.slave) id k.older legal_is.1 k.job_place (begun sc other ok log run later sofar front id phase (causes.Faulted q c) reported AskError (ErrorAck c) mark)

  -- ---- the resets and the events so far
  resets_are : resets_slave job.task ≡ false → length (p early).earlier ≡ S.resets
  resets_are e =
      let d = slave_numbered sc other id in
      let asked = asked_may sc id d (served_at s w id early) (asked_always sc other ok log run (later ++ (t.taken.later ++ t.taken.entry ∷ [])) early early_is id la.is) in
      let many = (on_course sc id s w (reads sc other) early asked (open_during (at (machine s) w id early).slave.session early_opened)).staged.many in
      sym many ∙ ap resets_taken t.taken.before ∙ (taken id (l.phase ++ old) t.others t.told).resets ∙ resets_same id job l.phase old is_question.all e ∙ old_agrees.resets

  counted_are : events_counted (view (served_at s w id early)) ≡ events_by (l.phase ++ old)
  counted_are = ap (λ (ds : List logs.DecidedRequest). events_counted (view ds)) t.taken.before ∙ ap events_counted (viewed id (l.phase ++ old) t.others t.told) ∙ events_are (l.phase ++ old)

  first_counted : is_row_task job.task ≡ false → events_counted (view (served_at s w id early)) ≡ S.events
  first_counted e = counted_are ∙ events_same job l.phase old is_question.all e ∙ old_agrees.events

  step_counted : is_row_task job.task ≡ true → is_by_list job.task ≡ false → events_counted (view (served_at s w id early)) ≡ S.events + 1
  step_counted e f =
      let a = counted_are in
      let b = events_more job l.phase old is_question.all e in
      let one = is_question.acked_is ∙ one_asked job f in
      let g = old_agrees.events in
      omega (arith, a, b, one, g)

  -- ---- a fault of the model
  module _ (code : FaultCode) (fault : (p early).fault ≡ Some code) (model : IsOfModel code) where
    abbrev pub fault_came : FaultCame s w id (reads sc other) early code
    fault_came = came s w id (reads sc other) early early_opened code fault model

    abbrev f : FaultCame s w id (reads sc other) early code
    f = fault_came

    moment_is : reverse log ≡ ((later ++ (t.taken.later ++ t.taken.entry ∷ [])) ++ (f.later ++ f.entry ∷ [])) ++ f.earlier
    moment_is = early_is ∙ ap (λ (z : List LogEntry). (later ++ (t.taken.later ++ t.taken.entry ∷ [])) ++ z) (f.is ∙ sym (append_assoc f.later (f.entry ∷ []) f.earlier)) ∙ sym (append_assoc (later ++ (t.taken.later ++ t.taken.entry ∷ [])) (f.later ++ f.entry ∷ []) f.earlier)

    pub behaves_there : Behaves w (slaves_asked sc other) f.earlier
    behaves_there = behaves ((later ++ (t.taken.later ++ t.taken.entry ∷ [])) ++ (f.later ++ f.entry ∷ [])) f.earlier moment_is

    -- the run, and the step in it
    pub record IsLocated : Type 0 where
      pub m : ℕ
      pub i : ℕ
      pub moment : IsMoment sc (m + 1) i
      pub phase_is : phase ≡ phase_of_step sc.steps (m + 1) i
      pub resets : length (p f.earlier).earlier ≡ m
      pub at_step : IsAtStep (p f.earlier) i
      pub for_step : IsForStep job.task i
      pub plan : S.resets ≡ m
      pub counted : 2 * (m * (sc.steps + 1) + i) ≤ events_by (l.phase ++ old)
      -- the row events of the plan once the job is done
      pub plan_events : (after_job job S).events ≡ 2 * (m * (sc.steps + 1) + i)

    entered_task : (stage_by (served_at s w id f.earlier)).entered ≡ entered_at job.task
    entered_task = sym f.kept ∙ ap (λ (z : SlaveStage). z.entered) t.staged ∙ is_question.entered

    place_fits : FitsAt sc.steps sc.runs k.job_place S.resets S.events job.task
    place_fits = fits_job sc.steps sc.runs k.slave.script (setups_heard sc ok).heard.runs k.job_place job k.job_at

    length_same : length (p f.earlier).earlier ≡ length (p early).earlier
    length_same = ap length (sym f.runs)

    located_first : job.task ≡ tasks.Initialize → (p f.earlier).state ≡ Initializing → IsLocated
    located_first e st =
        let P : Task → Type 0 = λ z. FitsAt sc.steps sc.runs k.job_place S.resets S.events z in
        let g : IsFirstPlace sc.steps sc.runs k.job_place S.resets S.events = subst P e place_fits in
        let many = resets_are (ap resets_slave e) in
        let timed = fits w (slaves_asked sc other) (are_slaves sc other ok) early (behaves _ early early_is) id la.is in
        let zero' = none_done sc.steps S.resets (served_at s w id early) (bench_at s w id early) timed many (first_counted (ap is_row_task e) ∙ g.events) in
        let within = g.within in
        record {
          m = S.resets;
          i = 0;
          moment = record { first = omega arith; last = omega (arith, within); within = omega arith };
          phase_is = first_phase sc S.resets k.job_place phase k.phase_is g.place;
          resets = length_same ∙ many;
          at_step = inl (refl, (sym f.steps ∙ zero', st));
          for_step = inl (refl, e);
          plan = refl;
          counted = (let a = sym counted_are ∙ first_counted (ap is_row_task e) ∙ g.events in omega (arith, a));
          plan_events = (let a : (after_job job S).events ≡ S.events = ap (λ (x : Task). (after_task x job.list S).events) e in let b = g.events in omega (arith, a, b));
        }

    located_step : (i : ℕ) → job.task ≡ tasks.Step i → (p f.earlier).state ≡ Computing → IsLocated
    located_step i e st =
        let P : Task → Type 0 = λ z. FitsAt sc.steps sc.runs k.job_place S.resets S.events z in
        let g : IsStepPlace sc.steps sc.runs i k.job_place S.resets S.events = subst P e place_fits in
        let many = resets_are (ap resets_slave e) in
        let timed = fits w (slaves_asked sc other) (are_slaves sc other ok) early (behaves _ early early_is) id la.is in
        let timed_there = fits w (slaves_asked sc other) (are_slaves sc other ok) f.earlier behaves_there id la.is in
        let first = g.first in
        let last = g.last in
        let within = g.within in
        let ev = g.events in
        let n = step_counted (ap is_row_task e) (ap is_by_list e) in
        let grows = served_grows s w id (reads sc other) (f.later ++ f.entry ∷ []) f.earlier in
        let whole : served_at s w id early ≡ grows.0 ++ served_at s w id f.earlier = ap (served_at s w id) (f.is ∙ sym (append_assoc f.later (f.entry ∷ []) f.earlier)) ∙ grows.1 in
        let done = before_done sc.steps S.resets i (served_at s w id early) (served_at s w id f.earlier) (bench_at s w id early) (bench_at s w id f.earlier) timed timed_there grows.0 whole (ap under_way st) (length_same ∙ many) many (sym f.steps) first (omega (arith, n, ev)) in
        record {
          m = S.resets;
          i = i;
          moment = record { first = omega arith; last = omega (arith, within); within = last };
          phase_is = step_phase sc S.resets i k.job_place phase first k.phase_is g.place;
          resets = length_same ∙ many;
          at_step = inr (done, st);
          for_step = inr (first, e);
          plan = refl;
          counted = (let a = counted_are in omega (arith, a, n, ev, first));
          plan_events = (let a : (after_job job S).events ≡ S.events + 1 = ap (λ (x : Task). (after_task x job.list S).events) e in omega (arith, a, ev, first));
        }

    pub located : IsLocated
    located = by (entered_where s (stage_by (served_at s w id f.earlier)) (p f.earlier) code (slaves_stand s w id (reads sc other) f.earlier f.opened) f.faults)
      where
        by : (((stage_by (served_at s w id f.earlier)).entered ≡ Initializing) × ((p f.earlier).state ≡ Initializing)) ⊎ (((stage_by (served_at s w id f.earlier)).entered ≡ Computing) × ((p f.earlier).state ≡ Computing)) → IsLocated
        by (inl z) = located_first (is_first job.task (sym entered_task ∙ z.0)) z.1
        by (inr z) = let n = is_step job.task (sym entered_task ∙ z.0) in located_step n.0 n.1 z.1
