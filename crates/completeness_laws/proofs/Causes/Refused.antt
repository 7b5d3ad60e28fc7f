-- A slave refuses nothing but where it was left alone for too long.
use Rattle.std.proofs.Common.{◌≡◌, ℕ, zero, suc, ◌+◌, ◌-◌, ◌^◌, ◌<◌, ◌≤◌, Bool, true, false, ◌⊎◌, inl, inr, Option, Some, None, List, [], ◌∷◌, ◌++◌, reverse, take, refl, sym, ap, ◌∙◌, subst, arith}
use Rattle.std.specs.Prelude.{◌&&◌, is_some, slice_get}
use Rattle.std.proofs.lemmas.List.{append_assoc, reverse-append, reverse-reverse}
use Rattle.dcp_types.specs.Codes.{error_code}
use Rattle.dcp_types.specs.declared.fault_codes.FaultCode.{FaultCode}
use Rattle.dcp_types.specs.declared.fault_codes.FaultCode.TheVariants.{HeartbeatMissed}
use Rattle.dcp_types.specs.declared.error_codes.ErrorCode.{ErrorCode}
use Rattle.dcp_types.specs.declared.error_codes.ErrorCode.TheVariants.{InErrorState, InputsMissing}
use Rattle.dcp_types.specs.declared.states.State.{State}
use Rattle.dcp_types.specs.declared.states.State.TheVariants.{Alive, Configuration, Initializing, SendingI, Computing, Configured, Stopping}
use Rattle.dcp_ends.specs.declared.entries.LogEntry.{LogEntry}
use Rattle.pdu_layout.specs.declared.messages.Stc.TheVariants as stc
use Rattle.pdu_layout.specs.declared.messages.Cfg.{Cfg}
use Rattle.scenario.specs.declared.scenarios.Scenario.{Scenario}
use Rattle.scenario.specs.Sound.{IsScenario}
use Rattle.slave_desc.specs.declared.descriptions.SlaveDesc.{SlaveDesc}
use Rattle.log_spec.specs.Log.{Parties}
use Rattle.slave_states.specs.Transitions.{is_same, next_on_turn}
use Rattle.slave_spec.specs.Changes.{complete}
use Rattle.slave_spec.specs.declared.words.SlaveSetup.{SlaveSetup}
use Rattle.slave_spec.specs.declared.words.Session.{Session}
use Rattle.slave_spec.specs.declared.words.Session.TheVariants.{Before, During, After}
use Rattle.slave_spec.specs.Transport as transport
use Rattle.slave_spec.specs.Transport.{is_open}
use Rattle.slave_spec.specs.Plants.{Plant, start_plant}
use Rattle.slave_spec.specs.Begun.{IsRegular, IsRegularIn}
use Rattle.slave_spec.specs.Requests.{is_in_error, refusal}
use Rattle.slave_spec.specs.Slaves.{machine}
use Rattle.slave_laws.specs.Talk.Desks.{at}
use Rattle.slave_laws.specs.Model.Models.{plant_at}
use Rattle.slave_laws.specs.Model.Tuned.{served_at}
use Rattle.slave_laws.proofs.Wiring.Courses.{is_counted}
use Rattle.slave_laws.proofs.Data.Held.{of_scenario}
use Rattle.slave_laws.proofs.Data.Stepping.{asked_may}
use Rattle.slave_laws.specs.Model.Stages.{SlaveStage, reached_by_turns, stage_by, IsInStage}
use Rattle.slave_laws.specs.Model.Answering.{StandsInStage}
use Rattle.slave_laws.proofs.Model.Standing.{slaves_stand}
use Rattle.plan_laws.specs.Course.Taken.{settings_taken}
use Rattle.plan_laws.specs.Taking.{IsScenarioSlave}
use Rattle.plan_laws.specs.Runs.{lists_until}
use Rattle.lockstep_laws.specs.Models.Scenarios.{slave_numbered}
use Rattle.master_spec.specs.declared.causes.Cause.{Cause}
use Rattle.master_spec.specs.declared.causes.Cause.TheVariants as causes
use Rattle.master_spec.specs.declared.reports.Report.TheVariants as reports
use Rattle.master_spec.specs.declared.requests.Request.{Request}
use Rattle.master_spec.specs.declared.requests.Request.TheVariants.{Change, Configure, AskState, AskError}
use Rattle.master_spec.specs.declared.requests.Answer.{Answer}
use Rattle.master_spec.specs.declared.requests.Answer.TheVariants.{Nack}
use Rattle.master_spec.specs.declared.setups.Script.{Script}
use Rattle.master_spec.specs.declared.setups.Slave.{Slave}
use Rattle.master_spec.specs.declared.setups.Setup.{Setup}
use Rattle.master_spec.specs.declared.tasks.Task.{Task}
use Rattle.master_spec.specs.declared.tasks.Task.TheVariants as tasks
use Rattle.master_spec.specs.Tasks.{is_by_list, is_by_end, asks_step}
use Rattle.master_spec.specs.Jobs.{Job, asked_by}
use Rattle.master_spec.specs.Marks.{Mark, Begun, Asked, Again, Answered, Hinted, Brought, Turned, Ended, is_missing}
use Rattle.master_spec.specs.Requests.{Asking, acked}
use Rattle.master_spec.specs.Setup.{setup_from, jobs_of, script_of, slave_of}
use Rattle.master_log_laws.specs.Index.Runs.{course_at}
use Rattle.master_log_laws.specs.Index.Index.{marks_of, askings_told}
use Rattle.master_log_laws.proofs.Scenarios.Heard.{setups_heard}
use Rattle.master_log_laws.specs.Failures.Because.{BecauseOf}
use Rattle.master_log_laws.proofs.Phases.Now.{now, past}
use Rattle.master_log_laws.proofs.Phases.Mains.{is_main_request, asked_main, change_slot, list_slot}
use Rattle.master_log_laws.proofs.Phases.Stage.{Main, Question}
use Rattle.master_laws.proofs.PlanOrder.Hearing.{asked_for}
use Rattle.master_laws.proofs.PlanOrder.Taken.{settings_by, taken}
use Rattle.master_laws.proofs.PlanOrder.Requests.{in_list, AllAsk, all_ask}
use Rattle.master_laws.proofs.PlanOrder.Effects.{settings_same, settings_mains}
use Rattle.master_laws.proofs.PlanOrder.Standing.{Standing, at_first, standing, standing_next, after_job, set_until, IsSet, Finds}
use Rattle.master_laws.proofs.PlanOrder.Phases.{agrees_past}
use Rattle.master_laws.proofs.PlanOrder.Asking.{finds}
use Rattle.master_laws.proofs.PlanOrder.Lists.{lists_are}
use Rattle.run_laws.specs.Laws.{parties, slave_setup_of, IsRunOf}
use Rattle.run_laws.proofs.Runs.{party}
use Rattle.run_laws.proofs.Headline.Moments.{asked_always}
use Rattle.completeness_laws.specs.AnswerCauses.{IsOfRefusal, IsRefusedInError, RefusedInError}
use Rattle.completeness_laws.proofs.Causes.Goings.{open_during}
use Rattle.completeness_laws.proofs.Causes.Told.{stage_of}
use Rattle.completeness_laws.proofs.Causes.Homes.{entered_at, mains_none, mains_list}
use Rattle.completeness_laws.proofs.Causes.Past.{StandsAt}
use Rattle.completeness_laws.proofs.Causes.Ended.{IsEndedBy, IsEndedByAnswer}
use Rattle.completeness_laws.proofs.Causes.Unexpected.{ended, last, last_answer, stands, legal, begun, job_is, IsLastAnswer}
use Rattle.completeness_laws.proofs.Causes.Quiet.{model_or_not, IsOfModel}
use Rattle.completeness_laws.proofs.Causes.Taken.{reads, IsTakenAnswer, taken_answer}
use Rattle.completeness_laws.proofs.Causes.Missed.{missed_before}
use Rattle.completeness_laws.proofs.Causes.Faults.{KnowsFault, known, regular_at, fault_stays}
use Rattle.completeness_laws.proofs.Causes.Alikes.{set_by, next_taken, all_complete}
use Rattle.completeness_laws.proofs.Causes.Chains.{ComesFrom, comes_from, preparation, then_prepared}
use Rattle.completeness_laws.proofs.Causes.Accepts.{IsRefusedBy, refused_by, question_accepted, error_refuses, IsFit, task_accepted, register_accepted, ends_session}

clash : {A : Type 0} → true ≡ false → A
clash e = absurd cc

-- ---- where a slave rests when a main request comes
-- its session has just begun, or it has told that it rests where the task before has led it
abbrev IsFresh : SlaveStage → Type 0
IsFresh g = (g.entered ≡ Alive) ⊎ (g.rested ≡ true)

sent_rests : reached_by_turns SendingI ≡ Configured
unfolding next_on_turn
sent_rests = refl

configuration_rests : reached_by_turns Configuration ≡ Configuration
unfolding next_on_turn
configuration_rests = refl

list_comes : (task : Task) (e : State) → is_by_list task ≡ true → ComesFrom task e → e ≡ Configuration
list_comes tasks.Setup e l c = c
list_comes tasks.Adjust e l c = c
list_comes (tasks.Register uuid) e l c = absurd cc
list_comes tasks.Prepare e l c = c
list_comes tasks.Configure e l c = absurd cc
list_comes tasks.Initialize e l c = absurd cc
list_comes (tasks.FirstOutputs row) e l c = absurd cc
list_comes tasks.Run e l c = absurd cc
list_comes (tasks.Step k) e l c = absurd cc
list_comes (tasks.Outputs k row) e l c = absurd cc
list_comes tasks.Stop e l c = absurd cc
list_comes tasks.Reset e l c = absurd cc
list_comes tasks.Deregister e l c = absurd cc

-- what a list adds to the settings
list_adds : (task : Task) (list : List Cfg) (s : Standing) → is_by_list task ≡ true → (after_job (record { task = task; list = list }) s).settings ≡ reverse list ++ s.settings
list_adds tasks.Setup list s l = refl
list_adds tasks.Adjust list s l = refl
list_adds (tasks.Register uuid) list s l = absurd cc
list_adds tasks.Prepare list s l = absurd cc
list_adds tasks.Configure list s l = absurd cc
list_adds tasks.Initialize list s l = absurd cc
list_adds (tasks.FirstOutputs row) list s l = absurd cc
list_adds tasks.Run list s l = absurd cc
list_adds (tasks.Step k) list s l = absurd cc
list_adds (tasks.Outputs k row) list s l = absurd cc
list_adds tasks.Stop list s l = absurd cc
list_adds tasks.Reset list s l = absurd cc
list_adds tasks.Deregister list s l = absurd cc

-- a list turned round before another
turned_round : (xs ys : List Cfg) → reverse (reverse xs ++ ys) ≡ reverse ys ++ xs
turned_round xs ys = reverse-append (reverse xs) ys ∙ ap (λ (l : List Cfg). reverse ys ++ l) (reverse-reverse xs)

alive_rests : reached_by_turns Alive ≡ Alive
unfolding next_on_turn
alive_rests = refl

module _ (g : SlaveStage) (p : Plant) (st : StandsInStage g p) (k : KnowsFault g p) (fresh : IsFresh g) where
  -- a fault that it has then is a missed heartbeat
  pub of_silence : (c : FaultCode) → p.fault ≡ Some c → c ≡ HeartbeatMissed
  of_silence c f = by (model_or_not c)
    where
      passing : (g.entered ≡ Initializing) ⊎ (g.entered ≡ Computing) → g.entered ≡ Alive → ⊥
      passing (inl a) b = (let z : Initializing ≡ Alive = sym a ∙ b in cc)
      passing (inr a) b = (let z : Computing ≡ Alive = sym a ∙ b in cc)

      two : (g.rested ≡ false) × ((g.entered ≡ Initializing) ⊎ (g.entered ≡ Computing)) → IsFresh g → ⊥
      two z (inl e) = passing z.1 e
      two z (inr r) = clash (sym r ∙ z.0)

      by : IsOfModel c ⊎ (c ≡ HeartbeatMissed) → c ≡ HeartbeatMissed
      by (inr e) = e
      by (inl m) = absurd (two (k.model c f m) fresh)

  pub has_silence : is_in_error p.state ≡ true → p.fault ≡ Some HeartbeatMissed
  has_silence e = by p.fault refl (st.fault e)
    where
      by : (o : Option FaultCode) → p.fault ≡ o → is_some o ≡ true → p.fault ≡ Some HeartbeatMissed
      by None f h = absurd cc
      by (Some c) f h = f ∙ ap (λ (x : FaultCode). Some x) (of_silence c f)

  -- and else it rests
  pub rests_there : is_in_error p.state ≡ false → p.state ≡ reached_by_turns g.entered
  rests_there e = by st.state
    where
      two : p.state ≡ g.entered → g.rested ≡ false → IsFresh g → p.state ≡ reached_by_turns g.entered
      two h r (inl a) = h ∙ a ∙ sym alive_rests ∙ sym (ap reached_by_turns a)
      two h r (inr z) = clash (sym z ∙ r)

      by : IsInStage g p.state → p.state ≡ reached_by_turns g.entered
      by (inl h) = h
      by (inr (inl h)) = two h.0 h.1 fresh
      by (inr (inr h)) = clash (sym h ∙ e)

open_regular : (s : SlaveSetup) (session : Session) (p : Plant) → is_open session ≡ true → IsRegularIn s session p → IsRegular p
open_regular s Before p o r = absurd cc
open_regular s (During master id) p o r = r
open_regular s (After master id) p o r = absurd cc

-- the slave at a place of a scenario's setup
same_slave : (a b : Slave) → Some a ≡ Some b → a ≡ b
same_slave a b e = cc

split_at : (list : List Cfg) (n : ℕ) (body : Cfg) → slice_get list n ≡ Some body → (rest : List Cfg) × (list ≡ take n list ++ body ∷ rest)
split_at [] n body e = absurd cc
split_at (b ∷ list) zero body e = let z : b ≡ body = cc in (list, ap (λ (x : Cfg). x ∷ list) z)
split_at (b ∷ list) (suc n) body e = let z = split_at list n body e in (z.0, ap (λ (l : List Cfg). b ∷ l) z.1)

module _ (sc : Scenario) (other : SlaveDesc) (ok : IsScenario sc) (log : List LogEntry) (run : IsRunOf sc other log) (later sofar : List LogEntry) (front : reverse log ≡ later ++ sofar) (id phase : ℕ) (cause : Cause)
    (reported : (course_at (setup_from sc) sofar).report ≡ Some (reports.Failed id phase cause)) (r : Request) (c : ℕ) (mark : (ended sc other ok log run later sofar front id phase cause reported).mark ≡ Answered r (Nack c)) where
  abbrev k : IsEndedBy (setup_from sc) sofar id phase cause
  k = ended sc other ok log run later sofar front id phase cause reported

  abbrev setup : Setup
  setup = setup_from sc

  abbrev s : SlaveSetup
  s = slave_setup_of sc other id

  abbrev w : Parties
  w = parties sc other

  abbrev d : SlaveDesc
  d = slave_numbered sc other id

  abbrev job : Job
  job = k.job

  abbrev l : IsEndedByAnswer setup sofar k.slave k.job k.older r (Nack c)
  l = last sc other ok log run later sofar front id phase cause reported r (Nack c) mark

  abbrev old : List Asking
  old = askings_told (past k.older)

  la : IsLastAnswer sc other sofar id r (Nack c) (l.phase ++ old)
  la = last_answer sc other ok log run later sofar front id phase cause reported r (Nack c) mark

  abbrev t : IsTakenAnswer sc other sofar id r (Nack c) (l.phase ++ old)
  t = taken_answer sc other sofar id r (Nack c) (l.phase ++ old) la

  abbrev earlier : List LogEntry
  earlier = t.taken.earlier

  abbrev p : Plant
  p = plant_at s w id earlier

  abbrev g : SlaveStage
  g = stage_of id old

  refused : IsRefusedBy s p (asked_for r) c
  refused = refused_by s p r c t.answered

  abbrev Result : Type 0
  Result = IsRefusedInError sc other sofar id c

  none_some : (o : Option ErrorCode) (code : ErrorCode) → o ≡ None → o ≡ Some code → ⊥
  none_some o code e f = let z : None ≡ Some code = sym e ∙ f in cc

  -- ---- the slave and its script
  slave_is : k.slave ≡ slave_of sc id d
  slave_is =
      let place : id ≡ k.place + 1 = sym k.id_is ∙ (setups_heard sc ok).numbered k.place k.slave k.here in
      let q = party sc other ok id la.is in
      let there : q.is_in.0 ≡ k.place = (let z : id ≡ q.is_in.0 + 1 = (setups_heard sc ok).numbered q.is_in.0 (slave_of sc id d) q.is_in.1 in omega (arith, z, place)) in
      same_slave k.slave (slave_of sc id d) (sym k.here ∙ ap (slice_get setup.slaves) (sym there) ∙ q.is_in.1)

  script_is : k.slave.script ≡ script_of sc id d
  script_is = ap (λ (x : Slave). x.script) slave_is

  scenario_slave : IsScenarioSlave sc id s.desc
  scenario_slave = of_scenario sc other ok id la.is

  -- ---- a main request
  module _ (m : Main job r None (now k.older)) (same : m.ms ≡ l.phase) where
    before : StandsAt (jobs_of setup k.slave) k.job_place g
    before = stands sc other ok log run later sofar front id phase cause reported r (Nack c) mark

    abbrev n : ℕ
    n = acked m.ms

    -- nothing of the phase has led it elsewhere
    stage_same : stage_of id (l.phase ++ old) ≡ g
    stage_same = ap (λ (ms : List Asking). stage_of id (ms ++ old)) (sym same) ∙ by r m.slot (asked_main job n r m.slot)
      where
        by : (q : Request) → slice_get (asked_by job) n ≡ Some q → is_main_request q ≡ true → stage_of id (m.ms ++ old) ≡ g
        by (Change state body) e h = mains_none id job m.ms old m.mains (change_slot job n state body e).0
        by (Configure body) e h = mains_list id job m.ms old m.mains (list_slot job n body e).1
        by AskState e h = absurd cc
        by AskError e h = absurd cc

    staged : stage_by (served_at s w id earlier) ≡ g
    staged = t.staged ∙ stage_same

    comes : ComesFrom job.task g.entered
    comes = comes_from sc.steps sc.runs k.slave.script k.job_place job g k.job_at before

    fresh : IsFresh g
    fresh = by before
      where
        ends : (task : Task) → is_by_end task ≡ true → task ≡ tasks.Deregister
        ends tasks.Deregister e = refl
        ends (tasks.Register uuid) e = absurd cc
        ends tasks.Setup e = absurd cc
        ends tasks.Prepare e = absurd cc
        ends tasks.Configure e = absurd cc
        ends tasks.Initialize e = absurd cc
        ends (tasks.FirstOutputs row) e = absurd cc
        ends tasks.Run e = absurd cc
        ends (tasks.Step i) e = absurd cc
        ends (tasks.Outputs i row) e = absurd cc
        ends tasks.Stop e = absurd cc
        ends tasks.Reset e = absurd cc
        ends tasks.Adjust e = absurd cc

        by : StandsAt (jobs_of setup k.slave) k.job_place g → IsFresh g
        by (inl z) = inl (ap (λ (x : SlaveStage). x.entered) z.1)
        by (inr z) = two (is_by_end z.job.task) refl
          where
            two : (b : Bool) → is_by_end z.job.task ≡ b → IsFresh g
            two true e = inl (z.passed.0 ∙ ap entered_at (ends z.job.task e))
            two false e = inr (z.passed.1 e)

    module _ (opened : is_open (at (machine s) w id earlier).slave.session ≡ true) where
      st : StandsInStage g p
      st = let P : SlaveStage → Type 0 = λ x. StandsInStage x p in subst P staged (slaves_stand s w id (reads sc other) earlier opened)

      kn : KnowsFault g p
      kn = let P : SlaveStage → Type 0 = λ x. KnowsFault x p in subst P staged (known s w id (reads sc other) earlier opened)

      regular : IsRegular p
      regular = open_regular s (at (machine s) w id earlier).slave.session p opened (regular_at s w id (reads sc other) earlier)

      not_alive : is_in_error p.state ≡ false → g.entered ≡ Alive → ⊥
      not_alive e a = clash (sym (ap (λ (z : State). is_same z Alive) (rests_there g p st kn fresh e ∙ ap reached_by_turns a ∙ alive_rests)) ∙ regular.registered)

      -- ---- in error
      in_error : is_in_error p.state ≡ true → Result
      in_error e =
          let x : refusal s p (asked_for r) ≡ Some InErrorState = error_refuses s p r (asked_main job n r m.slot) e no_end in
          let z : Some refused.code ≡ Some InErrorState = sym refused.is ∙ x in
          let y : refused.code ≡ InErrorState = cc in
          let silence = has_silence g p st kn fresh e in
          let f = fault_stays s w id (reads sc other) (t.taken.later ++ t.taken.entry ∷ []) earlier HeartbeatMissed silence in
          let whole : sofar ≡ (t.taken.later ++ t.taken.entry ∷ []) ++ earlier = t.taken.is ∙ sym (append_assoc t.taken.later (t.taken.entry ∷ []) earlier) in
          record { code_is = refused.told ∙ ap error_code y; fault = ap (λ (q : List LogEntry). (plant_at s w id q).fault) whole ∙ f; missed = missed_before sc other id sofar t.newest t.others t.taken silence }
        where
          stopped : g.entered ≡ Stopping → IsFresh g → ⊥
          stopped h (inl a) = (let z : Stopping ≡ Alive = sym h ∙ a in cc)
          stopped h (inr a) = clash (sym e ∙ ap is_in_error (kn.stopped h a))

          no_end : (state : State) → r ≡ Change state stc.Deregister → ⊥
          no_end state h =
              let task = ends_session job.task job.list n state (m.slot ∙ ap (λ (q : Request). Some q) h) in
              let P : Task → Type 0 = λ x. ComesFrom x g.entered in
              stopped (subst P task comes) fresh

      -- ---- not in error
      settings_now : settings_taken (served_at s w id earlier) ≡ settings_by id (m.ms ++ old)
      settings_now = ap settings_taken t.taken.before ∙ told_settings ∙ ap (λ (ms : List Asking). settings_by id (ms ++ old)) (sym same)
        where
          told_settings : settings_taken t.others ≡ settings_by id (l.phase ++ old)
          told_settings = (taken id (l.phase ++ old) t.others t.told).settings

      abbrev S : Standing
      S = standing (jobs_of setup k.slave) k.job_place at_first

      old_settings : settings_by id old ≡ S.settings
      old_settings = (agrees_past setup.limits (jobs_of setup k.slave) id k.older (legal sc other ok log run later sofar front id phase cause reported r (Nack c) mark).1 k.job_place (begun sc other ok log run later sofar front id phase cause reported r (Nack c) mark)).settings

      some_run : 1 ≤ sc.runs
      some_run = (setups_heard sc ok).heard.runs

      lists_of : (i : ℕ) → i < sc.runs → set_until k.slave.script i ≡ lists_until sc id s.desc i
      lists_of i h = ap (λ (x : Script). set_until x i) script_is ∙ lists_are sc id d i h

      all_of : AllAsk job m.ms
      all_of =
          let P : List Asking → Type 0 = AllAsk job in
          (subst P m.is (all_ask setup.limits (jobs_of setup k.slave) k.older (legal sc other ok log run later sofar front id phase cause reported r (Nack c) mark).1 job (job_is sc other ok log run later sofar front id phase cause reported r (Nack c) mark))).1

      -- when it is to be prepared it has all settings
      complete_now : job.task ≡ tasks.Prepare → complete p.wires.changes ≡ true
      complete_now e =
          let P : Task → Type 0 = λ x. Finds sc.steps sc.runs k.slave.script x S in
          let f : IsSet sc.runs k.slave.script S = subst P e (finds sc.steps sc.runs some_run k.slave.script k.job_place job k.job_at) in
          let settings : settings_taken (served_at s w id earlier) ≡ reverse (set_until k.slave.script S.resets) = settings_now ∙ settings_same id job m.ms old all_of (ap is_by_list e) ∙ old_settings ∙ f.settings in
          all_complete s sc id scenario_slave S.resets (settings_taken (served_at s w id earlier)) p
          (sym (lists_of S.resets f.within) ∙ sym (reverse-reverse (set_until k.slave.script S.resets)) ∙ ap reverse (sym settings))
          (set_by s w id (reads sc other) earlier)

      few : p.steps < 2 ^ 32 - 1
      few =
          let moment : reverse log ≡ (later ++ (t.taken.later ++ t.taken.entry ∷ [])) ++ earlier = front ∙ ap (λ (q : List LogEntry). later ++ q) (t.taken.is ∙ sym (append_assoc t.taken.later (t.taken.entry ∷ []) earlier)) ∙ sym (append_assoc later (t.taken.later ++ t.taken.entry ∷ []) earlier) in
          let asked = asked_may sc id d (served_at s w id earlier) (asked_always sc other ok log run (later ++ (t.taken.later ++ t.taken.entry ∷ [])) earlier moment id la.is) in
          let counted = is_counted sc id s w scenario_slave (reads sc other) earlier asked (open_during (at (machine s) w id earlier).slave.session opened) in
          let most = counted.most in
          let least = ok.steps in
          omega (arith, most, least)

      not_step : refusal s p (asked_for r) ≡ Some InputsMissing → asks_step r ≡ true → (is_missing c && asks_step r) ≡ false → ⊥
      not_step h a f =
          let z : Some refused.code ≡ Some InputsMissing = sym refused.is ∙ h in
          let y : refused.code ≡ InputsMissing = cc in
          clash (sym (ap (λ (x : ℕ). is_missing x && asks_step r) (refused.told ∙ ap error_code y) ∙ ap (λ (b : Bool). is_missing 8 && b) a) ∙ f)

      module _ (fine : is_in_error p.state ≡ false) (other_cause : (is_missing c && asks_step r) ≡ false) where
        fit : IsFit p job.task
        fit = record { complete_is = complete_now; unsent = λ e. (let P : Task → Type 0 = λ x. ComesFrom x g.entered in kn.unsent (subst P e comes)); sent = λ e. sent e; few = few }
          where
            sent : job.task ≡ tasks.Run → p.outputs_sent ≡ true
            sent e =
                let P : Task → Type 0 = λ x. ComesFrom x g.entered in
                let here : g.entered ≡ SendingI = subst P e comes in
                kn.sent here (rests_there g p st kn fresh fine ∙ ap reached_by_turns here ∙ sent_rests)

        -- a setting is the next of the plan
        setting_refused : (body : Cfg) → r ≡ Configure body → ⊥
        setting_refused body q =
            let slot : slice_get (asked_by job) n ≡ Some (Configure body) = m.slot ∙ ap (λ (x : Request). Some x) q in
            let ls = list_slot job n body slot in
            let i = in_list job.list n (Configure body) (ap (λ (rs : List Request). slice_get rs n) (sym ls.0) ∙ slot) in
            let same_body : body ≡ i.0 = (let z : Configure body ≡ Configure i.0 = (i.1).0 in cc) in
            let here : slice_get job.list n ≡ Some body = (i.1).1 ∙ ap (λ (x : Cfg). Some x) (sym same_body) in
            let parts = split_at job.list n body here in
            let js = jobs_of setup k.slave in
            let F = standing js (suc k.job_place) at_first in
            let f : IsSet sc.runs k.slave.script F = finds sc.steps sc.runs some_run k.slave.script (suc k.job_place) preparation (then_prepared sc.steps sc.runs k.slave.script k.job_place job k.job_at ls.1) in
            let grown : F.settings ≡ reverse job.list ++ S.settings = ap (λ (x : Standing). x.settings) (standing_next js k.job_place at_first job k.job_at) ∙ list_adds job.task job.list S ls.1 in
            let until : set_until k.slave.script F.resets ≡ reverse S.settings ++ job.list = sym (reverse-reverse (set_until k.slave.script F.resets)) ∙ ap reverse (sym f.settings ∙ grown) ∙ turned_round job.list S.settings in
            let settings : settings_taken (served_at s w id earlier) ≡ reverse (take n job.list) ++ S.settings = settings_now ∙ settings_mains id job m.ms old ls.0 m.mains ∙ ap (λ (x : List Cfg). reverse (take n job.list) ++ x) old_settings in
            let so_far : reverse (settings_taken (served_at s w id earlier)) ≡ reverse S.settings ++ take n job.list = ap reverse settings ∙ turned_round (take n job.list) S.settings in
            let plan : lists_until sc id s.desc F.resets ≡ reverse (settings_taken (served_at s w id earlier)) ++ body ∷ parts.0 =
            sym (lists_of F.resets f.within) ∙ until ∙ ap (λ (x : List Cfg). reverse S.settings ++ x) parts.1 ∙ sym (append_assoc (reverse S.settings) (take n job.list) (body ∷ parts.0)) ∙ ap (λ (x : List Cfg). x ++ body ∷ parts.0) (sym so_far) in
            let home : p.state ≡ Configuration = rests_there g p st kn fresh fine ∙ ap reached_by_turns (list_comes job.task g.entered ls.1 comes) ∙ configuration_rests in
            let taken_it = next_taken s sc id scenario_slave F.resets (settings_taken (served_at s w id earlier)) parts.0 body p plan (set_by s w id (reads sc other) earlier) home in
            none_some (refusal s p (asked_for r)) refused.code (ap (λ (x : Request). refusal s p (asked_for x)) q ∙ taken_it) refused.is

        change_refused : is_by_list job.task ≡ false → ⊥
        change_refused e = by (task_accepted s p job.task job.list n r g.entered e m.slot comes (not_alive fine) (rests_there g p st kn fresh fine) fit)
          where
            by : (refusal s p (asked_for r) ≡ None) ⊎ ((refusal s p (asked_for r) ≡ Some InputsMissing) × (asks_step r ≡ true)) → ⊥
            by (inl h) = none_some (refusal s p (asked_for r)) refused.code h refused.is
            by (inr h) = not_step h.0 h.1 other_cause

        never_refused : ⊥
        never_refused = by r refl
          where
            by : (q : Request) → r ≡ q → ⊥
            by (Configure body) e = setting_refused body e
            by (Change state body) e = change_refused ((change_slot job n state body (m.slot ∙ ap (λ (x : Request). Some x) e)).1).1
            by AskState e = clash (sym (asked_main job n r m.slot) ∙ ap is_main_request e)
            by AskError e = clash (sym (asked_main job n r m.slot) ∙ ap is_main_request e)

      result_open : (is_missing c && asks_step r) ≡ false → Result
      result_open f = by (is_in_error p.state) refl
        where
          by : (b : Bool) → is_in_error p.state ≡ b → Result
          by true e = in_error e
          by false e = absurd (never_refused e f)

    -- before its session it accepts the registration
    registered : ((at (machine s) w id earlier).slave.session ≡ Before) → transport.is_register (asked_for r) ≡ true → ⊥
    registered b h =
        let start : p ≡ start_plant s = (let P : Session → Type 0 = λ z. IsRegularIn s z p in subst P b (regular_at s w id (reads sc other) earlier)) in
        none_some (refusal s p (asked_for r)) refused.code (ap (λ (z : Plant). refusal s z (asked_for r)) start ∙ register_accepted s job.task job.list n r m.slot h) refused.is

    main_result : (is_missing c && asks_step r) ≡ false → Result
    main_result f = by t.taken.takes_it.when
      where
        by : (((at (machine s) w id earlier).slave.session ≡ Before) × (transport.is_register t.taken.takes_it.request.asked ≡ true)) ⊎ (is_open (at (machine s) w id earlier).slave.session ≡ true) → Result
        by (inl z) = absurd (registered z.0 (ap transport.is_register (sym t.asked) ∙ z.1))
        by (inr o) = result_open o f

  pub result : (is_missing c && asks_step r) ≡ false → Result
  result f = by l.kind
    where
      by : ((m : Main job r None (now k.older)) × (m.ms ≡ l.phase)) ⊎ ((q : Question job r None (now k.older)) × (q.qs ++ q.ms ≡ l.phase)) → Result
      by (inl z) = main_result z.0 z.1 f
      by (inr z) = absurd (question_accepted s p r refused.code (z.0).asks refused.is)

pub refused_in_error : RefusedInError
refused_in_error sc other ok log run later sofar front id phase cause reported = by cause reported
  where
    by : (cause : Cause) → (course_at (setup_from sc) sofar).report ≡ Some (reports.Failed id phase cause) → IsOfRefusal sc other sofar id cause
    by (causes.Refused q c) h = two k.mark refl k.why
      where
        k : IsEndedBy (setup_from sc) sofar id phase (causes.Refused q c)
        k = ended sc other ok log run later sofar front id phase (causes.Refused q c) h

        two : (m : Mark) → k.mark ≡ m → BecauseOf (setup_from sc).limits k.job m (marks_of k.older) (m ∷ marks_of k.older) (causes.Refused q c) → IsRefusedInError sc other sofar id c
        two (Answered r a) e b = result sc other ok log run later sofar front id phase (causes.Refused q c) h r c (e ∙ ap (λ (x : Answer). Answered r x) (b.1).0) (b.1).1
        two (Turned settled) e b = absurd b
        two (Begun j) e b = absurd b
        two (Asked r) e b = absurd b
        two Again e b = absurd b
        two Hinted e b = absurd b
        two (Brought n p) e b = absurd b
        two (Ended x) e b = absurd b
    by (causes.Unexpected q y t) h = tt
    by (causes.NoAnswer q) h = tt
    by (causes.InputsMissing q i) h = tt
    by (causes.DataMissing i) h = tt
    by (causes.Stuck q i) h = tt
    by (causes.Faulted q c) h = tt
