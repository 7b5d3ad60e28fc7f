-- A slave before the reported one has passed the phase.
use Rattle.std.proofs.Common.{◌≡◌, ℕ, suc, ◌+◌, ◌-◌, ◌<◌, Bool, true, false, inr, Option, Some, None, List, [], ◌∷◌, ◌++◌, reverse, refl, sym, ap, ◌∙◌, arith}
use Rattle.std.specs.Prelude.{◌&&◌, not, is_some, slice_get}
use Rattle.dcp_ends.specs.declared.entries.LogEntry.{LogEntry}
use Rattle.scenario.specs.declared.scenarios.Scenario.{Scenario}
use Rattle.scenario.specs.Sound.{IsScenario}
use Rattle.slave_desc.specs.declared.descriptions.SlaveDesc.{SlaveDesc}
use Rattle.pdu_layout.specs.Fields.{FieldValue}
use Rattle.pdu_layout.specs.declared.messages.Cfg.{Cfg}
use Rattle.log_spec.specs.Log.{Parties, IsSlaveOf}
use Rattle.log_spec.specs.Moves.{decided_exchanges}
use Rattle.lockstep_laws.specs.Steps.{Show, view}
use Rattle.lockstep_laws.specs.Models.Scenarios.{slave_numbered}
use Rattle.slave_spec.specs.declared.words.Asked.{Asked}
use Rattle.plan_laws.specs.Course.Taken.{settings_taken, told_since, same_settings}
use Rattle.plan_laws.specs.Course.Courses.{tuned, opened}
use Rattle.plan_laws.specs.Runs.{lists_until}
use Rattle.master_spec.specs.declared.causes.Cause.{Cause}
use Rattle.master_spec.specs.declared.causes.Verdict.{Verdict}
use Rattle.master_spec.specs.declared.causes.Verdict.TheVariants as verdicts
use Rattle.master_spec.specs.declared.reports.Report.TheVariants as reports
use Rattle.master_spec.specs.declared.requests.Request.{Request}
use Rattle.master_spec.specs.declared.setups.Slave.{Slave}
use Rattle.master_spec.specs.declared.setups.Setup.{Setup}
use Rattle.master_spec.specs.declared.tasks.Task.{Task}
use Rattle.master_spec.specs.declared.tasks.Task.TheVariants as tasks
use Rattle.master_spec.specs.Course.{is_quiet, is_settled_as, is_passed_as}
use Rattle.master_spec.specs.Jobs.{Job}
use Rattle.master_spec.specs.Marks.{Begun, count, is_begun, open_request, verdict_of}
use Rattle.master_spec.specs.Requests.{Asking, Decision, asks}
use Rattle.master_spec.specs.Setup.{setup_from, jobs_of, slave_of}
use Rattle.master_log_laws.specs.Asking.Legal.{Rests, AreLegal, GoesByRule, BeginsJob}
use Rattle.master_log_laws.proofs.Asking.Legal.{going}
use Rattle.master_log_laws.specs.Index.Runs.{events_of_master, course_at, IsRun}
use Rattle.master_log_laws.specs.Index.Index.{Placed, at, marks_of, askings_told, ReadBack}
use Rattle.master_log_laws.specs.Index.Follows.{talk_with}
use Rattle.master_log_laws.specs.Index.Late.{AreLate}
use Rattle.master_log_laws.proofs.Index.Late.{all_report}
use Rattle.master_log_laws.proofs.Index.Laws.{listens}
use Rattle.master_log_laws.proofs.Index.Reported.{all_get, reported}
use Rattle.master_log_laws.proofs.Index.Runs.{with_at}
use Rattle.master_log_laws.proofs.Scenarios.Heard.{setups_heard}
use Rattle.master_log_laws.specs.Phases.Laws.{AreDecided}
use Rattle.master_log_laws.proofs.Phases.Numbered.{ordered}
use Rattle.master_laws.specs.Meets.Laws.{IsParty}
use Rattle.master_laws.proofs.Hears.Decided.{decisions}
use Rattle.master_laws.specs.Barrier.Laws.{events_before}
use Rattle.master_laws.proofs.Barrier.Standing.{passed_done}
use Rattle.master_laws.proofs.PlanOrder.Hearing.{asked_of}
use Rattle.master_laws.proofs.PlanOrder.Taken.{settings_by, settings_with, ready_by, ready_with, AreTaken, taken}
use Rattle.master_laws.proofs.PlanOrder.Standing.{Standing, at_first, standing, standing_next, after_task, after_job, IsReady, kind_of, AreAlike, alike_at, SameClock, same_clock}
use Rattle.master_laws.proofs.PlanOrder.Planned.{jobs_alike}
use Rattle.master_laws.proofs.PlanOrder.Phases.{Agrees, agrees_past}
use Rattle.master_laws.proofs.PlanOrder.Asking.{finds, InPhase, in_phase}
use Rattle.master_laws.proofs.PlanOrder.Lists.{all_same, lists_are}
use Rattle.run_laws.specs.Laws.{parties, IsRunOf}
use Rattle.run_laws.proofs.Runs.{party, are_parties}
use Rattle.master_log_laws.specs.Failures.Laws.{IsSetup}
use Rattle.completeness_laws.proofs.Causes.Ended.{IsEndedBy}
use Rattle.completeness_laws.proofs.Causes.Unexpected.{is_run, ended}
use Rattle.completeness_laws.proofs.Causes.Places.{events_are_before}
use Rattle.completeness_laws.proofs.Causes.First.{first_outputs, then_outputs}

clash : {A : Type 0} → true ≡ false → A
clash e = absurd cc

both : (a b : Bool) → a ≡ true → b ≡ true → (a && b) ≡ true
both a b e f = ap (λ (x : Bool). x && b) e ∙ f

-- a quiet conversation that has not ended has passed, and no request is open in it
passed_quiet : (v : Verdict) (o : Option Request) → (is_settled_as v && not (is_passed_as v && is_some o)) ≡ true → ((c : Cause) → v ≡ verdicts.Ended c → ⊥) → (v ≡ verdicts.Passed) × (o ≡ None)
passed_quiet verdicts.Passed None q n = (refl, refl)
passed_quiet verdicts.Passed (Some r) q n = absurd cc
passed_quiet verdicts.Going o q n = absurd cc
passed_quiet (verdicts.Ended c) o q n = absurd (n c refl)

-- ---- what the requests tell is the same once all are decided
asked_same : (id n : ℕ) (cs bs : List Asking) (c b : Asking) → AreLate n (c ∷ cs) (b ∷ bs) → asked_of id c ≡ asked_of id b
asked_same id n cs bs c b l =
    ap (λ (x : ℕ). asked_of id (record c { code = x })) (l.0).code
    ∙ ap (λ (x : ℕ). asked_of id (record c { code = b.code; number = x })) (l.0).number
    ∙ ap (λ (x : List FieldValue). asked_of id (record c { code = b.code; number = b.number; more = x })) (l.0).more

same_told : (id n : ℕ) (cs bs : List Asking) → AreLate n cs bs → AreDecided bs → (settings_by id cs ≡ settings_by id bs) × (ready_by id cs ≡ ready_by id bs)
same_told id n [] [] l d = (refl, refl)
same_told id n [] (b ∷ bs) l d = absurd l
same_told id n (c ∷ cs) [] l d = absurd l
same_told id n (c ∷ cs) (b ∷ bs) l d =
    let a = asked_same id n cs bs c b l in
    let o = by b.decision refl d.0 in (
      ap (λ (x : Option Asked). settings_with x c.decision (settings_by id cs)) a ∙ ap (λ (x : Option Decision). settings_with (asked_of id b) x (settings_by id cs)) o ∙ ap (λ (zs : List Asking). settings_with (asked_of id b) b.decision (settings_by id zs)) l.1,
      ap (λ (x : Option Asked). ready_with x c.decision (ready_by id cs)) a ∙ ap (λ (x : Option Decision). ready_with (asked_of id b) x (ready_by id cs)) o ∙ ap (λ (zs : List Asking). ready_with (asked_of id b) b.decision (ready_by id zs)) l.1,
    )
  where
    by : (o : Option Decision) → b.decision ≡ o → is_some o ≡ true → c.decision ≡ b.decision
    by None e h = absurd cc
    by (Some d) e h = (l.0).kept d e ∙ sym e

is_initialize : (task : Task) → kind_of task ≡ tasks.Initialize → task ≡ tasks.Initialize
is_initialize tasks.Initialize e = refl
is_initialize (tasks.Register uuid) e = absurd cc
is_initialize tasks.Setup e = absurd cc
is_initialize tasks.Prepare e = absurd cc
is_initialize tasks.Configure e = absurd cc
is_initialize (tasks.FirstOutputs row) e = absurd cc
is_initialize tasks.Run e = absurd cc
is_initialize (tasks.Step i) e = absurd cc
is_initialize (tasks.Outputs i row) e = absurd cc
is_initialize tasks.Stop e = absurd cc
is_initialize tasks.Reset e = absurd cc
is_initialize tasks.Adjust e = absurd cc
is_initialize tasks.Deregister e = absurd cc

-- the conversation of a slave before the reported one
pub record IsBefore (sc : Scenario) (sofar : List LogEntry) (slave : Slave) (f : ℕ) : Type 0 where
  pub xs : List Placed
  pub legal : AreLegal (setup_from sc).limits (jobs_of (setup_from sc) slave) (marks_of xs)
  pub rests : Rests (setup_from sc).limits (marks_of xs)
  pub begun : count is_begun (marks_of xs) ≡ f + 1
  pub passed : verdict_of (marks_of xs) ≡ verdicts.Passed
  pub free : open_request (marks_of xs) ≡ None
  pub until : ℕ
  pub late : AreLate until (asks (setup_from sc).address slave sofar) (askings_told xs)
  pub place : ℕ
  pub in_setup : slice_get (setup_from sc).slaves place ≡ Some slave
  pub here : slice_get (course_at (setup_from sc) sofar).talks place ≡ Some (talk_with slave (marks_of xs))

module _ (sc : Scenario) (other : SlaveDesc) (ok : IsScenario sc) (log : List LogEntry) (run : IsRunOf sc other log) (later sofar : List LogEntry) (front : reverse log ≡ later ++ sofar) (id phase : ℕ) (cause : Cause)
    (reported_is : (course_at (setup_from sc) sofar).report ≡ Some (reports.Failed id phase cause)) where
  abbrev k : IsEndedBy (setup_from sc) sofar id phase cause
  k = ended sc other ok log run later sofar front id phase cause reported_is

  abbrev setup : Setup
  setup = setup_from sc

  abbrev w : Parties
  w = parties sc other

  h : IsSetup setup
  h = setups_heard sc ok

  run_is : IsRun setup sofar
  run_is = is_run sc other ok log run later sofar front

  phase_now : (course_at setup sofar).phase ≡ k.job_place + 1
  phase_now = k.course_phase ∙ k.phase_is

  module _ (t : ℕ) (it : IsSlaveOf w t) (less : t < id) where
    abbrev d : SlaveDesc
    d = slave_numbered sc other t

    abbrev slave : Slave
    slave = slave_of sc t d

    abbrev js : List Job
    js = jobs_of setup slave

    p : IsParty setup w t slave
    p = party sc other ok t it

    before : (p.is_in).0 < k.place
    before =
        let a : t ≡ (p.is_in).0 + 1 = h.numbered (p.is_in).0 slave (p.is_in).1 in
        let b : id ≡ k.place + 1 = sym k.id_is ∙ h.numbered k.place k.slave k.here in
        omega (arith, a, b, less)

    pub is_before : IsBefore sc sofar slave k.job_place
    is_before =
        let j = (p.is_in).0 in
        let c = course_at setup sofar in
        let s = (reported setup (ReadBack slave.id) j slave (listens setup h.heard j slave (p.is_in).1) (h.heard).runs sofar run_is (reports.Failed id phase cause) reported_is).0 in
        let g = with_at (λ u m. GoesByRule setup.limits (jobs_of setup u) c.phase m) c.talks j (talk_with slave (marks_of s.xs)) (going setup (h.heard).runs (events_of_master setup sofar)).goes s.here in
        let q = all_get is_quiet c.talks j (talk_with slave (marks_of s.xs)) (all_report setup (events_of_master setup sofar) (reports.Failed id phase cause) reported_is).0 s.here in
        let v = passed_quiet (verdict_of (marks_of s.xs)) (open_request (marks_of s.xs)) q (λ e z. k.first j (talk_with slave (marks_of s.xs)) e before s.here z) in
        record { xs = s.xs; legal = g.legal; rests = g.rests; begun = g.phase_is ∙ phase_now; passed = v.0; free = v.1; until = s.until; late = s.late; place = j; in_setup = (p.is_in).1; here = s.here }

    alike : AreAlike js (jobs_of setup k.slave)
    alike = jobs_alike sc.steps sc.runs slave.script k.slave.script

    clock : (q : ℕ) → SameClock (standing js q at_first) (standing (jobs_of setup k.slave) q at_first)
    clock q = same_clock js (jobs_of setup k.slave) q at_first at_first alike (record { resets = refl; events = refl })

    abbrev S : Standing
    S = standing (jobs_of setup k.slave) k.job_place at_first

    next_is : standing (jobs_of setup k.slave) (suc k.job_place) at_first ≡ after_job k.job S
    next_is = standing_next (jobs_of setup k.slave) k.job_place at_first k.job k.job_at

    -- its row events are done
    pub events_done : (view (decided_exchanges w t sofar)).done ≡ (after_job k.job S).events
    events_done =
        let b = is_before in
        let v = passed_done setup h.heard w (are_parties sc other ok) sofar run_is t it slave p k.job_place phase_now b.place (marks_of b.xs) b.in_setup b.here b.passed in
        let one : k.job_place + 1 ≡ suc k.job_place = omega arith in
        let e : events_before js (suc k.job_place) ≡ (standing js (suc k.job_place) at_first).events = (let z = events_are_before js (suc k.job_place) at_first in omega (arith, z)) in
        ap (λ x. x.done) v ∙ ap (events_before js) one ∙ e ∙ (clock (suc k.job_place)).events ∙ ap (λ (x : Standing). x.events) next_is

    -- where all are initialized it is opened for the run
    module _ (first : k.job.task ≡ tasks.Initialize) where
      phase_of : InPhase js k.job_place is_before.xs t
      phase_of = in_phase setup.limits js t is_before.xs is_before.legal k.job_place is_before.begun

      own_first : (phase_of.job).task ≡ tasks.Initialize
      own_first = is_initialize (phase_of.job).task (alike_at js (jobs_of setup k.slave) k.job_place phase_of.job k.job alike phase_of.job_at k.job_at ∙ ap kind_of first)

      row_next : (row : ℕ) × (slice_get js (suc k.job_place) ≡ Some (first_outputs row))
      row_next = then_outputs sc.steps sc.runs slave.script k.job_place phase_of.job phase_of.job_at own_first

      abbrev T : Standing
      T = standing js (suc k.job_place) at_first

      agrees : Agrees t (askings_told is_before.xs) T
      agrees =
          let b = is_before in
          let n = b.begun in
          let one : suc k.job_place ≡ count is_begun (marks_of b.xs) = omega (arith, n) in
          let begins : BeginsJob js (first_outputs row_next.0) (marks_of b.xs) = record { job_is = ap (slice_get js) (sym one) ∙ row_next.1; free = b.free; passed = inr b.passed } in
          agrees_past setup.limits js t (at 0 (Begun (first_outputs row_next.0)) ∷ b.xs) ((b.rests, begins), b.legal) (suc k.job_place) (omega (arith, n))

      ready : IsReady sc.steps sc.runs slave.script Show T
      ready = finds sc.steps sc.runs (h.heard).runs slave.script (suc k.job_place) (first_outputs row_next.0) row_next.1

      pub opened_there : (m : ℕ) → S.resets ≡ m → opened sc t d (m + 1) (decided_exchanges w t sofar) ≡ true
      opened_there m r =
          let b = is_before in
          let ds = decided_exchanges w t sofar in
          let bs = asks setup.address slave sofar in
          let told : AreTaken t bs ds = taken t bs ds (decisions setup h.heard w (are_parties sc other ok) t it slave p sofar run_is) in
          let same = same_told t b.until bs (askings_told b.xs) b.late ((ordered setup.limits js b.xs b.legal).decided b.free) in
          let resets : T.resets ≡ m = (clock (suc k.job_place)).resets ∙ ap (λ (x : Standing). x.resets) next_is ∙ ap (λ (x : Task). (after_task x k.job.list S).resets) first ∙ r in
          let within = ready.set.within in
          let run_back : T.resets ≡ m + 1 - 1 = omega (arith, resets) in
          let settings : settings_taken ds ≡ reverse (lists_until sc t d (m + 1 - 1)) = told.settings ∙ same.0 ∙ agrees.settings ∙ ready.set.settings ∙ ap reverse (lists_are sc t d T.resets within) ∙ ap (λ (n : ℕ). reverse (lists_until sc t d n)) run_back in
          both (tuned sc t d (m + 1) ds) (told_since ds)
          (ap (λ (l : List Cfg). same_settings l (reverse (lists_until sc t d (m + 1 - 1)))) settings ∙ all_same (reverse (lists_until sc t d (m + 1 - 1))))
          (told.ready ∙ same.1 ∙ agrees.ready ∙ ready.ready)
