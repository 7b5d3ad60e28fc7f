-- No answer of a slave is one that does not fit what was asked.
use Rattle.std.proofs.Common.{◌≡◌, ℕ, ◌+◌, Bool, true, false, ◌⊎◌, inl, inr, Option, Some, None, List, [], ◌∷◌, ◌++◌, reverse, refl, sym, ap, ◌∙◌, subst}
use Rattle.std.specs.Prelude.{◌&&◌, ◌||◌}
use Rattle.std.specs.List.{list_any}
use Rattle.dcp_ends.specs.declared.entries.LogEntry.{LogEntry}
use Rattle.scenario.specs.declared.scenarios.Scenario.{Scenario}
use Rattle.scenario.specs.Sound.{IsScenario}
use Rattle.slave_desc.specs.declared.descriptions.SlaveDesc.{SlaveDesc}
use Rattle.log_spec.specs.Log.{Parties, IsSlaveOf}
use Rattle.log_spec.specs.Log as logs
use Rattle.log_spec.specs.Moves.{decided_exchanges}
use Rattle.slave_spec.specs.declared.words.Asked as words
use Rattle.slave_laws.specs.Model.Tuned.{served_at}
use Rattle.slave_laws.specs.Model.Stages.{SlaveStage, stage_by, FitsStage, AllFitStages}
use Rattle.slave_laws.proofs.Model.Standing.{answers_fit}
use Rattle.master_spec.specs.declared.causes.Cause.{Cause}
use Rattle.master_spec.specs.declared.causes.Cause.TheVariants as causes
use Rattle.master_spec.specs.declared.reports.Report.TheVariants as reports
use Rattle.master_spec.specs.declared.requests.Request.{Request}
use Rattle.master_spec.specs.declared.requests.Request.TheVariants.{AskState}
use Rattle.master_spec.specs.declared.requests.Answer.{Answer}
use Rattle.master_spec.specs.declared.setups.Slave.{Slave}
use Rattle.master_spec.specs.declared.setups.Setup.{Setup}
use Rattle.master_spec.specs.Jobs.{Job}
use Rattle.master_spec.specs.Marks.{Mark, Begun, Asked, Again, Answered, Hinted, Brought, Turned, Ended, count, is_begun, job_of, cause_of, is_reached}
use Rattle.master_spec.specs.Requests.{Asking, Decision, asks, is_state_question, acked}
use Rattle.master_spec.specs.Setup.{setup_from, jobs_of}
use Rattle.master_spec.specs.Shown.{names_target}
use Rattle.master_log_laws.specs.Asking.Legal.{AreLegal}
use Rattle.master_log_laws.specs.Index.Runs.{course_at, IsRun}
use Rattle.master_log_laws.specs.Index.Index.{at, marks_of, askings_told}
use Rattle.master_log_laws.specs.Index.Late.{AreLate}
use Rattle.master_log_laws.proofs.Index.ByEntry.{entry_by_entry}
use Rattle.master_log_laws.proofs.Scenarios.Heard.{setups_heard}
use Rattle.master_log_laws.specs.Failures.Because.{BecauseOf, fits_mark}
use Rattle.master_laws.specs.Meets.Laws.{IsParty}
use Rattle.master_laws.specs.Hears.Laws.{AreDecisions}
use Rattle.master_laws.proofs.Hears.Decided.{decisions}
use Rattle.master_log_laws.proofs.Phases.Now.{now, past}
use Rattle.master_log_laws.proofs.Phases.Mains.{is_main_request, asked_main}
use Rattle.master_log_laws.proofs.Phases.Counts.{names_it, reached_now}
use Rattle.master_log_laws.proofs.Phases.Stage.{Main, Question}
use Rattle.master_laws.proofs.PlanOrder.Hearing.{asked_for}
use Rattle.master_laws.proofs.PlanOrder.Requests.{AllAsk, all_ask}
use Rattle.run_laws.specs.Laws.{parties, slave_setup_of, IsRunOf}
use Rattle.run_laws.proofs.Runs.{are_parties}
use Rattle.run_laws.proofs.Headline.Moments.{served_always}
use Rattle.completeness_laws.specs.AnswerCauses.{IsExpected, NeverUnexpected}
use Rattle.completeness_laws.proofs.Causes.Told.{stage_of, staged}
use Rattle.completeness_laws.proofs.Causes.Homes.{ComesTo, ask_left, full}
use Rattle.completeness_laws.proofs.Causes.Past.{StandsAt, stands_past, comes_to}
use Rattle.completeness_laws.proofs.Causes.Ended.{IsEndedBy, ended_by, IsEndedByAnswer, ended_by_answer}
use Rattle.completeness_laws.proofs.Causes.Exchanges.{IsNewestExchange, newest_exchange, fit_end, IsAskedIn, answer_fits}

and_false : (b : Bool) → (b && false) ≡ false
and_false true = refl
and_false false = refl

pub run_front : (setup : Setup) (later sofar : List LogEntry) → IsRun setup (later ++ sofar) → IsRun setup sofar
run_front setup [] sofar r = r
run_front setup (e ∷ later) sofar r = run_front setup later sofar r.1

-- the newest answer of the reported slave, as the slave has it
pub record IsLastAnswer (sc : Scenario) (other : SlaveDesc) (sofar : List LogEntry) (id : ℕ) (r : Request) (a : Answer) (older : List Asking) : Type 0 where
  pub is : IsSlaveOf (parties sc other) id
  pub more : List logs.DecidedRequest
  pub exchange : IsNewestExchange id r a older (decided_exchanges (parties sc other) id sofar)
  pub served : served_at (slave_setup_of sc other id) (parties sc other) id sofar ≡ more ++ (exchange.newest ∷ exchange.others)
  pub staged_is : stage_by exchange.others ≡ stage_of id older
  pub fits : FitsStage (Some (asked_for r)) (stage_of id older) exchange.newest.answer

module _ (sc : Scenario) (other : SlaveDesc) (ok : IsScenario sc) (log : List LogEntry) (run : IsRunOf sc other log) (later sofar : List LogEntry) (front : reverse log ≡ later ++ sofar) where
  abbrev w : Parties
  w = parties sc other

  abbrev setup : Setup
  setup = setup_from sc

  pub is_run : IsRun setup sofar
  is_run = let P : List LogEntry → Type 0 = IsRun setup in run_front setup later sofar (subst P front (entry_by_entry sc log run.master))

  module _ (id phase : ℕ) (cause : Cause) (reported : (course_at setup sofar).report ≡ Some (reports.Failed id phase cause)) where
    pub ended : IsEndedBy setup sofar id phase cause
    ended = ended_by setup (setups_heard sc ok) sofar is_run id phase cause reported

    abbrev slave : Slave
    slave = ended.slave

    is_party : IsSlaveOf w id × IsParty setup w id slave
    is_party =
        let P : ℕ → Type 0 = λ s. IsSlaveOf w s × IsParty setup w s slave in
        subst P ended.id_is ((are_parties sc other ok).all slave (ended.place, ended.here))

    -- where it ended with an answer
    module _ (r : Request) (a : Answer) (m : ended.mark ≡ Answered r a) where
      pub legal : AreLegal setup.limits (jobs_of setup slave) (Answered r a ∷ marks_of ended.older)
      legal = let P : Mark → Type 0 = λ x. AreLegal setup.limits (jobs_of setup slave) (x ∷ marks_of ended.older) in subst P m ended.legal

      pub job_is : job_of (marks_of ended.older) ≡ Some ended.job
      job_is = let P : Mark → Type 0 = λ x. job_of (x ∷ marks_of ended.older) ≡ Some ended.job in subst P m ended.job_is

      pub begun : count is_begun (marks_of ended.older) ≡ ended.job_place + 1
      begun = let P : Mark → Type 0 = λ x. count is_begun (x ∷ marks_of ended.older) ≡ ended.job_place + 1 in subst P m ended.begun

      pub last : IsEndedByAnswer setup sofar slave ended.job ended.older r a
      last =
          let P : Mark → Type 0 = λ x. cause_of (x ∷ marks_of ended.older) ≡ None in
          let Q : Mark → Type 0 = λ x. AreLate ended.since (asks setup.address slave sofar) (askings_told (at ended.at_entry x ∷ ended.older)) in
          ended_by_answer setup sofar slave ended.job ended.at_entry ended.since ended.older r a legal job_is (subst P m ended.none) (subst Q m ended.late)

      pub last_answer : IsLastAnswer sc other sofar id r a (last.phase ++ askings_told (past ended.older))
      last_answer =
          let P : List Asking → Type 0 = λ bs. AreDecisions id bs (decided_exchanges w id sofar) in
          let told = subst P last.is (decisions setup (setups_heard sc ok).heard w (are_parties sc other ok) id is_party.0 slave is_party.1 sofar is_run) in
          let e = newest_exchange id r a last.newest (last.phase ++ askings_told (past ended.older)) (decided_exchanges w id sofar) last.of last.decided told in
          let served = served_always sc other ok log run later sofar front id is_party.0 in
          let whole = served.1 ∙ ap (λ (ds : List logs.DecidedRequest). served.0 ++ ds) e.is in
          let Q : List logs.DecidedRequest → Type 0 = AllFitStages in
          let all = fit_end served.0 (e.newest ∷ e.others) (subst Q whole (answers_fit (slave_setup_of sc other id) w id (λ b. refl) sofar)) in
          let g = staged id (last.phase ++ askings_told (past ended.older)) e.others e.told in
          let R : SlaveStage → Type 0 = λ x. FitsStage (Some (asked_for r)) x e.newest.answer in
          let S : Option words.Asked → Type 0 = λ o. FitsStage o (stage_by e.others) e.newest.answer in
          record { is = is_party.0; more = served.0; exchange = e; served = whole; staged_is = g; fits = subst R g (subst S e.asked all.0) }

      -- a phase finds the slave where the one before has led it
      pub stands : StandsAt (jobs_of setup slave) ended.job_place (stage_of id (askings_told (past ended.older)))
      stands = stands_past sc.steps sc.runs slave.script setup.limits id ended.older legal.1 ended.job_place begun

      pub comes : ComesTo ended.job (stage_of id (askings_told (past ended.older)))
      comes = comes_to sc.steps sc.runs slave.script ended.job_place ended.job (stage_of id (askings_told (past ended.older))) ended.job_at stands

      -- a question finds it where its task has led it
      pub asked_in_task : r ≡ AskState → IsAskedIn ended.job.task (is_reached ended.job.task (marks_of ended.older)) (stage_of id (last.phase ++ askings_told (past ended.older)))
      asked_in_task q = by last.kind
        where
          job : Job
          job = ended.job

          old : List Asking
          old = askings_told (past ended.older)

          by : ((k : Main job r None (now ended.older)) × (k.ms ≡ last.phase)) ⊎ ((k : Question job r None (now ended.older)) × (k.qs ++ k.ms ≡ last.phase)) → IsAskedIn job.task (is_reached job.task (marks_of ended.older)) (stage_of id (last.phase ++ old))
          by (inl k) = let z : true ≡ false = sym (asked_main job (acked (k.0).ms) r (k.0).slot) ∙ ap is_main_request q in absurd cc
          by (inr k) =
              let u : Question job r None (now ended.older) = k.0 in
              let P : List Asking → Type 0 = AllAsk job in
              let all = (subst P u.is (all_ask setup.limits (jobs_of setup slave) ended.older legal.1 job job_is)).1 in
              let f = full id job u.qs u.ms old (ask_left job u.qs u.ms all) u.questions u.mains u.whole comes in
              let names : is_reached job.task (marks_of ended.older) ≡ list_any (names_it job.task) (u.qs ++ u.ms) =
              reached_now job.task setup.limits (jobs_of setup slave) ended.older legal.1
              ∙ ap (list_any (names_it job.task)) u.is
              ∙ ap (λ (o : Option Decision). (is_state_question u.newest && names_target job.task o) || list_any (names_it job.task) (u.qs ++ u.ms)) u.decided
              ∙ ap (λ (b : Bool). b || list_any (names_it job.task) (u.qs ++ u.ms)) (and_false (is_state_question u.newest)) in
              let Q : List Asking → Type 0 = λ ys. IsAskedIn job.task (is_reached job.task (marks_of ended.older)) (stage_of id (ys ++ old)) in
              subst Q k.1 (record { entered = f.entered; rested = λ e n. f.rested e (sym names ∙ n) })

      pub answer_fits_mark : fits_mark ended.job.task (is_reached ended.job.task (marks_of ended.older)) r a ≡ true
      answer_fits_mark =
          let k = last_answer in
          answer_fits id ended.job.task (is_reached ended.job.task (marks_of ended.older)) (stage_of id (last.phase ++ askings_told (past ended.older))) r k.exchange.newest.answer a k.fits k.exchange.heard asked_in_task

clash : true ≡ false → ⊥
clash z = cc

pub never_unexpected : NeverUnexpected
never_unexpected sc other ok log run later sofar front id phase cause reported = by cause reported
  where
    by : (cause : Cause) → (course_at (setup_from sc) sofar).report ≡ Some (reports.Failed id phase cause) → IsExpected cause
    by (causes.Unexpected q y t) h = two k.mark refl k.why
      where
        k : IsEndedBy (setup_from sc) sofar id phase (causes.Unexpected q y t)
        k = ended sc other ok log run later sofar front id phase (causes.Unexpected q y t) h

        two : (m : Mark) → k.mark ≡ m → BecauseOf (setup_from sc).limits k.job m (marks_of k.older) (m ∷ marks_of k.older) (causes.Unexpected q y t) → ⊥
        two (Answered r a) e b = clash (sym (answer_fits_mark sc other ok log run later sofar front id phase (causes.Unexpected q y t) h r a e) ∙ ((b.1).1).1)
        two (Turned settled) e b = b
        two (Begun j) e b = b
        two (Asked r) e b = b
        two Again e b = b
        two Hinted e b = b
        two (Brought n p) e b = b
        two (Ended c) e b = b
    by (causes.NoAnswer q) h = tt
    by (causes.Refused q c) h = tt
    by (causes.InputsMissing q i) h = tt
    by (causes.DataMissing i) h = tt
    by (causes.Stuck q i) h = tt
    by (causes.Faulted q c) h = tt
