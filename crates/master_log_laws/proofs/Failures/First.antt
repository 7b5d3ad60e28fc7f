-- A failed run names the first slave that the log shows to have ended.
use Rattle.std.proofs.Common.{◌≡◌, ℕ, zero, suc, ◌+◌, ◌-◌, ◌<◌, ◌≤◌, Bool, true, false, ◌⊎◌, inl, inr, Option, Some, None, List, [], ◌∷◌, ◌++◌, refl, sym, ap, ◌∙◌, subst, arith}
use Rattle.std.specs.Prelude.{◌&&◌, ◌||◌, not, is_some, slice_get}
use Rattle.std.specs.List.{list_any, list_all}
use Rattle.std.proofs.Math.Nat.{le-max_left, le-max_right, max-le}
use Rattle.std.proofs.lemmas.Bool.{and_parts, cases_lt}
use Rattle.dcp_ends.specs.declared.entries.LogEntry.{LogEntry}
use Rattle.master_spec.specs.declared.causes.Cause.{Cause}
use Rattle.master_spec.specs.declared.causes.Cause.TheVariants as causes
use Rattle.master_spec.specs.declared.causes.Verdict.{Verdict}
use Rattle.master_spec.specs.declared.causes.Verdict.TheVariants as verdicts
use Rattle.master_spec.specs.declared.reports.Report.{Report}
use Rattle.master_spec.specs.declared.reports.Report.TheVariants as reports
use Rattle.master_spec.specs.declared.requests.Request.{Request}
use Rattle.master_spec.specs.declared.requests.Request.TheVariants.{AskState}
use Rattle.master_spec.specs.declared.requests.Answer.TheVariants.{StateAck}
use Rattle.master_spec.specs.declared.requests.Latest.{Latest}
use Rattle.master_spec.specs.declared.requests.Latest.TheVariants as latests
use Rattle.master_spec.specs.declared.reactions.Reaction.TheVariants.{Wait, GiveUp}
use Rattle.master_spec.specs.declared.tasks.Task.{Task}
use Rattle.master_spec.specs.declared.setups.Slave.{Slave}
use Rattle.master_spec.specs.declared.setups.Setup.{Setup}
use Rattle.master_spec.specs.Setup.{jobs_of}
use Rattle.master_spec.specs.Jobs.{Job}
use Rattle.master_spec.specs.Marks.{Mark, Begun, Asked, Again, Answered, Hinted, Brought, Turned, Ended, count, is_begun, newest_number, latest, open_request, is_reached, job_of, cause_of, verdict_of}
use Rattle.master_spec.specs.Conversation.{reaction}
use Rattle.master_spec.specs.Course.{CourseTalk, Course, is_settled_as, is_passed_as, is_quiet, failed_by, failed}
use Rattle.master_spec.specs.Requests.{Asking, asks, is_state_question, phase_reached, of_phase}
use Rattle.master_spec.specs.Exchanged.{Brings}
use Rattle.master_spec.specs.Shown.{last_phase_of, last_phase, names_target, ShownBy, Shown}
use Rattle.master_log_laws.specs.Asking.Closed.{AllTalks}
use Rattle.master_log_laws.specs.Asking.Legal.{Does, Rests, AreLegal, GoesByRule}
use Rattle.master_log_laws.proofs.Asking.Legal.{going}
use Rattle.master_log_laws.specs.Index.Runs.{events_of_master, course_at, IsRun}
use Rattle.master_log_laws.specs.Index.Index.{Placed, at, marks_of, askings_told, ReadBack}
use Rattle.master_log_laws.specs.Index.Follows.{talk_with}
use Rattle.master_log_laws.specs.Index.Late.{AreLate, StandsByLog}
use Rattle.master_log_laws.specs.Index.Dates.{next_place, AreDated, IsBroughtAt}
use Rattle.master_log_laws.proofs.Index.Late.{late_trans, all_report}
use Rattle.master_log_laws.proofs.Index.Laws.{listens}
use Rattle.master_log_laws.proofs.Index.Reported.{reported, ended_cause, quiet_open, all_get}
use Rattle.master_log_laws.proofs.Index.Runs.{slaves_at, talks_of, with_at, all_at}
use Rattle.master_log_laws.proofs.Phases.Now.{now, past, Linked, linked, open_latest, split}
use Rattle.master_log_laws.proofs.Phases.Counts.{names_it, reached_now}
use Rattle.master_log_laws.proofs.Phases.Stage.{Main, Question, Stage, main_decided, question_decided, idling, main_open, question_open, trying, mains_done, state_told}
use Rattle.master_log_laws.proofs.Phases.Stages.{open_stage, stage}
use Rattle.master_log_laws.proofs.Phases.Tags.{counted, job_phase, HasPassed, verdict_passed, AtMost, Exactly, at_most, past_at_most, exactly_now, reached_at_most, reached_exactly, has_main}
use Rattle.master_log_laws.proofs.Phases.Someone.{has_asked, has_asked_now, IsIdle, Someone, present}
use Rattle.master_log_laws.specs.Failures.Because.{BecauseOf}
use Rattle.master_log_laws.specs.Failures.Laws.{IsSetup, FailedIsFirstOf}
use Rattle.master_log_laws.proofs.Failures.Because.{because}
use Rattle.master_log_laws.proofs.Failures.Ends.{does_none, Finds, find_end}
use Rattle.master_log_laws.proofs.Failures.Lasts.{Lasts, lasts, reached_late, number_at}
use Rattle.master_log_laws.proofs.Failures.Answers.{main_shown, question_shown}
use Rattle.master_log_laws.proofs.Failures.Silences.{unanswered}
use Rattle.master_log_laws.proofs.Failures.Missing.{outputs_latest, misses_outputs}
use Rattle.master_log_laws.proofs.Failures.Calm.{Calm, calm_shows}
use Rattle.master_log_laws.proofs.Failures.Passed.{calm_of}
use Rattle.master_log_laws.proofs.Failures.Steady.{IsNext, steady}

-- ---- the reported slave is the first that has ended
pub record Ends (phase : ℕ) (talks : List CourseTalk) (id p : ℕ) (cause : Cause) : Type 0 where
  pub i : ℕ
  pub talk : CourseTalk
  pub here : slice_get talks i ≡ Some talk
  pub id_is : talk.slave.id ≡ id
  pub phase_is : phase ≡ p
  pub ended : verdict_of talk.marks ≡ verdicts.Ended cause
  pub first : (j : ℕ) (v : CourseTalk) (c : Cause) → j < i → slice_get talks j ≡ Some v → verdict_of v.marks ≡ verdicts.Ended c → ⊥

later_end : (phase : ℕ) (u : CourseTalk) (us : List CourseTalk) (id p : ℕ) (cause : Cause) → ((c : Cause) → verdict_of u.marks ≡ verdicts.Ended c → ⊥) → Ends phase us id p cause → Ends phase (u ∷ us) id p cause
later_end phase u us id p cause none e = record { i = suc e.i; talk = e.talk; here = e.here; id_is = e.id_is; phase_is = e.phase_is; ended = e.ended; first = before }
  where
    before : (j : ℕ) (v : CourseTalk) (c : Cause) → j < suc e.i → slice_get (u ∷ us) j ≡ Some v → verdict_of v.marks ≡ verdicts.Ended c → ⊥
    before zero v c l h z = let y : u ≡ v = cc in none c (ap (λ (x : CourseTalk). verdict_of x.marks) y ∙ z)
    before (suc j) v c l h z = e.first j v c (omega (arith, l)) h z

pub ends : (phase : ℕ) (talks : List CourseTalk) (id p : ℕ) (cause : Cause) → failed phase talks ≡ Some (reports.Failed id p cause) → Ends phase talks id p cause
ends phase [] id p cause h = absurd cc
ends phase (u ∷ us) id p cause h = by (verdict_of u.marks) refl h (λ z. ends phase us id p cause z)
  where
    by : (v : Verdict) → verdict_of u.marks ≡ v → failed_by phase u.slave v (failed phase us) ≡ Some (reports.Failed id p cause) → (failed phase us ≡ Some (reports.Failed id p cause) → Ends phase us id p cause) → Ends phase (u ∷ us) id p cause
    by (verdicts.Ended c) e z f =
        let a : u.slave.id ≡ id = cc in
        let b : phase ≡ p = cc in
        let d : c ≡ cause = cc in
        record { i = 0; talk = u; here = refl; id_is = a; phase_is = b; ended = e ∙ ap (λ (x : Cause). verdicts.Ended x) d; first = λ j v k l y w. absurd (omega (arith, l)) }
    by verdicts.Passed e z f = later_end phase u us id p cause (λ c y. clash c (sym e ∙ y)) (f z)
      where
        clash : (c : Cause) → verdicts.Passed ≡ verdicts.Ended c → ⊥
        clash c y = cc
    by verdicts.Going e z f = later_end phase u us id p cause (λ c y. clash c (sym e ∙ y)) (f z)
      where
        clash : (c : Cause) → verdicts.Going ≡ verdicts.Ended c → ⊥
        clash c y = cc

-- ---- where each slave stands at the report
late_less : (n m : ℕ) (cs bs : List Asking) → m ≤ n → AreLate n cs bs → AreLate m cs bs
late_less n m [] [] h l = tt
late_less n m [] (b ∷ bs) h l = l
late_less n m (c ∷ cs) [] h l = l
late_less n m (c ∷ cs) (b ∷ bs) h l =
    let k = l.0 in
    (record { code = k.code; number = k.number; more = k.more; first = k.first; repeats = k.repeats; kept = k.kept; come = λ d e. by (k.come d e) }, l.1)
  where
    by : {d : _} → (b.decision ≡ Some d) ⊎ (n ≤ d.place) → (b.decision ≡ Some d) ⊎ (m ≤ d.place)
    by (inl e) = inl e
    by (inr e) = inr (omega (arith, e, h))

pub record Placing (setup : Setup) (log : List LogEntry) (slave : Slave) (j : ℕ) : Type 0 where
  pub stands : StandsByLog setup j slave log (course_at setup log) (asks setup.address slave log)
  pub legal : AreLegal setup.limits (jobs_of setup slave) (marks_of stands.xs)
  pub rests : Rests setup.limits (marks_of stands.xs)
  pub phase_is : count is_begun (marks_of stands.xs) ≡ (course_at setup log).phase

module _ (setup : Setup) (h : IsSetup setup) (log : List LogEntry) (run : IsRun setup log) (report : Report) (reports_it : (course_at setup log).report ≡ Some report) where
  placing : (slave : Slave) (j : ℕ) → slice_get setup.slaves j ≡ Some slave → Placing setup log slave j
  placing slave j e =
      let s = (reported setup (ReadBack slave.id) j slave (listens setup h.heard j slave e) (h.heard).runs log run report reports_it).0 in
      let g = with_at (λ u m. GoesByRule setup.limits (jobs_of setup u) (course_at setup log).phase m) (course_at setup log).talks j (talk_with slave (marks_of s.xs)) (going setup (h.heard).runs (events_of_master setup log)).goes s.here in
      record { stands = s; legal = g.legal; rests = g.rests; phase_is = g.phase_is }

  -- no slave was asked a request of a later phase
  at_most_now : (slave : Slave) (j : ℕ) → slice_get setup.slaves j ≡ Some slave → phase_reached (jobs_of setup slave) (asks setup.address slave log) ≤ (course_at setup log).phase
  at_most_now slave j e =
      let k = placing slave j e in
      let s = k.stands in
      let a = reached_at_most (jobs_of setup slave) (count is_begun (marks_of s.xs)) (askings_told s.xs) (at_most setup.limits (jobs_of setup slave) s.xs k.legal) in
      let b = reached_late (jobs_of setup slave) s.until (asks setup.address slave log) (askings_told s.xs) s.late in
      let c = k.phase_is in
      omega (arith, a, b, c)

  marks_same : (u v : CourseTalk) → Some u ≡ Some v → u.marks ≡ v.marks
  marks_same u v y = let z : u ≡ v = cc in ap (λ (x : CourseTalk). x.marks) z

  -- some slave was asked one of this phase
  reached_now_by : (slave : Slave) (j : ℕ) (u : CourseTalk) → slice_get setup.slaves j ≡ Some slave → slice_get (course_at setup log).talks j ≡ Some u → has_asked u.marks ≡ true → phase_reached (jobs_of setup slave) (asks setup.address slave log) ≡ (course_at setup log).phase
  reached_now_by slave j u e f a =
      let k = placing slave j e in
      let s = k.stands in
      let m : u.marks ≡ marks_of s.xs = marks_same u (talk_with slave (marks_of s.xs)) (sym f ∙ s.here) in
      let g : has_main (now s.xs) ≡ true = sym (has_asked_now s.xs) ∙ ap (λ (z : List Mark). has_asked z) (sym m) ∙ a in
      let x = exactly_now setup.limits (jobs_of setup slave) s.xs k.legal in
      reached_late (jobs_of setup slave) s.until (asks setup.address slave log) (askings_told s.xs) s.late
      ∙ ap (phase_reached (jobs_of setup slave)) (split setup.limits (jobs_of setup slave) s.xs k.legal)
      ∙ reached_exactly (jobs_of setup slave) (count is_begun (marks_of s.xs)) (now s.xs) (askings_told (past s.xs)) x g ∙ k.phase_is

  all_most : (slaves : List Slave) (p : ℕ) → ((j : ℕ) (s : Slave) → slice_get slaves j ≡ Some s → phase_reached (jobs_of setup s) (asks setup.address s log) ≤ p) → last_phase_of setup log slaves ≤ p
  all_most [] p f = omega arith
  all_most (s ∷ slaves) p f = max-le (f 0 s refl) (all_most slaves p (λ j t e. f (suc j) t e))

  some_least : (slaves : List Slave) (p j : ℕ) (s : Slave) → slice_get slaves j ≡ Some s → phase_reached (jobs_of setup s) (asks setup.address s log) ≡ p → p ≤ last_phase_of setup log slaves
  some_least [] p j s e f = absurd cc
  some_least (t ∷ slaves) p zero s e f =
      let z : t ≡ s = cc in
      let a = le-max_left (phase_reached (jobs_of setup t) (asks setup.address t log)) (last_phase_of setup log slaves) in
      let b : phase_reached (jobs_of setup t) (asks setup.address t log) ≡ p = ap (λ (x : Slave). phase_reached (jobs_of setup x) (asks setup.address x log)) z ∙ f in
      omega (arith, a, b)
  some_least (t ∷ slaves) p (suc j) s e f =
      let a = le-max_right (phase_reached (jobs_of setup t) (asks setup.address t log)) (last_phase_of setup log slaves) in
      let b = some_least slaves p j s e f in
      omega (arith, a, b)

  -- the phase is the last of which a request was sent
  phase_last : (i : ℕ) (u : CourseTalk) (cause : Cause) → slice_get (course_at setup log).talks i ≡ Some u → cause_of u.marks ≡ Some cause → 1 ≤ (course_at setup log).phase → (course_at setup log).phase ≡ last_phase setup log
  phase_last i u cause here ended begun = by (present setup (h.heard).runs (events_of_master setup log))
    where
      c : Course
      c = course_at setup log

      whole : (j : ℕ) (v : CourseTalk) → slice_get c.talks j ≡ Some v → has_asked v.marks ≡ true → c.phase ≡ last_phase setup log
      whole j v e a =
          let is : slice_get setup.slaves j ≡ Some v.slave = slaves_at c.talks setup.slaves (talks_of setup (events_of_master setup log)) j v e in
          let x = some_least setup.slaves c.phase j v.slave is (reached_now_by v.slave j v is e a) in
          let y = all_most setup.slaves c.phase (λ k s f. at_most_now s k f) in
          omega (arith, x, y)

      by : (c.phase ≡ 0) ⊎ (Someone c.talks ⊎ AllTalks IsIdle c.talks) → c.phase ≡ last_phase setup log
      by (inl z) = absurd (omega (arith, z, begun))
      by (inr (inl s)) = whole s.0 (s.1).0 ((s.1).1).0 ((s.1).1).1
      by (inr (inr k)) = let z = (all_at IsIdle c.talks i u k here).cause_is in let y : None ≡ Some cause = sym z ∙ ended in absurd cc

  -- ---- what the log shows of the slave that ended
  names_left : (js : List Job) (job : Job) (r : Request) (ws : List Placed) (k : Question job r None (now ws)) → AreLegal setup.limits js (marks_of ws) → is_reached job.task (marks_of ws) ≡ true → list_any (names_it job.task) (k.qs ++ k.ms) ≡ true
  names_left js job r ws k l e = sym (reached_now job.task setup.limits js ws l ∙ ap (list_any (names_it job.task)) k.is ∙ ap (λ (o : Option _). (is_state_question k.newest && names_target job.task o) || list_any (names_it job.task) (k.qs ++ k.ms)) k.decided ∙ ap (λ (b : Bool). b || list_any (names_it job.task) (k.qs ++ k.ms)) (and_false (is_state_question k.newest))) ∙ e
    where
      and_false : (b : Bool) → (b && false) ≡ false
      and_false true = refl
      and_false false = refl

  told_outputs : (job : Job) (ms : List Mark) (bs : List Asking) (s : ℕ) → latest ms ≡ latests.Answered AskState (StateAck s) → Stage job ms bs → Question job AskState (Some (StateAck s)) bs
  told_outputs job ms bs s o (idling l e a) = let z = sym l ∙ o in absurd cc
  told_outputs job ms bs s o (main_open r l k) = let z = sym l ∙ o in absurd cc
  told_outputs job ms bs s o (question_open r l k) = let z = sym l ∙ o in absurd cc
  told_outputs job ms bs s o (trying r code l h k) = let z = sym l ∙ o in absurd cc
  told_outputs job ms bs s o (mains_done r l k w) = let z = sym l ∙ o in absurd cc
  told_outputs job ms bs s o (state_told t l k w) =
      let z : latests.Answered AskState (StateAck t) ≡ latests.Answered AskState (StateAck s) = sym l ∙ o in
      let y : t ≡ s = cc in
      let P : ℕ → Type 0 = λ x. Question job AskState (Some (StateAck x)) bs in
      subst P y k

  open_head : (ms : List Mark) (bs : List Asking) (r : Request) → latest ms ≡ latests.Asked r → Linked (latest ms) bs → (b : Asking) × ((rest : List Asking) × ((bs ≡ b ∷ rest) × (b.decision ≡ None)))
  open_head ms bs r o k = let P : Latest → Type 0 = λ y. Linked y bs in by bs (subst P o k)
    where
      by : (bs : List Asking) → Linked (latests.Asked r) bs → (b : Asking) × ((rest : List Asking) × ((bs ≡ b ∷ rest) × (b.decision ≡ None)))
      by [] k = absurd k
      by (b ∷ rest) k = (b, (rest, (refl, k.1)))

  -- by what came last, at its place
  abbrev ShownAt : Slave → ℕ → Job → Cause → Type 0
  ShownAt slave p job cause = (c : Asking) × ((earlier : List Asking) × ((of_phase (jobs_of setup slave) (p + 1) (asks setup.address slave log) ≡ c ∷ earlier) × ShownBy setup log slave job.task c earlier cause))

  shown_at : (slave : Slave) (j : ℕ) (e : slice_get setup.slaves j ≡ Some slave) (cause : Cause) (n p : ℕ) (m : Mark) (ws : List Placed) (job : Job)
      → AreLegal setup.limits (jobs_of setup slave) (m ∷ marks_of ws) → AreDated setup slave log (at n m ∷ ws) → reaction setup.limits m (marks_of ws) ≡ GiveUp cause → job_of (m ∷ marks_of ws) ≡ Some job → cause_of (m ∷ marks_of ws) ≡ None → count is_begun (m ∷ marks_of ws) ≡ p + 1
      → AreLate (next_place (at n m ∷ ws)) (asks setup.address slave log) (askings_told (at n m ∷ ws)) → ((number i : ℕ) → Brings setup log slave number i → IsBroughtAt number i (at n m ∷ ws) ⊎ (next_place (at n m ∷ ws) ≤ i))
      → BecauseOf setup.limits job m (marks_of ws) (m ∷ marks_of ws) cause → ShownAt slave p job cause
  shown_at slave j e cause n p m ws job l d g here none cnt late came b = by m l d here none late came b (most m l cnt) (exact m l cnt) (split setup.limits js (at n m ∷ ws) l)
    where
      js : List Job
      js = jobs_of setup slave

      cs : List Asking
      cs = asks setup.address slave log

      most : (m : Mark) → AreLegal setup.limits js (m ∷ marks_of ws) → count is_begun (m ∷ marks_of ws) ≡ p + 1 → AtMost js p (askings_told (past (at n m ∷ ws)))
      most m l c = past_at_most setup.limits js (at n m ∷ ws) l p c

      exact : (m : Mark) → AreLegal setup.limits js (m ∷ marks_of ws) → count is_begun (m ∷ marks_of ws) ≡ p + 1 → Exactly js (p + 1) (now (at n m ∷ ws)) (askings_told (past (at n m ∷ ws)))
      exact m l c = let P : ℕ → Type 0 = λ q. Exactly js q (now (at n m ∷ ws)) (askings_told (past (at n m ∷ ws))) in subst P c (exactly_now setup.limits js (at n m ∷ ws) l)

      Late : Mark → Type 0
      Late m = AreLate (next_place (at n m ∷ ws)) cs (askings_told (at n m ∷ ws))

      Splits : Mark → Type 0
      Splits m = askings_told (at n m ∷ ws) ≡ now (at n m ∷ ws) ++ askings_told (past (at n m ∷ ws))

      last_of : (m : Mark) (c : Asking) (rest : List Asking) → now (at n m ∷ ws) ≡ c ∷ rest → Exactly js (p + 1) (now (at n m ∷ ws)) (askings_told (past (at n m ∷ ws))) → AtMost js p (askings_told (past (at n m ∷ ws))) → Late m → Splits m → Lasts js p (next_place (at n m ∷ ws)) cs c rest
      last_of m c rest f x a t s = let P : List Asking → Type 0 = λ z. AreLate (next_place (at n m ∷ ws)) cs z in lasts js p (next_place (at n m ∷ ws)) cs (now (at n m ∷ ws)) (askings_told (past (at n m ∷ ws))) c rest f x a (subst P s t)

      number_is : (m : Mark) (c : Asking) (rest : List Asking) (f : Lasts js p (next_place (at n m ∷ ws)) cs c rest) → now (at n m ∷ ws) ≡ c ∷ rest → Splits m → (f.newest).number ≡ newest_number (m ∷ marks_of ws)
      number_is m c rest f z s = (f.late).number ∙ number_at (at n m ∷ ws) c (rest ++ askings_told (past (at n m ∷ ws))) (s ∙ ap (λ (y : List Asking). y ++ askings_told (past (at n m ∷ ws))) z)

      Came : Mark → Type 0
      Came m = (number i : ℕ) → Brings setup log slave number i → IsBroughtAt number i (at n m ∷ ws) ⊎ (next_place (at n m ∷ ws) ≤ i)

      turned_came : (t : Bool) → Came (Turned t) → (number i : ℕ) → Brings setup log slave number i → IsBroughtAt number i ws ⊎ (n ≤ i)
      turned_came t f number i y = two (f number i y)
        where
          two : IsBroughtAt number i (at n (Turned t) ∷ ws) ⊎ (n ≤ i) → IsBroughtAt number i ws ⊎ (n ≤ i)
          two (inl (inl z)) = let w : Turned t ≡ Brought number (z.1).0 = (z.1).1 in absurd cc
          two (inl (inr z)) = inl z
          two (inr z) = inr z

      by : (m : Mark) → AreLegal setup.limits js (m ∷ marks_of ws) → AreDated setup slave log (at n m ∷ ws) → job_of (m ∷ marks_of ws) ≡ Some job → cause_of (m ∷ marks_of ws) ≡ None → Late m → Came m
          → BecauseOf setup.limits job m (marks_of ws) (m ∷ marks_of ws) cause → AtMost js p (askings_told (past (at n m ∷ ws))) → Exactly js (p + 1) (now (at n m ∷ ws)) (askings_told (past (at n m ∷ ws))) → Splits m → ShownAt slave p job cause
      by (Answered r a) l d here none late came b most exact s = kinds (open_stage job (marks_of ws) (now ws) r (open_latest (latest (marks_of ws)) r (l.0).1) (stage setup.limits js ws l.1 (l.0).0 none job here))
        where
          kinds : Main job r None (now ws) ⊎ Question job r None (now ws) → ShownAt slave p job cause
          kinds (inl k) =
              let k' = main_decided job n r a (now ws) k in
              let f = last_of (Answered r a) k'.newest k'.ms k'.is exact most late s in
              (f.newest, (k'.ms ++ f.old, (f.of, main_shown setup log slave js job n (next_place (at n (Answered r a) ∷ ws)) ws r a l (two_tries (h.limits).step_tries.0) none here k' f.newest f.late (number_is (Answered r a) k'.newest k'.ms f k'.is s) f.old f.questions cause b)))
            where
              two_tries : 2 ≤ setup.limits.step_tries → 1 ≤ setup.limits.step_tries
              two_tries z = omega (arith, z)
          kinds (inr k) =
              let k' = question_decided job n r a (now ws) k in
              let f = last_of (Answered r a) k'.newest (k'.qs ++ k'.ms) k'.is exact most late s in
              (f.newest, ((k'.qs ++ k'.ms) ++ f.old, (f.of, question_shown setup log slave js job n (next_place (at n (Answered r a) ∷ ws)) ws r a l d k' (names_left js job r ws k l.1) f.newest f.late (number_is (Answered r a) k'.newest (k'.qs ++ k'.ms) f k'.is s) f.old cause b)))
      by (Turned t) l d here none late came b most exact s = causes_of cause b
        where
          causes_of : (cause : Cause) → BecauseOf setup.limits job (Turned t) (marks_of ws) (Turned t ∷ marks_of ws) cause → ShownAt slave p job cause
          causes_of (causes.NoAnswer q) b =
              let r = (((b.1).1).1).0 in
              let o = open_latest (latest (marks_of ws)) r (((b.1).1).1).1 in
              let k = open_head (marks_of ws) (now ws) r o (linked setup.limits js ws l.1) in
              let is : now ws ≡ k.0 ∷ (k.1).0 = ((k.1).1).0 in
              let f = last_of (Turned t) k.0 (k.1).0 is exact most late s in (
                f.newest,
                (
                  (k.1).0 ++ f.old,
                  (
                    f.of,
                    (
                      number_is (Turned t) k.0 (k.1).0 f is s ∙ b.0,
                      unanswered setup slave log js job n t ws k.0 f.newest (k.1).0 r (h.limits).turn_limit.0 (h.limits).tries.0 l d none here o is ((k.1).1).1 f.late (b.1).0 ((b.1).1).0,
                    ),
                  ),
                ),
              )
          causes_of (causes.DataMissing i) b =
              let w = outputs_latest job (latest (marks_of ws)) (Turned t ∷ marks_of ws) (b.1).1 in
              let k = told_outputs job (marks_of ws) (now ws) w.state w.latest_is (stage setup.limits js ws l.1 l.0 none job here) in
              let f = last_of (Turned t) k.newest (k.qs ++ k.ms) k.is exact most late s in
              (f.newest, ((k.qs ++ k.ms) ++ f.old, (f.of, misses_outputs setup slave log js job n t ws f.newest f.old i l d w k f.late b.0 (b.1).0 (turned_came t came))))
          causes_of (causes.Refused q i) b = absurd b
          causes_of (causes.InputsMissing q i) b = absurd b
          causes_of (causes.Stuck q i) b = absurd b
          causes_of (causes.Faulted q i) b = absurd b
          causes_of (causes.Unexpected q y i) b = absurd b
      by (Begun x) l d here none late came b most exact s = absurd b
      by (Asked r) l d here none late came b most exact s = absurd b
      by Again l d here none late came b most exact s = absurd b
      by Hinted l d here none late came b most exact s = absurd b
      by (Brought i q) l d here none late came b most exact s = absurd b
      by (Ended x) l d here none late came b most exact s = absurd b

  -- ---- the reported slave
  shows : (slave : Slave) (j : ℕ) → slice_get setup.slaves j ≡ Some slave → (u : CourseTalk) → slice_get (course_at setup log).talks j ≡ Some u → (cause : Cause) → cause_of u.marks ≡ Some cause → Shown setup log slave (course_at setup log).phase cause
  shows slave j e u f cause ended = by g.ys refl
    where
      js : List Job
      js = jobs_of setup slave

      k : Placing setup log slave j
      k = placing slave j e

      s : StandsByLog setup j slave log (course_at setup log) (asks setup.address slave log)
      s = k.stands

      ended_xs : cause_of (marks_of s.xs) ≡ Some cause
      ended_xs = ap cause_of (sym (marks_same u (talk_with slave (marks_of s.xs)) (sym f ∙ s.here))) ∙ ended

      g : Finds setup slave log setup.limits js cause s.xs
      g = find_end setup slave log setup.limits js cause s.xs k.legal (s.dated).dates ended_xs

      late : AreLate (next_place g.ys) (asks setup.address slave log) (askings_told g.ys)
      late =
          let a = g.next in
          let b = (s.dated).low in
          late_trans (next_place g.ys) (asks setup.address slave log) (askings_told s.xs) (askings_told g.ys) (late_less s.until (next_place g.ys) (asks setup.address slave log) (askings_told s.xs) (omega (arith, a, b)) s.late) g.late

      came : (number i : ℕ) → Brings setup log slave number i → IsBroughtAt number i g.ys ⊎ (next_place g.ys ≤ i)
      came number i b = two (cases_lt i s.until)
        where
          two : (i < s.until) ⊎ (s.until ≤ i) → IsBroughtAt number i g.ys ⊎ (next_place g.ys ≤ i)
          two (inl l) = g.brought number i ((s.dated).brought number i l b)
          two (inr l) =
              let x = g.next in
              let y = (s.dated).low in
              inr (omega (arith, x, y, l))

      not_wait : GiveUp cause ≡ Wait → ⊥
      not_wait z = cc

      by : (ys : List Placed) → g.ys ≡ ys → Shown setup log slave (course_at setup log).phase cause
      by [] z = absurd (let P : List Placed → Type 0 = λ y. Does setup.limits (marks_of y) (GiveUp cause) in subst P z g.gives)
      by (x ∷ ws) z =
          let P : List Placed → Type 0 = λ y. Does setup.limits (marks_of y) (GiveUp cause) in
          let Q : List Placed → Type 0 = λ y. AreLegal setup.limits js (marks_of y) in
          let R : List Placed → Type 0 = λ y. AreDated setup slave log y in
          let T : List Placed → Type 0 = λ y. AreLate (next_place y) (asks setup.address slave log) (askings_told y) in
          let U : List Placed → Type 0 = λ y. (number i : ℕ) → Brings setup log slave number i → IsBroughtAt number i y ⊎ (next_place y ≤ i) in
          let d = subst P z g.gives in
          let b = because setup.limits x.mark (marks_of ws) cause d in
          let c = counted (x.mark ∷ marks_of ws) b.0 (b.1).0 in
          let phase : (course_at setup log).phase ≡ c.0 + 1 = sym k.phase_is ∙ g.phase ∙ ap (λ (y : List Placed). count is_begun (marks_of y)) z ∙ c.1 in
          let l = subst Q z g.legal in
          let w = shown_at slave j e cause x.place c.0 x.mark ws b.0 l (subst R z g.dates) d (b.1).0 (does_none setup.limits (x.mark ∷ marks_of ws) (GiveUp cause) d not_wait) c.1 (subst T z late) (subst U z came) (b.1).1 in
          let one : 1 ≤ (course_at setup log).phase = omega (arith, phase) in
          let prior : (course_at setup log).phase - 1 ≡ c.0 = omega (arith, phase) in
          record {
            task = (b.0).task;
            request = w.0;
            earlier = (w.1).0;
            last = record {
              phase = phase_last j u cause f ended one;
              begun = one;
              job = ((b.0).list, ap (slice_get js) prior ∙ job_phase setup.limits js (x.mark ∷ marks_of ws) l b.0 (b.1).0 c.0 c.1);
              last = ap (λ (q : ℕ). of_phase js q (asks setup.address slave log)) phase ∙ ((w.1).1).0;
            };
            shown = ((w.1).1).1;
          }

  -- ---- a slave that has not ended
  settled_passed : (v : Verdict) → is_settled_as v ≡ true → ((c : Cause) → v ≡ verdicts.Ended c → ⊥) → v ≡ verdicts.Passed
  settled_passed verdicts.Going q n = absurd cc
  settled_passed verdicts.Passed q n = refl
  settled_passed (verdicts.Ended c) q n = absurd (n c refl)

  closed_of : (marks : List Mark) → ((c : Cause) → verdict_of marks ≡ verdicts.Ended c → ⊥) → (open_request marks ≡ None) ⊎ ((c : Cause) × (verdict_of marks ≡ verdicts.Ended c)) → open_request marks ≡ None
  closed_of marks n (inl z) = z
  closed_of marks n (inr z) = absurd (n z.0 z.1)

  shows_none : (t : Slave) (j : ℕ) → slice_get setup.slaves j ≡ Some t → list_all is_quiet (course_at setup log).talks ≡ true → ((v : CourseTalk) (c : Cause) → slice_get (course_at setup log).talks j ≡ Some v → verdict_of v.marks ≡ verdicts.Ended c → ⊥)
      → (phase : ℕ) → phase ≡ (course_at setup log).phase → (other : Cause) → Shown setup log t phase other → ⊥
  shows_none t j e quiet not_ended phase same other w =
      calm_shows setup log t task request earlier other
      (let P : Task → Type 0 = λ x. Calm setup log t x request earlier in subst P (sym task_is) (calm_of setup t log js job s.until c.0 s.xs (asks setup.address t log) (h.limits).turn_limit.0 (h.limits).data_turns.0 k.legal (s.dated).dates k.rests p.cause_is p.job_is p.passed free exact most s.late c.1 next request earlier of_is)) w.shown
    where
      js : List Job
      js = jobs_of setup t

      task : Task
      task = w.task

      request : Asking
      request = w.request

      earlier : List Asking
      earlier = w.earlier

      k : Placing setup log t j
      k = placing t j e

      s : StandsByLog setup j t log (course_at setup log) (asks setup.address t log)
      s = k.stands

      q : is_quiet (talk_with t (marks_of s.xs)) ≡ true
      q = all_get is_quiet (course_at setup log).talks j (talk_with t (marks_of s.xs)) quiet s.here

      off : (c : Cause) → verdict_of (marks_of s.xs) ≡ verdicts.Ended c → ⊥
      off c z = not_ended (talk_with t (marks_of s.xs)) c s.here z

      free : open_request (marks_of s.xs) ≡ None
      free = closed_of (marks_of s.xs) off (quiet_open (open_request (marks_of s.xs)) (verdict_of (marks_of s.xs)) q)

      p : HasPassed (marks_of s.xs)
      p = verdict_passed (marks_of s.xs) (settled_passed (verdict_of (marks_of s.xs)) (and_parts (is_settled_as (verdict_of (marks_of s.xs))) (not (is_passed_as (verdict_of (marks_of s.xs)) && is_some (open_request (marks_of s.xs)))) q).0 off)

      job : Job
      job = p.job

      c : (i : ℕ) × (count is_begun (marks_of s.xs) ≡ i + 1)
      c = counted (marks_of s.xs) p.job p.job_is

      phase_is : phase ≡ c.0 + 1
      phase_is = same ∙ sym k.phase_is ∙ c.1

      here : slice_get js c.0 ≡ Some job
      here = job_phase setup.limits js (marks_of s.xs) k.legal p.job p.job_is c.0 c.1

      prior : phase - 1 ≡ c.0
      prior = let z = phase_is in omega (arith, z)

      task_is : task ≡ job.task
      task_is = let z : Some (record { task = task; list = ((w.last).job).0 }) ≡ Some job = sym ((w.last).job).1 ∙ ap (slice_get js) prior ∙ here in job_task z
        where
          job_task : Some (record { task = task; list = ((w.last).job).0 }) ≡ Some job → task ≡ job.task
          job_task z = let y : record { task = task; list = ((w.last).job).0 } ≡ job = cc in ap (λ (x : Job). x.task) y

      exact : Exactly js (c.0 + 1) (now s.xs) (askings_told (past s.xs))
      exact = let P : ℕ → Type 0 = λ i. Exactly js i (now s.xs) (askings_told (past s.xs)) in subst P c.1 (exactly_now setup.limits js s.xs k.legal)

      most : AtMost js c.0 (askings_told (past s.xs))
      most = past_at_most setup.limits js s.xs k.legal c.0 c.1

      next : (i : ℕ) (a b : Job) → slice_get js i ≡ Some a → slice_get js (i + 1) ≡ Some b → IsNext a b
      next i a b x y = steady setup.steps setup.runs t.script i a b x y

      of_is : of_phase js (c.0 + 1) (asks setup.address t log) ≡ request ∷ earlier
      of_is = ap (λ (i : ℕ). of_phase js i (asks setup.address t log)) (sym phase_is) ∙ (w.last).last

-- ---- a whole run
pub failed_is_first : FailedIsFirstOf
failed_is_first setup h log run id phase cause r =
    let report = reports.Failed id phase cause in
    let c = course_at setup log in
    let whole = all_report setup (events_of_master setup log) report r in
    let e = ends c.phase c.talks id phase cause whole.1 in
    let slave = (e.talk).slave in
    let is : slice_get setup.slaves e.i ≡ Some slave = slaves_at c.talks setup.slaves (talks_of setup (events_of_master setup log)) e.i e.talk e.here in
    let ended : cause_of (e.talk).marks ≡ Some cause = ended_cause (cause_of (e.talk).marks) (job_of (e.talk).marks) (e.talk).marks cause e.ended in
    let P : ℕ → Type 0 = λ q. Shown setup log slave q cause in (
      slave,
      (
        e.id_is,
        record {
          is_in = (e.i, is);
          shown = subst P e.phase_is (shows setup h log run report r slave e.i is e.talk e.here cause ended);
          none_before = λ t j less other w.
              let a = h.numbered j.0 t j.1 in
              let b = h.numbered e.i slave is in
              shows_none setup h log run report r t j.0 j.1 whole.0 (λ v x y z. e.first j.0 v x (omega (arith, a, b, less)) y z) phase (sym e.phase_is) other w;
        },
      ),
    )
