-- No conversation waits for long, where each request is answered in time.
use Rattle.std.proofs.Common.{◌≡◌, ℕ, zero, suc, ◌+◌, ◌-◌, ◌<◌, ◌≤◌, ◌⊎◌, inl, inr, Bool, true, false, if◌then◌else◌, Option, Some, None, List, [], ◌∷◌, ◌++◌, map, length, refl, sym, ap, ◌∙◌, subst, arith}
use Rattle.std.specs.Prelude.{slice_get, not, ◌==◌, ◌&&◌, is_some}
use Rattle.std.specs.List.{list_all, flat_map, range_with_len}
use Rattle.std.proofs.lemmas.Bool.{and_parts, eqb-true, eqb-false}
use Rattle.dcp_types.specs.declared.addresses.Address.{Address}
use Rattle.dcp_types.specs.declared.limits.Limits.{Limits}
use Rattle.dcp_ends.specs.Events.{Event, Gram, Tick}
use Rattle.master_spec.specs.declared.causes.Cause.{Cause}
use Rattle.master_spec.specs.declared.causes.Cause.TheVariants as causes
use Rattle.master_spec.specs.declared.causes.Verdict.{Verdict}
use Rattle.master_spec.specs.declared.causes.Verdict.TheVariants as verdicts
use Rattle.master_spec.specs.declared.reports.Report.{Report}
use Rattle.master_spec.specs.declared.reports.Report.TheVariants as reports
use Rattle.master_spec.specs.declared.requests.Request.{Request}
use Rattle.master_spec.specs.declared.requests.Request.TheVariants.{AskError}
use Rattle.master_spec.specs.declared.requests.Answer.{Answer}
use Rattle.master_spec.specs.declared.requests.Answer.TheVariants.{Ack, Nack, StateAck, ErrorAck, LogAck}
use Rattle.master_spec.specs.declared.reactions.Reaction.{Reaction}
use Rattle.master_spec.specs.declared.reactions.Reaction.TheVariants.{Wait, Ask, Repeat, GiveUp}
use Rattle.master_spec.specs.declared.setups.Script.{Script}
use Rattle.master_spec.specs.declared.setups.Slave.{Slave}
use Rattle.master_spec.specs.declared.setups.Setup.{Setup}
use Rattle.master_spec.specs.declared.tasks.Task.TheVariants as tasks
use Rattle.master_spec.specs.Setup.{jobs_of}
use Rattle.master_spec.specs.Tasks.{is_by_end, is_by_list}
use Rattle.master_spec.specs.Jobs.{Job, step_jobs, run_jobs, between_jobs, jobs_from, jobs}
use Rattle.master_spec.specs.Marks.{Mark, Begun, Asked, Again, Answered, Hinted, Brought, Turned, Ended, cause_of, count, is_asked, is_begun, is_missing, is_passed, job_of, newest_number, open_request, turns_since, verdict_of}
use Rattle.master_spec.specs.Conversation.{done, extended, marks_after, on_answer, on_missing, reaction}
use Rattle.master_spec.specs.Course.{Course, CourseTalk, after_gram, begun_with, course, course_after_turn, course_turned, decided, decided_if, failed, fresh_talk, is_passed_as, is_quiet, is_settled, is_settled_as, mark_of_gram, marked, phases, still, task_begun, with_next, with_report, with_turns}
use Rattle.master_spec.proofs.Phases.{phases_counted}
use Rattle.master_log_laws.specs.Asking.Closed.{AllTalks, MayCome}
use Rattle.master_log_laws.specs.Asking.Legal.{AllWith, GoesByRule}
use Rattle.master_log_laws.proofs.Asking.Closed.{asks_open}
use Rattle.master_log_laws.proofs.Asking.Courses.{fine, gram_may}
use Rattle.master_log_laws.proofs.Asking.Legal.{IsFreeToGo, all_before, all_passed, going, job_at, turn_goes}
use Rattle.master_log_laws.proofs.Index.Events.{repeats_open}
use Rattle.master_log_laws.proofs.Index.Outputs.{IsNews, gram_news}
use Rattle.master_log_laws.proofs.Index.Runs.{step_gram, step_still, step_tick}
use Rattle.master_log_laws.proofs.Phases.Inverse.{reacts, nack_asks}
use Rattle.master_log_laws.proofs.Phases.Tags.{HasPassed, counted, job_phase, job_some, verdict_passed}
use Rattle.master_log_laws.proofs.Failures.Steady.{steady}
use Rattle.completeness_laws.proofs.Timely.Talks.{passed_verdict}
use Rattle.completeness_laws.proofs.Timely.Settled.{Gaps, Stands}
use Rattle.completeness_laws.proofs.Timely.Steps.{turn_true, turn_false, hinted, brought, answered, begun_before}

clash : true ≡ false → ⊥
clash z = cc

-- ---- only the last job ends the session
abbrev EndsLast : List Job → Type 0
EndsLast [] = Unit {0}
EndsLast (j ∷ []) = Unit {0}
EndsLast (j ∷ k ∷ js) = (is_by_end j.task ≡ false) × EndsLast (k ∷ js)

abbrev GoOn : List Job → Type 0
GoOn [] = Unit {0}
GoOn (j ∷ js) = (is_by_end j.task ≡ false) × GoOn js

ends_cons : (j : Job) (js : List Job) → is_by_end j.task ≡ false → EndsLast js → EndsLast (j ∷ js)
ends_cons j [] e h = tt
ends_cons j (k ∷ js) e h = (e, h)

ends_append : (xs ys : List Job) → GoOn xs → EndsLast ys → EndsLast (xs ++ ys)
ends_append [] ys g e = e
ends_append (x ∷ xs) ys g e = ends_cons x (xs ++ ys) g.0 (ends_append xs ys g.1 e)

go_append : (xs ys : List Job) → GoOn xs → GoOn ys → GoOn (xs ++ ys)
go_append [] ys g e = e
go_append (x ∷ xs) ys g e = (g.0, go_append xs ys g.1 e)

go_steps : (steps r a n : ℕ) → GoOn (flat_map (step_jobs steps r) (range_with_len a n))
go_steps steps r a zero = tt
go_steps steps r a (suc n) = (refl, (refl, go_steps steps r (a + 1) n))

go_run : (steps r : ℕ) → GoOn (run_jobs steps r)
go_run steps r = (refl, (refl, (refl, (refl, (refl, go_append (flat_map (step_jobs steps r) (range_with_len 1 steps)) (record { task = tasks.Stop; list = [] } ∷ []) (go_steps steps r 1 steps) (refl, tt))))))

ends_from : (steps : ℕ) (script : Script) (r more : ℕ) → EndsLast (jobs_from steps script r more)
ends_from steps script r zero = ends_append (run_jobs steps r) (record { task = tasks.Deregister; list = [] } ∷ []) (go_run steps r) tt
ends_from steps script r (suc more) = ends_append (run_jobs steps r) (between_jobs script r ++ jobs_from steps script (r + 1) more) (go_run steps r) (ends_append (between_jobs script r) (jobs_from steps script (r + 1) more) (refl, (refl, tt)) (ends_from steps script (r + 1) more))

ends_at : (js : List Job) (p : ℕ) (a : Job) → EndsLast js → slice_get js p ≡ Some a → p + 1 < length js → is_by_end a.task ≡ false
ends_at [] p a e s l = absurd cc
ends_at (j ∷ []) p a e s l = absurd (omega (arith, l))
ends_at (j ∷ k ∷ js) zero a e s l = let z : j ≡ a = cc in ap (λ (x : Job). is_by_end x.task) (sym z) ∙ e.0
ends_at (j ∷ k ∷ js) (suc p) a e s l = ends_at (k ∷ js) p a e.1 s (omega (arith, l))

goes_on : (steps runs : ℕ) (script : Script) (p : ℕ) (a : Job) → slice_get (jobs steps runs script) p ≡ Some a → p + 1 < length (jobs steps runs script) → is_by_end a.task ≡ false
goes_on steps runs script p a s l =
    ends_at (jobs steps runs script) p a
    (ends_append (record { task = tasks.Register script.uuid; list = [] } ∷ record { task = tasks.Setup; list = script.setup } ∷ []) (jobs_from steps script 1 (runs - 1)) (refl, (refl, tt)) (ends_from steps script 1 (runs - 1))) s l

-- ---- a conversation that may still pass
abbrev pub Pure : List Mark → Type 0
Pure ms = (cause_of ms ≡ None) × (open_request ms ≡ Some AskError → ⊥)

-- what follows from an answer to the question for the error ends it
error_ends : (limits : Limits) (job : Job) (a : Answer) (older marks : List Mark) → on_answer limits job AskError a older marks ≡ Wait → ⊥
error_ends limits job Ack older marks e = cc
error_ends limits job (Nack code) older marks e = by (is_missing code) e
  where
    by : (y : Bool) → (if y && false then on_missing limits job marks else GiveUp (causes.Refused (newest_number marks) code)) ≡ Wait → ⊥
    by true z = cc
    by false z = cc
error_ends limits job (StateAck c) older marks e = cc
error_ends limits job (ErrorAck c) older marks e = cc
error_ends limits job LogAck older marks e = cc

error_asks : (limits : Limits) (job : Job) (a : Answer) (older marks : List Mark) (q : Request) → on_answer limits job AskError a older marks ≡ Ask q → ⊥
error_asks limits job Ack older marks q e = cc
error_asks limits job (Nack code) older marks q e = nack_asks limits job AskError code marks q e
error_asks limits job (StateAck c) older marks q e = cc
error_asks limits job (ErrorAck c) older marks q e = cc
error_asks limits job LogAck older marks q e = cc

module _ (limits : Limits) where
  done_cause : (r : Reaction) (ms : List Mark) (c : Cause) → cause_of ms ≡ Some c → (d : Cause) × (cause_of (done r ms) ≡ Some d)
  done_cause Wait ms c e = (c, e)
  done_cause (Ask q) ms c e = (c, e)
  done_cause Repeat ms c e = (c, e)
  done_cause (GiveUp d) ms c e = (d, refl)

  no_cause : (m : Mark) (ms : List Mark) → ((c : Cause) → cause_of (m ∷ ms) ≡ Some c → cause_of ms ≡ None → ⊥) → cause_of (done (reaction limits m ms) (m ∷ ms)) ≡ None → cause_of (m ∷ ms) ≡ None
  no_cause m ms n e = by (cause_of (m ∷ ms)) refl
    where
      by : (c : Option Cause) → cause_of (m ∷ ms) ≡ c → cause_of (m ∷ ms) ≡ None
      by None f = f
      by (Some c) f = let d = done_cause (reaction limits m ms) (m ∷ ms) c f in let z : Some d.0 ≡ None = sym d.1 ∙ e in absurd cc

  -- what is pure after a mark was pure before it
  quiet_back : (m : Mark) (ms : List Mark) → open_request (m ∷ ms) ≡ open_request ms → cause_of (m ∷ ms) ≡ cause_of ms → Pure (marks_after limits m ms) → Pure ms
  quiet_back m ms o c p = (sym c ∙ no_cause m ms (λ d e f. off d (sym e ∙ c ∙ f)) p.0, error)
    where
      off : (d : Cause) → Some d ≡ None → ⊥
      off d z = cc

      error : open_request ms ≡ Some AskError → ⊥
      error e = by (reaction limits m ms) refl p
        where
          by : (r : Reaction) → reaction limits m ms ≡ r → Pure (done r (m ∷ ms)) → ⊥
          by Wait f q = q.1 (o ∙ e)
          by (Ask x) f q = let z : Some AskError ≡ None = sym e ∙ sym o ∙ asks_open limits m ms x f in absurd cc
          by Repeat f q = q.1 (o ∙ e)
          by (GiveUp d) f q = let z : Some d ≡ None = q.0 in absurd cc

  answer_back : (r : Request) (a : Answer) (ms : List Mark) (job : Job) → job_of ms ≡ Some job → open_request ms ≡ Some r → Pure (marks_after limits (Answered r a) ms) → Pure ms
  answer_back r a ms job j o p = (c, error)
    where
      off : (d : Cause) → Some d ≡ None → ⊥
      off d z = cc

      c : cause_of ms ≡ None
      c = no_cause (Answered r a) ms (λ d e f. off d (sym e ∙ f)) p.0

      error : open_request ms ≡ Some AskError → ⊥
      error e = by (reaction limits (Answered r a) ms) refl p
        where
          r_is : r ≡ AskError
          r_is = let z : Some r ≡ Some AskError = sym o ∙ e in cc

          what : reaction limits (Answered r a) ms ≡ on_answer limits job AskError a ms (Answered AskError a ∷ ms)
          what = reacts limits (Answered r a) ms job c j ∙ ap (λ (x : Request). on_answer limits job x a ms (Answered x a ∷ ms)) r_is

          by : (x : Reaction) → reaction limits (Answered r a) ms ≡ x → Pure (done x (Answered r a ∷ ms)) → ⊥
          by Wait f q = error_ends limits job a ms (Answered AskError a ∷ ms) (sym what ∙ f)
          by (Ask y) f q = error_asks limits job a ms (Answered AskError a ∷ ms) y (sym what ∙ f)
          by Repeat f q = let z = repeats_open limits (Answered r a) ms f in let y : None ≡ Some z.0 = z.1 in absurd cc
          by (GiveUp d) f q = let z : Some d ≡ None = q.0 in absurd cc

-- ---- all conversations
module _ (setup : Setup) (runs : 1 ≤ setup.runs) (one : 1 ≤ setup.limits.turn_limit) where
  abbrev limits : Limits
  limits = setup.limits

  abbrev Goes : ℕ → Slave → List Mark → Type 0
  Goes phase slave ms = GoesByRule limits (jobs_of setup slave) phase ms

  abbrev pub AllStand : (n : ℕ) → Bool → List CourseTalk → Type 0
  AllStand n b us = AllTalks (Stands limits n b) us

  -- the turns since one at which some slave was going, or since the phase began, are fewer than the limit
  pub record Waiting (c : Course) : Type 0 where
    pub n : ℕ
    pub b : Bool
    pub stands : AllStand n b c.talks
    pub none : c.phase ≡ 0 → n ≡ 0
    pub few : c.phase < phases setup → AllTalks Pure c.talks → (n < limits.turn_limit) × (b ≡ false → n ≡ 0)

  -- ---- datagrams
  gram_stands : (phase n : ℕ) (b : Bool) (from : Address) (bytes : List ℕ) (u : CourseTalk) → Goes phase u.slave u.marks → Stands limits n b u.marks → Stands limits n b (extended limits (mark_of_gram u from bytes) u.marks)
  gram_stands phase n b from bytes u g s = by (mark_of_gram u from bytes) refl
    where
      by : (o : Option Mark) → mark_of_gram u from bytes ≡ o → Stands limits n b (extended limits o u.marks)
      by None e = s
      by (Some m) e = mark m (gram_may u from bytes m e) (gram_news u.slave u.marks from bytes m e)
        where
          mark : (m : Mark) → MayCome m u.marks → IsNews m → Stands limits n b (marks_after limits m u.marks)
          mark (Answered r a) o i = answered limits (jobs_of setup u.slave) u.marks g.legal g.rests n b s r a o
          mark Hinted o i = hinted limits (jobs_of setup u.slave) u.marks g.legal g.rests n b s
          mark (Brought number payload) o i = brought limits (jobs_of setup u.slave) u.marks g.legal g.rests n b s number payload
          mark (Begun j) o i = absurd i
          mark (Asked r) o i = absurd i
          mark Again o i = absurd i
          mark (Turned t) o i = absurd i
          mark (Ended c) o i = absurd i

  pub grams_stand : (phase n : ℕ) (b : Bool) (from : Address) (bytes : List ℕ) (us : List CourseTalk) → AllWith (Goes phase) us → AllStand n b us → AllStand n b (map (λ u. marked limits u (mark_of_gram u from bytes)) us)
  grams_stand phase n b from bytes [] g s = tt
  grams_stand phase n b from bytes (u ∷ us) g s = (gram_stands phase n b from bytes u g.0 s.0, grams_stand phase n b from bytes us g.1 s.1)

  job_there : (phase : ℕ) (u : CourseTalk) → Goes (suc phase) u.slave u.marks → (job : Job) × (job_of u.marks ≡ Some job)
  job_there phase u g = job_some u.marks phase (let e = g.phase_is in let z : suc phase ≡ phase + 1 = omega arith in e ∙ z)

  gram_back : (phase : ℕ) (from : Address) (bytes : List ℕ) (u : CourseTalk) → Goes (suc phase) u.slave u.marks → Pure (extended limits (mark_of_gram u from bytes) u.marks) → Pure u.marks
  gram_back phase from bytes u g p = by (mark_of_gram u from bytes) refl p
    where
      by : (o : Option Mark) → mark_of_gram u from bytes ≡ o → Pure (extended limits o u.marks) → Pure u.marks
      by None e p = p
      by (Some m) e p = mark m (gram_may u from bytes m e) (gram_news u.slave u.marks from bytes m e) p
        where
          mark : (m : Mark) → MayCome m u.marks → IsNews m → Pure (marks_after limits m u.marks) → Pure u.marks
          mark (Answered r a) o i p = let j = job_there phase u g in answer_back limits r a u.marks j.0 j.1 o p
          mark Hinted o i p = quiet_back limits Hinted u.marks refl refl p
          mark (Brought number payload) o i p = quiet_back limits (Brought number payload) u.marks refl refl p
          mark (Begun j) o i p = absurd i
          mark (Asked r) o i p = absurd i
          mark Again o i p = absurd i
          mark (Turned t) o i p = absurd i
          mark (Ended c) o i p = absurd i

  grams_back : (phase : ℕ) (from : Address) (bytes : List ℕ) (us : List CourseTalk) → AllWith (Goes (suc phase)) us → AllTalks Pure (map (λ u. marked limits u (mark_of_gram u from bytes)) us) → AllTalks Pure us
  grams_back phase from bytes [] g p = tt
  grams_back phase from bytes (u ∷ us) g p = (gram_back phase from bytes u g.0 p.0, grams_back phase from bytes us g.1 p.1)

  -- ---- turns
  turns_stand : (phase n : ℕ) (b : Bool) (us : List CourseTalk) → AllWith (Goes phase) us → list_all is_settled us ≡ true → AllStand n b us → AllStand (n + 1) b (map (λ u. marked limits u (Some (Turned true))) us)
  turns_stand phase n b [] g h s = tt
  turns_stand phase n b (u ∷ us) g h s =
      let p = and_parts (is_settled u) (list_all is_settled us) h in
      (turn_true limits (jobs_of setup u.slave) u.marks g.0.legal g.0.rests n b s.0 p.0, turns_stand phase n b us g.1 p.1 s.1)

  turns_stop : (phase n : ℕ) (b : Bool) (us : List CourseTalk) → AllWith (Goes phase) us → n ≡ 0 → AllStand n b us → AllStand 0 true (map (λ u. marked limits u (Some (Turned false))) us)
  turns_stop phase n b [] g h s = tt
  turns_stop phase n b (u ∷ us) g h s = (turn_false limits (jobs_of setup u.slave) u.marks g.0.legal g.0.rests n b s.0 h, turns_stop phase n b us g.1 h s.1)

  turns_back : (t : Bool) (us : List CourseTalk) → AllTalks Pure (map (λ u. marked limits u (Some (Turned t))) us) → AllTalks Pure us
  turns_back t [] p = tt
  turns_back t (u ∷ us) p = (quiet_back limits (Turned t) u.marks refl refl p.0, turns_back t us p.1)

  -- where turns have been at which all were settled, all are
  all_settled : (n : ℕ) (b : Bool) (us : List CourseTalk) → 1 ≤ n → AllStand n b us → list_all is_settled us ≡ true
  all_settled n b [] l s = refl
  all_settled n b (u ∷ us) l s = ap (λ (y : Bool). y && list_all is_settled us) (s.0.core.settled l) ∙ all_settled n b us l s.1

  none_counted : (n : ℕ) (b : Bool) (us : List CourseTalk) → list_all is_settled us ≡ false → AllStand n b us → n ≡ 0
  none_counted zero b us h s = refl
  none_counted (suc n) b us h s = absurd (clash (sym (all_settled (suc n) b us (omega arith) s) ∙ h))

  -- ---- a phase begins
  abbrev Prior : Job → List Mark → Type 0
  Prior j ms = (job : Job) → job_of ms ≡ Some job → (cause_of ms ≡ None) × ((is_by_end job.task ≡ false) × ((is_by_list j.task ≡ true → is_by_list job.task ≡ false) × (is_passed job ms ≡ true)))

  prior : (phase : ℕ) (u : CourseTalk) (j : Job) → phase < phases setup → Goes phase u.slave u.marks → IsFreeToGo u.marks → slice_get (jobs_of setup u.slave) phase ≡ Some j → Prior j u.marks
  prior phase u j l g f e job k = by f.1
    where
      some_job : None ≡ Some job → ⊥
      some_job z = cc

      c : (p : ℕ) × (count is_begun u.marks ≡ p + 1)
      c = counted u.marks job k

      at : slice_get (jobs_of setup u.slave) c.0 ≡ Some job
      at = job_phase limits (jobs_of setup u.slave) u.marks g.legal job k c.0 c.1

      next : phase ≡ c.0 + 1
      next = sym g.phase_is ∙ c.1

      lasts : is_by_end job.task ≡ false
      lasts = goes_on setup.steps setup.runs u.slave.script c.0 job at (let n = phases_counted setup.steps setup.runs u.slave.script runs in let z = next in omega (arith, n, z, l))

      by : (job_of u.marks ≡ None) ⊎ (verdict_of u.marks ≡ verdicts.Passed) → (cause_of u.marks ≡ None) × ((is_by_end job.task ≡ false) × ((is_by_list j.task ≡ true → is_by_list job.task ≡ false) × (is_passed job u.marks ≡ true)))
      by (inl z) = absurd (some_job (sym z ∙ k))
      by (inr z) =
          let h = verdict_passed u.marks z in
          (h.cause_is, (lasts, ((λ y. (steady setup.steps setup.runs u.slave.script c.0 job j at (ap (slice_get (jobs_of setup u.slave)) (sym next) ∙ e) y).1), passed_verdict u.marks job h.cause_is k (ap is_settled_as z))))

  begun_stands : (phase n : ℕ) (b : Bool) (us : List CourseTalk) → phase < phases setup → AllWith (Goes phase) us → AllTalks IsFreeToGo us → n ≤ limits.turn_limit → (b ≡ false → n ≤ 1) → AllStand n b us → AllStand 0 false (map (λ u. marked limits u (task_begun setup (phase + 1) u)) us)
  begun_stands phase n b [] l g f few w s = tt
  begun_stands phase n b (u ∷ us) l g f few w s =
      let j = job_at setup runs phase u.slave l in
      let e : task_begun setup (phase + 1) u ≡ Some (Begun j.0) = ap (λ (i : ℕ). begun_with (slice_get (jobs_of setup u.slave) i)) (omega arith) ∙ ap begun_with j.1 in
      let P : Option Mark → Type 0 = λ o. Stands limits 0 false (extended limits o u.marks) in
      (subst P (sym e) (begun_before limits (jobs_of setup u.slave) u.marks g.0.legal g.0.rests n b s.0 j.0 f.0.0 few w (prior phase u j.0 l g.0 f.0 j.1)), begun_stands phase n b us l g.1 f.1 few w s.1)

  -- ---- the course
  abbrev pub IsPrompt : List Mark → Type 0
  IsPrompt ms = (q : Request) → open_request ms ≡ Some q → cause_of ms ≡ None → turns_since is_asked ms + 1 ≤ limits.turn_limit

  -- up to the report each open request was first sent fewer turns ago than the limit
  abbrev pub PromptAt : Course → Type 0
  PromptAt c = c.report ≡ None → AllTalks IsPrompt c.talks

  abbrev pub AllPrompt : List Event → Type 0
  AllPrompt [] = Unit {0}
  AllPrompt (e ∷ evs) = PromptAt (course setup (e ∷ evs)) × AllPrompt evs

  pub record Fit (c : Course) : Type 0 where
    pub gaps : AllTalks (Gaps limits) c.talks
    pub waits : c.report ≡ None → Waiting c

  gaps_of : (n : ℕ) (b : Bool) (us : List CourseTalk) → AllStand n b us → AllTalks (Gaps limits) us
  gaps_of n b [] s = tt
  gaps_of n b (u ∷ us) s = (s.0.gaps, gaps_of n b us s.1)

  some_report : (report : Report) → Some report ≡ None → ⊥
  some_report report z = cc

  -- one that is not quiet although it is settled has passed and has a request open
  not_quiet : (phase n : ℕ) (b : Bool) (us : List CourseTalk) → suc phase < phases setup → AllWith (Goes (suc phase)) us → list_all is_settled us ≡ true → list_all is_quiet us ≡ false → AllStand n b us → AllTalks Pure us → AllTalks IsPrompt us → (n < limits.turn_limit) × (b ≡ true)
  not_quiet phase n b [] l g h q s p k = absurd (clash q)
  not_quiet phase n b (u ∷ us) l g h q s p k = by (is_quiet u) refl q (λ z. not_quiet phase n b us l g.1 (and_parts (is_settled u) (list_all is_settled us) h).1 z s.1 p.1 k.1)
    where
      settled : is_settled u ≡ true
      settled = (and_parts (is_settled u) (list_all is_settled us) h).0

      open_passed : (v : Verdict) (o : Option Request) → verdict_of u.marks ≡ v → open_request u.marks ≡ o → is_settled_as v ≡ true → (is_settled_as v && not (is_passed_as v && is_some o)) ≡ false → (n < limits.turn_limit) × (b ≡ true)
      open_passed verdicts.Going o e f i z = absurd (clash (sym i))
      open_passed (verdicts.Ended c) o e f i z = absurd (clash z)
      open_passed verdicts.Passed None e f i z = absurd (clash z)
      open_passed verdicts.Passed (Some r) e f i z = beats (s.0.core.beat a.job (record { job_is = a.job_is; cause_is = a.cause_is; lasts = lasts }) a.passed r f)
        where
          a : HasPassed u.marks
          a = verdict_passed u.marks e

          c : (i : ℕ) × (count is_begun u.marks ≡ i + 1)
          c = counted u.marks a.job a.job_is

          lasts : is_by_end a.job.task ≡ false
          lasts =
              let z = sym g.0.phase_is ∙ c.1 in
              let m = phases_counted setup.steps setup.runs u.slave.script runs in
              goes_on setup.steps setup.runs u.slave.script c.0 a.job (job_phase limits (jobs_of setup u.slave) u.marks g.0.legal a.job a.job_is c.0 c.1) (omega (arith, z, m, l))

          beats : (r ≡ AskError) ⊎ ((b ≡ true) × (n ≤ turns_since is_asked u.marks)) → (n < limits.turn_limit) × (b ≡ true)
          beats (inl z) = absurd (p.0.1 (f ∙ ap (λ (x : Request). Some x) z))
          beats (inr z) = let x = k.0 r f a.cause_is in let y = z.1 in (omega (arith, x, y), z.0)

      by : (y : Bool) → is_quiet u ≡ y → (y && list_all is_quiet us) ≡ false → (list_all is_quiet us ≡ false → (n < limits.turn_limit) × (b ≡ true)) → (n < limits.turn_limit) × (b ≡ true)
      by true e z f = f z
      by false e z f = open_passed (verdict_of u.marks) (open_request u.marks) refl refl settled e

  pure_free : (phase : ℕ) (us : List CourseTalk) → AllWith (Goes (suc phase)) us → AllTalks IsFreeToGo us → AllTalks Pure us
  pure_free phase [] g f = tt
  pure_free phase (u ∷ us) g f = (by f.0.1, pure_free phase us g.1 f.1)
    where
      closed : open_request u.marks ≡ Some AskError → ⊥
      closed e = let z : None ≡ Some AskError = sym f.0.0 ∙ e in cc

      by : (job_of u.marks ≡ None) ⊎ (verdict_of u.marks ≡ verdicts.Passed) → Pure u.marks
      by (inl z) = let j = job_there phase u g.0 in let y : None ≡ Some j.0 = sym z ∙ j.1 in absurd cc
      by (inr z) = ((verdict_passed u.marks z).cause_is, closed)

  decides : (phase n : ℕ) (b : Bool) (d : Course) → d.report ≡ None → d.phase ≡ suc phase → d.phase ≤ phases setup → AllWith (Goes d.phase) d.talks → AllStand n b d.talks → list_all is_quiet d.talks ≡ true
      → (d.phase < phases setup → AllTalks Pure d.talks → (n ≤ limits.turn_limit) × (b ≡ false → n ≤ 1)) → (o : Option Report) → failed d.phase d.talks ≡ o → Fit (decided setup d o)
  decides phase n b d r e few g s q most (Some report) f = record { gaps = gaps_of n b d.talks s; waits = λ z. absurd (some_report report z) }
  decides phase n b d r e few g s q most None f = by (d.phase == phases setup) refl
    where
      free : AllTalks IsFreeToGo d.talks
      free = all_passed setup runs d.phase d.talks q f

      pure : AllTalks Pure d.talks
      pure = let P : ℕ → Type 0 = λ i. AllWith (Goes i) d.talks in pure_free phase d.talks (subst P e g) free

      by : (y : Bool) → (d.phase == phases setup) ≡ y → Fit (if y then with_report d (reports.Finished setup.steps) else with_next setup d)
      by true z = record { gaps = gaps_of n b d.talks s; waits = λ w. absurd (some_report (reports.Finished setup.steps) w) }
      by false z =
          let not_last = eqb-false d.phase (phases setup) z in
          let l : d.phase < phases setup = omega (arith, few, not_last) in
          let m = most l pure in
          let next = begun_stands d.phase n b d.talks l g free m.0 m.1 s in
          record { gaps = gaps_of 0 false (with_next setup d).talks next; waits = λ w. record { n = 0; b = false; stands = next; none = λ v. refl; few = λ v u. (omega (arith, one), λ t. refl) } }

  turned : (phase n : ℕ) (b : Bool) (d : Course) → d.report ≡ None → d.phase ≡ suc phase → d.phase ≤ phases setup → AllWith (Goes d.phase) d.talks → AllStand n b d.talks
      → (d.phase < phases setup → list_all is_quiet d.talks ≡ false → AllTalks Pure d.talks → AllTalks IsPrompt d.talks → (n < limits.turn_limit) × (b ≡ false → n ≡ 0))
      → (d.phase < phases setup → AllTalks Pure d.talks → (n ≤ limits.turn_limit) × (b ≡ false → n ≤ 1)) → PromptAt (course_turned setup d) → Fit (course_turned setup d)
  turned phase n b d r e few g s off most k = by (list_all is_quiet d.talks) refl k
    where
      by : (y : Bool) → list_all is_quiet d.talks ≡ y → PromptAt (decided_if setup y d) → Fit (decided_if setup y d)
      by true z k = decides phase n b d r e few g s z most (failed d.phase d.talks) refl
      by false z k = record { gaps = gaps_of n b d.talks s; waits = λ w. record { n = n; b = b; stands = s; none = λ v. absurd (let x = e in omega (arith, v, x)); few = λ l p. off l z p (k w) } }

  tick : (evs : List Event) → let c = course setup evs in c.report ≡ None → Waiting c → PromptAt (course_after_turn setup c) → Fit (course_after_turn setup c)
  tick evs r w k = by (c.phase == 0) refl k
    where
      c : Course
      c = course setup evs

      goes : AllWith (Goes c.phase) c.talks
      goes = (going setup runs evs).goes

      by : (y : Bool) → (c.phase == 0) ≡ y → PromptAt (if y then with_next setup (still c) else course_turned setup (with_turns setup (list_all is_settled c.talks) c)) → Fit (if y then with_next setup (still c) else course_turned setup (with_turns setup (list_all is_settled c.talks) c))
      by true z k =
          let p = eqb-true c.phase 0 z in
          let zero_turns = w.none p in
          let next = begun_stands c.phase w.n w.b c.talks (omega (arith, p)) goes (all_before setup runs c.talks ((fine setup evs).before p)) (omega (arith, zero_turns)) (λ v. omega (arith, zero_turns)) w.stands in
          record { gaps = gaps_of 0 false (with_next setup (still c)).talks next; waits = λ v. record { n = 0; b = false; stands = next; none = λ u. refl; few = λ u t. (omega (arith, one), λ x. refl) } }
      by false z k = two (list_all is_settled c.talks) refl k
        where
          phase : ℕ
          phase = c.phase - 1

          is : c.phase ≡ suc phase
          is = let n = eqb-false c.phase 0 z in omega (arith, n)

          two : (y : Bool) → list_all is_settled c.talks ≡ y → PromptAt (course_turned setup (with_turns setup y c)) → Fit (course_turned setup (with_turns setup y c))
          two true q k =
              let d = with_turns setup true c in
              let s = turns_stand c.phase w.n w.b c.talks goes q w.stands in
              let g = turn_goes setup runs c.phase true c.talks goes in
              turned phase (w.n + 1) w.b d r is (going setup runs evs).few g s
              (λ l f p v.
              let P : ℕ → Type 0 = λ i. AllWith (Goes i) d.talks in
              let t = not_quiet phase (w.n + 1) w.b d.talks (let x = is in omega (arith, l, x)) (subst P is g) (all_settled (w.n + 1) w.b d.talks (omega arith) s) f s p v in
              (t.0, λ y. absurd (clash (sym t.1 ∙ y))))
              (λ l p. let t = w.few l (turns_back true c.talks p) in (let x = t.0 in omega (arith, x), λ y. (let x = t.1 y in omega (arith, x))))
              k
          two false q k =
              let d = with_turns setup false c in
              let s = turns_stop c.phase w.n w.b c.talks goes (none_counted w.n w.b c.talks q w.stands) w.stands in
              turned phase 0 true d r is (going setup runs evs).few (turn_goes setup runs c.phase false c.talks goes) s
              (λ l f p v. (omega (arith, one), λ y. absurd (clash y)))
              (λ l p. (omega arith, λ y. absurd (clash y)))
              k

  first_stands : (slaves : List Slave) → AllStand 0 false (map fresh_talk slaves)
  first_stands [] = tt
  first_stands (slave ∷ slaves) = (record { core = record { settled = λ l. absurd (omega (arith, l)); outputs = λ job l f h p. absurd (off job l.job_is); beat = λ job l p q o. absurd (off job l.job_is); first = λ z. refl }; short = λ job l o h. absurd (off job l.job_is); gaps = tt }, first_stands slaves)
    where
      off : (job : Job) → None ≡ Some job → ⊥
      off job z = cc

  pub fit : (evs : List Event) → AllPrompt evs → Fit (course setup evs)
  fit [] k = record { gaps = gaps_of 0 false (map fresh_talk setup.slaves) (first_stands setup.slaves); waits = λ r. record { n = 0; b = false; stands = first_stands setup.slaves; none = λ z. refl; few = λ l p. (omega (arith, one), λ z. refl) } }
  fit (event ∷ evs) k = by event (course setup evs).report refl (fit evs k.1) k.0
    where
      c : Course
      c = course setup evs

      by : (event : Event) (o : Option Report) → c.report ≡ o → Fit c → PromptAt (course setup (event ∷ evs)) → Fit (course setup (event ∷ evs))
      by event (Some report) e f k = subst Fit (sym (step_still setup event c report e)) (record { gaps = f.gaps; waits = λ r. absurd (some_report report (sym e ∙ r)) })
      by Tick None e f k = let P : Course → Type 0 = PromptAt in subst Fit (sym (step_tick setup c e)) (tick evs e (f.waits e) (subst P (step_tick setup c e) k))
      by (Gram from bytes) None e f k =
          let w = f.waits e in
          let s = grams_stand c.phase w.n w.b from bytes c.talks (going setup runs evs).goes w.stands in
          subst Fit (sym (step_gram setup from bytes c e)) (record {
            gaps = gaps_of w.n w.b (after_gram setup from bytes c).talks s;
            waits = λ r. record { n = w.n; b = w.b; stands = s; none = w.none; few = few from bytes w };
          })
        where
          few : (from : Address) (bytes : List ℕ) (w : Waiting c) → c.phase < phases setup → AllTalks Pure (map (λ u. marked limits u (mark_of_gram u from bytes)) c.talks) → (w.n < limits.turn_limit) × (w.b ≡ false → w.n ≡ 0)
          few from bytes w l p = two c.phase refl
            where
              two : (i : ℕ) → c.phase ≡ i → (w.n < limits.turn_limit) × (w.b ≡ false → w.n ≡ 0)
              two zero z = let x = w.none z in (omega (arith, x, one), λ y. x)
              two (suc i) z = let P : ℕ → Type 0 = λ j. AllWith (Goes j) c.talks in w.few l (grams_back i from bytes c.talks (subst P z (going setup runs evs).goes) p)
