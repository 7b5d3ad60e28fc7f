-- Each conversation goes by the rules.
use Rattle.std.proofs.Common.{◌≡◌, ℕ, ◌+◌, ◌≤◌, ◌<◌, ◌⊎◌, inl, inr, Bool, true, false, if◌then◌else◌, Option, Some, None, List, [], ◌∷◌, map, length, refl, sym, ap, ◌∙◌, subst, arith}
use Rattle.std.specs.Prelude.{◌==◌, ◌&&◌, not, is_some, slice_get}
use Rattle.std.specs.List.{list_all}
use Rattle.std.proofs.Math.ListN.{get_or}
use Rattle.std.proofs.lemmas.Bool.{and_parts, eqb-true, eqb-false}
use Rattle.std.proofs.lemmas.Option.{slice_get-get_or}
use Rattle.dcp_types.specs.declared.addresses.Address.{Address}
use Rattle.dcp_types.specs.declared.limits.Limits.{Limits}
use Rattle.dcp_ends.specs.Events.{Event, Gram, Tick}
use Rattle.master_spec.proofs.Phases.{phases_counted}
use Rattle.master_spec.specs.declared.causes.Verdict.{Verdict}
use Rattle.master_spec.specs.declared.causes.Verdict.TheVariants as verdicts
use Rattle.master_spec.specs.declared.reports.Report.{Report}
use Rattle.master_spec.specs.declared.reports.Report.TheVariants as reports
use Rattle.master_spec.specs.declared.reactions.Reaction.{Reaction}
use Rattle.master_spec.specs.declared.reactions.Reaction.TheVariants.{Wait, Ask, Repeat, GiveUp}
use Rattle.master_spec.specs.declared.requests.Request.{Request}
use Rattle.master_spec.specs.declared.setups.Slave.{Slave}
use Rattle.master_spec.specs.declared.setups.Setup.{Setup}
use Rattle.master_spec.specs.Jobs.{Job}
use Rattle.master_spec.specs.Setup.{jobs_of}
use Rattle.master_spec.specs.Marks.{Mark, Begun, Asked, Again, Answered, Hinted, Brought, Turned, Ended, count, is_begun, open_request, job_of, conversation_ended, verdict_of}
use Rattle.master_spec.specs.Conversation.{on_mark, reaction_in, reaction, done, marks_after, extended}
use Rattle.master_spec.specs.Course.{CourseTalk, Course, course, fresh_talk, mark_of_gram, marked, is_settled_as, is_passed_as, is_settled, is_quiet, failed_by, failed, begun_with, task_begun, phases, with_next, with_report, decided, with_turns, decided_if, course_turned, still, after_gram, course_after_turn, step}
use Rattle.master_log_laws.specs.Asking.Closed.{MayCome, AllTalks}
use Rattle.master_log_laws.specs.Asking.Legal.{IsLegal, AreLegal, GoesByRule, AllWith, TalksGoByRule}
use Rattle.master_log_laws.proofs.Asking.Courses.{gram_may, gram_no_begin, IsBefore, Fine, fine}

-- ---- what the master does itself has no more to follow
abbrev pub IsOwn : Mark → Type 0
IsOwn (Asked request) = Unit {0}
IsOwn Again = Unit {0}
IsOwn (Ended cause) = Unit {0}
IsOwn (Begun job) = ⊥
IsOwn (Answered request answer) = ⊥
IsOwn Hinted = ⊥
IsOwn (Brought number payload) = ⊥
IsOwn (Turned settled) = ⊥

own_mark : (limits : Limits) (job : Job) (m : Mark) (marks : List Mark) → IsOwn m → on_mark limits job m marks (m ∷ marks) ≡ Wait
own_mark limits job (Asked request) marks o = refl
own_mark limits job Again marks o = refl
own_mark limits job (Ended cause) marks o = refl
own_mark limits job (Begun j) marks o = absurd o
own_mark limits job (Answered request answer) marks o = absurd o
own_mark limits job Hinted marks o = absurd o
own_mark limits job (Brought number payload) marks o = absurd o
own_mark limits job (Turned settled) marks o = absurd o

own_in : (limits : Limits) (o : Option Job) (m : Mark) (marks : List Mark) → IsOwn m → reaction_in limits o m marks (m ∷ marks) ≡ Wait
own_in limits None m marks o = refl
own_in limits (Some job) m marks o = by (conversation_ended marks)
  where
    by : (b : Bool) → (if b then Wait else on_mark limits job m marks (m ∷ marks)) ≡ Wait
    by true = refl
    by false = own_mark limits job m marks o

pub own_rests : (limits : Limits) (m : Mark) (marks : List Mark) → IsOwn m → reaction limits m marks ≡ Wait
unfolding reaction
own_rests limits m marks o = own_in limits (job_of (m ∷ marks)) m marks o

-- ---- one mark
goes_done : (limits : Limits) (js : List Job) (phase : ℕ) (m : Mark) (marks : List Mark) (r : Reaction) → reaction limits m marks ≡ r → AreLegal limits js (m ∷ marks) → count is_begun (m ∷ marks) ≡ phase
    → GoesByRule limits js phase (done r (m ∷ marks))
goes_done limits js phase m marks Wait e l c = record { legal = l; rests = e; phase_is = c }
goes_done limits js phase m marks (Ask request) e l c = record { legal = (e, l); rests = own_rests limits (Asked request) (m ∷ marks) tt; phase_is = c }
goes_done limits js phase m marks Repeat e l c = record { legal = (e, l); rests = own_rests limits Again (m ∷ marks) tt; phase_is = c }
goes_done limits js phase m marks (GiveUp cause) e l c = record { legal = (e, l); rests = own_rests limits (Ended cause) (m ∷ marks) tt; phase_is = c }

goes_after : (limits : Limits) (js : List Job) (phase : ℕ) (m : Mark) (marks : List Mark) → IsLegal limits js m marks → AreLegal limits js marks → count is_begun (m ∷ marks) ≡ phase → GoesByRule limits js phase (marks_after limits m marks)
goes_after limits js phase m marks k l c = goes_done limits js phase m marks (reaction limits m marks) refl (k, l) c

-- what comes from outside, and a turn
goes_coming : (limits : Limits) (js : List Job) (phase : ℕ) (m : Mark) (marks : List Mark) → MayCome m marks → ((job : Job) → m ≡ Begun job → ⊥) → GoesByRule limits js phase marks → GoesByRule limits js phase (marks_after limits m marks)
goes_coming limits js phase (Begun job) marks c n g = absurd (n job refl)
goes_coming limits js phase (Asked request) marks c n g = absurd c
goes_coming limits js phase Again marks c n g = absurd c
goes_coming limits js phase (Answered request answer) marks c n g = goes_after limits js phase (Answered request answer) marks (g.rests, c) g.legal g.phase_is
goes_coming limits js phase Hinted marks c n g = goes_after limits js phase Hinted marks g.rests g.legal g.phase_is
goes_coming limits js phase (Brought number payload) marks c n g = goes_after limits js phase (Brought number payload) marks g.rests g.legal g.phase_is
goes_coming limits js phase (Turned settled) marks c n g = goes_after limits js phase (Turned settled) marks g.rests g.legal g.phase_is
goes_coming limits js phase (Ended cause) marks c n g = absurd c

goes_extended : (limits : Limits) (js : List Job) (phase : ℕ) (o : Option Mark) (marks : List Mark) → ((m : Mark) → o ≡ Some m → MayCome m marks) → ((job : Job) → o ≡ Some (Begun job) → ⊥) → GoesByRule limits js phase marks → GoesByRule limits js phase (extended limits o marks)
goes_extended limits js phase None marks c n g = g
goes_extended limits js phase (Some m) marks c n g = goes_coming limits js phase m marks (c m refl) (λ job e. n job (ap (λ (k : Mark). Some k) e)) g

goes_turned : (limits : Limits) (js : List Job) (phase : ℕ) (settled : Bool) (marks : List Mark) → GoesByRule limits js phase marks → GoesByRule limits js phase (marks_after limits (Turned settled) marks)
goes_turned limits js phase settled marks g = goes_after limits js phase (Turned settled) marks g.rests g.legal g.phase_is

goes_begun : (limits : Limits) (js : List Job) (phase : ℕ) (job : Job) (marks : List Mark) → slice_get js phase ≡ Some job → open_request marks ≡ None → (job_of marks ≡ None) ⊎ (verdict_of marks ≡ verdicts.Passed)
    → GoesByRule limits js phase marks → GoesByRule limits js (phase + 1) (marks_after limits (Begun job) marks)
goes_begun limits js phase job marks e f p g =
    goes_after limits js (phase + 1) (Begun job) marks (g.rests, record { job_is = ap (slice_get js) g.phase_is ∙ e; free = f; passed = p }) g.legal (ap (λ (n : ℕ). n + 1) g.phase_is)

-- ---- all conversations
abbrev pub IsFreeToGo : List Mark → Type 0
IsFreeToGo marks = (open_request marks ≡ None) × ((job_of marks ≡ None) ⊎ (verdict_of marks ≡ verdicts.Passed))

module _ (setup : Setup) (runs : 1 ≤ setup.runs) where
  abbrev Goes : ℕ → Slave → List Mark → Type 0
  Goes phase slave marks = GoesByRule setup.limits (jobs_of setup slave) phase marks

  gram_goes : (phase : ℕ) (from : Address) (bytes : List ℕ) (talks : List CourseTalk) → AllWith (Goes phase) talks → AllWith (Goes phase) (map (λ talk. marked setup.limits talk (mark_of_gram talk from bytes)) talks)
  gram_goes phase from bytes [] g = tt
  gram_goes phase from bytes (talk ∷ talks) g =
      (goes_extended setup.limits (jobs_of setup talk.slave) phase (mark_of_gram talk from bytes) talk.marks (gram_may talk from bytes) (gram_no_begin talk from bytes) g.0, gram_goes phase from bytes talks g.1)

  pub turn_goes : (phase : ℕ) (settled : Bool) (talks : List CourseTalk) → AllWith (Goes phase) talks → AllWith (Goes phase) (map (λ talk. marked setup.limits talk (Some (Turned settled))) talks)
  turn_goes phase settled [] g = tt
  turn_goes phase settled (talk ∷ talks) g = (goes_turned setup.limits (jobs_of setup talk.slave) phase settled talk.marks g.0, turn_goes phase settled talks g.1)

  pub job_at : (phase : ℕ) (slave : Slave) → phase < phases setup → (job : Job) × (slice_get (jobs_of setup slave) phase ≡ Some job)
  job_at phase slave h =
      let n : length (jobs_of setup slave) ≡ phases setup = phases_counted setup.steps setup.runs slave.script runs in
      let d : Job = by (jobs_of setup slave) (omega (arith, n)) in
      (get_or (jobs_of setup slave) phase d, slice_get-get_or (jobs_of setup slave) phase d (omega (arith, n, h)))
    where
      by : (js : List Job) → 1 ≤ length js → Job
      by [] l = absurd (omega (arith, l))
      by (job ∷ js) l = job

  next_goes : (phase : ℕ) (talks : List CourseTalk) → phase < phases setup → AllWith (Goes phase) talks → AllTalks IsFreeToGo talks → AllWith (Goes (phase + 1)) (map (λ talk. marked setup.limits talk (task_begun setup (phase + 1) talk)) talks)
  next_goes phase [] l g f = tt
  next_goes phase (talk ∷ talks) l g f =
      let j = job_at phase talk.slave l in
      let e : task_begun setup (phase + 1) talk ≡ Some (Begun j.0) = ap (λ (n : ℕ). begun_with (slice_get (jobs_of setup talk.slave) n)) (omega arith) ∙ ap begun_with j.1 in
      let P : Option Mark → Type 0 = λ o. Goes (phase + 1) talk.slave (extended setup.limits o talk.marks) in
      (subst P (sym e) (goes_begun setup.limits (jobs_of setup talk.slave) phase j.0 talk.marks j.1 (f.0).0 (f.0).1 g.0), next_goes phase talks l g.1 f.1)

  -- who is quiet and has not ended has passed
  pub quiet_passed : (o : Option Request) (v : Verdict) (phase : ℕ) (slave : Slave) (rest : Option Report) → failed_by phase slave v rest ≡ None → (is_settled_as v && not (is_passed_as v && is_some o)) ≡ true → (o ≡ None) × ((v ≡ verdicts.Passed) × (rest ≡ None))
  quiet_passed None verdicts.Passed phase slave rest f q = (refl, (refl, f))
  quiet_passed (Some r) verdicts.Passed phase slave rest f q = absurd cc
  quiet_passed o verdicts.Going phase slave rest f q = absurd cc
  quiet_passed o (verdicts.Ended cause) phase slave rest f q = absurd cc

  pub all_passed : (phase : ℕ) (talks : List CourseTalk) → list_all is_quiet talks ≡ true → failed phase talks ≡ None → AllTalks IsFreeToGo talks
  all_passed phase [] q f = tt
  all_passed phase (talk ∷ talks) q f =
      let p = and_parts (is_quiet talk) (list_all is_quiet talks) q in
      let h = quiet_passed (open_request talk.marks) (verdict_of talk.marks) phase talk.slave (failed phase talks) f p.0 in
      ((h.0, inr (h.1).0), all_passed phase talks p.1 (h.1).1)

  pub all_before : (talks : List CourseTalk) → AllTalks IsBefore talks → AllTalks IsFreeToGo talks
  all_before [] b = tt
  all_before (talk ∷ talks) b = (((b.0).0, inl (b.0).1), all_before talks b.1)

  -- ---- the course
  pub record Going (c : Course) : Type 0 where
    pub few : c.phase ≤ phases setup
    pub goes : AllWith (Goes c.phase) c.talks

  decided_going : (c : Course) → Going c → list_all is_quiet c.talks ≡ true → (o : Option Report) → failed c.phase c.talks ≡ o → Going (decided setup c o)
  decided_going c g q (Some report) e = record { few = g.few; goes = g.goes }
  decided_going c g q None e = by (c.phase == phases setup) refl
    where
      by : (b : Bool) → (c.phase == phases setup) ≡ b → Going (if b then with_report c (reports.Finished setup.steps) else with_next setup c)
      by true z = record { few = g.few; goes = g.goes }
      by false z =
          let few = g.few in
          let other = eqb-false c.phase (phases setup) z in
          let less : c.phase < phases setup = omega (arith, few, other) in
          record { few = omega (arith, less); goes = next_goes c.phase c.talks less g.goes (all_passed c.phase c.talks q e) }

  turned_going : (c : Course) → Going c → Going (course_turned setup c)
  turned_going c g = by (list_all is_quiet c.talks) refl
    where
      by : (b : Bool) → list_all is_quiet c.talks ≡ b → Going (decided_if setup b c)
      by true q = decided_going c g q (failed c.phase c.talks) refl
      by false q = g

  tick_going : (c : Course) → Fine c → Going c → Going (course_after_turn setup c)
  tick_going c f g = by (c.phase == 0) refl
    where
      by : (b : Bool) → (c.phase == 0) ≡ b → Going (if b then with_next setup (still c) else course_turned setup (with_turns setup (list_all is_settled c.talks) c))
      by true z =
          let zero_is = eqb-true c.phase 0 z in
          record { few = omega (arith, zero_is); goes = next_goes c.phase c.talks (omega (arith, zero_is)) g.goes (all_before c.talks (f.before zero_is)) }
      by false z = turned_going (with_turns setup (list_all is_settled c.talks) c) (record { few = g.few; goes = turn_goes c.phase (list_all is_settled c.talks) c.talks g.goes })

  first_goes : (slaves : List Slave) → AllWith (Goes 0) (map fresh_talk slaves)
  first_goes [] = tt
  first_goes (slave ∷ slaves) = (record { legal = tt; rests = tt; phase_is = refl }, first_goes slaves)

step_going : (setup : Setup) (runs : 1 ≤ setup.runs) (event : Event) (c : Course) → Fine c → Going setup runs c → Going setup runs (step setup event c)
unfolding step
step_going setup runs (Gram from bytes) c f g = by (is_some c.report)
  where
    by : (b : Bool) → Going setup runs (if b then still c else after_gram setup from bytes c)
    by true = record { few = g.few; goes = g.goes }
    by false = record { few = g.few; goes = gram_goes setup runs c.phase from bytes c.talks g.goes }
step_going setup runs Tick c f g = by (is_some c.report)
  where
    by : (b : Bool) → Going setup runs (if b then still c else course_after_turn setup c)
    by true = record { few = g.few; goes = g.goes }
    by false = tick_going setup runs c f g

pub going : (setup : Setup) (runs : 1 ≤ setup.runs) (events : List Event) → Going setup runs (course setup events)
going setup runs [] = record { few = omega arith; goes = first_goes setup runs setup.slaves }
going setup runs (event ∷ events) = step_going setup runs event (course setup events) (fine setup events) (going setup runs events)

pub talks_go_by_rule : TalksGoByRule
talks_go_by_rule setup runs events = (going setup runs events).goes
