-- Each conversation of the master stays fit.
use Rattle.std.proofs.Common.{◌≡◌, ℕ, ◌+◌, ◌-◌, Bool, true, false, if◌then◌else◌, Option, Some, None, List, [], ◌∷◌, map, length, refl, sym, ap, ◌∙◌, subst, arith}
use Rattle.std.specs.Prelude.{◌==◌, ◌&&◌, not, is_some, slice_get}
use Rattle.std.specs.List.{list_all}
use Rattle.std.proofs.lemmas.Bool.{and_parts, eqb-true, eqb-false}
use Rattle.dcp_types.specs.declared.addresses.Address.{Address}
use Rattle.dcp_types.specs.declared.limits.Limits.{Limits}
use Rattle.dcp_ends.specs.Events.{Event, Gram, Tick}
use Rattle.dcp_ends.specs.Logs.{same_address}
use Rattle.master_spec.specs.declared.requests.Request.{Request}
use Rattle.master_spec.specs.declared.requests.Answer.{Answer}
use Rattle.master_spec.specs.declared.causes.Verdict.{Verdict}
use Rattle.master_spec.specs.declared.causes.Verdict.TheVariants as verdicts
use Rattle.master_spec.specs.declared.reports.Report.{Report}
use Rattle.master_spec.specs.declared.reports.Report.TheVariants as reports
use Rattle.master_spec.specs.declared.setups.Slave.{Slave}
use Rattle.master_spec.specs.declared.setups.Setup.{Setup}
use Rattle.master_spec.specs.Setup.{jobs_of}
use Rattle.master_spec.specs.Jobs.{Job}
use Rattle.master_spec.specs.News.{News, Answers, Hints, Brings, Nothing, news_of}
use Rattle.master_spec.specs.Marks.{Mark, Begun, Answered, Hinted, Brought, Turned, open_request, job_of, verdict_of, newest_number}
use Rattle.master_spec.specs.Conversation.{if_open, reaction_in, reaction, done, marks_after, extended}
use Rattle.master_spec.specs.Course.{CourseTalk, Course, course, fresh_talk, mark_for, mark_of_gram, marked, is_settled_as, is_passed_as, is_settled, is_quiet, failed_by, failed, begun_with, task_begun, phases, with_next, with_report, decided, with_turns, decided_if, course_turned, still, after_gram, course_after_turn, step, payload_size}
use Rattle.master_log_laws.specs.Asking.Closed.{IsFit, MayCome, AllTalks, CoursesAreFit}
use Rattle.master_log_laws.proofs.Asking.Closed.{stays_fit}

-- ---- what a datagram may be
answer_may : (o : Option Request) (marks : List Mark) (number wanted : ℕ) (answer : Answer) (m : Mark) → open_request marks ≡ o → if_open o number wanted answer ≡ Some m → MayCome m marks
answer_may None marks number wanted answer m e h = absurd cc
answer_may (Some request) marks number wanted answer m e h = by (number == wanted) h
  where
    by : (b : Bool) → (if b then Some (Answered request answer) else None) ≡ Some m → MayCome m marks
    by true q = let z : Answered request answer ≡ m = cc in let P : Mark → Type 0 = λ k. MayCome k marks in subst P z e
    by false q = absurd cc

chosen_may : (b : Bool) (k m : Mark) (marks : List Mark) → MayCome k marks → (if b then Some k else None) ≡ Some m → MayCome m marks
chosen_may true k m marks c q = let z : k ≡ m = cc in let P : Mark → Type 0 = λ j. MayCome j marks in subst P z c
chosen_may false k m marks c q = absurd cc

mark_may : (slave : Slave) (marks : List Mark) (news : News) (m : Mark) → mark_for slave marks news ≡ Some m → MayCome m marks
mark_may slave marks (Answers number sender answer) m h = by (sender == slave.id) h
  where
    by : (b : Bool) → (if b then if_open (open_request marks) number (newest_number marks) answer else None) ≡ Some m → MayCome m marks
    by true q = answer_may (open_request marks) marks number (newest_number marks) answer m refl q
    by false q = absurd cc
mark_may slave marks (Hints sender) m h = chosen_may (sender == slave.id) Hinted m marks tt h
mark_may slave marks (Brings number id payload) m h = chosen_may ((id == slave.id) && (length payload == payload_size slave.types)) (Brought number payload) m marks tt h
mark_may slave marks Nothing m h = absurd cc

pub gram_may : (talk : CourseTalk) (from : Address) (bytes : List ℕ) (m : Mark) → mark_of_gram talk from bytes ≡ Some m → MayCome m talk.marks
gram_may talk from bytes m h = by (same_address from talk.slave.address) h
  where
    by : (b : Bool) → (if b then mark_for talk.slave talk.marks (news_of bytes) else None) ≡ Some m → MayCome m talk.marks
    by true q = mark_may talk.slave talk.marks (news_of bytes) m q
    by false q = absurd cc

extended_fit : (limits : Limits) (o : Option Mark) (marks : List Mark) → ((m : Mark) → o ≡ Some m → MayCome m marks) → IsFit marks → IsFit (extended limits o marks)
extended_fit limits None marks c f = f
extended_fit limits (Some m) marks c f = stays_fit limits m marks f (c m refl)

gram_fit : (limits : Limits) (from : Address) (bytes : List ℕ) (talks : List CourseTalk) → AllTalks IsFit talks → AllTalks IsFit (map (λ talk. marked limits talk (mark_of_gram talk from bytes)) talks)
gram_fit limits from bytes [] f = tt
gram_fit limits from bytes (talk ∷ talks) f = (extended_fit limits (mark_of_gram talk from bytes) talk.marks (gram_may talk from bytes) f.0, gram_fit limits from bytes talks f.1)

turn_fit : (limits : Limits) (settled : Bool) (talks : List CourseTalk) → AllTalks IsFit talks → AllTalks IsFit (map (λ talk. marked limits talk (Some (Turned settled))) talks)
turn_fit limits settled [] f = tt
turn_fit limits settled (talk ∷ talks) f = (stays_fit limits (Turned settled) talk.marks f.0 tt, turn_fit limits settled talks f.1)

-- ---- a phase begins
abbrev pub IsFree : List Mark → Type 0
IsFree marks = open_request marks ≡ None

begun_may : (o : Option Job) (marks : List Mark) (m : Mark) → IsFree marks → begun_with o ≡ Some m → MayCome m marks
begun_may None marks m free h = absurd cc
begun_may (Some job) marks m free h = let z : Begun job ≡ m = cc in let P : Mark → Type 0 = λ k. MayCome k marks in subst P z free

next_fit : (setup : Setup) (phase : ℕ) (talks : List CourseTalk) → AllTalks IsFit talks → AllTalks IsFree talks → AllTalks IsFit (map (λ talk. marked setup.limits talk (task_begun setup phase talk)) talks)
next_fit setup phase [] f g = tt
next_fit setup phase (talk ∷ talks) f g = (extended_fit setup.limits (task_begun setup phase talk) talk.marks (λ m h. begun_may (slice_get (jobs_of setup talk.slave) (phase - 1)) talk.marks m g.0 h) f.0, next_fit setup phase talks f.1 g.1)

-- a quiet conversation that has not ended has no request open
quiet_free : (o : Option Request) (v : Verdict) (phase : ℕ) (slave : Slave) (rest : Option Report) → failed_by phase slave v rest ≡ None → (is_settled_as v && not (is_passed_as v && is_some o)) ≡ true → (o ≡ None) × (rest ≡ None)
quiet_free None verdicts.Passed phase slave rest f q = (refl, f)
quiet_free (Some r) verdicts.Passed phase slave rest f q = absurd cc
quiet_free o verdicts.Going phase slave rest f q = absurd cc
quiet_free o (verdicts.Ended cause) phase slave rest f q = absurd cc

pub all_free : (phase : ℕ) (talks : List CourseTalk) → list_all is_quiet talks ≡ true → failed phase talks ≡ None → AllTalks IsFree talks
all_free phase [] q f = tt
all_free phase (talk ∷ talks) q f =
    let p = and_parts (is_quiet talk) (list_all is_quiet talks) q in
    let h = quiet_free (open_request talk.marks) (verdict_of talk.marks) phase talk.slave (failed phase talks) f p.0 in
    (h.0, all_free phase talks p.1 h.1)

-- before the first phase nothing is open, and there is no job
abbrev pub IsBefore : List Mark → Type 0
IsBefore marks = (open_request marks ≡ None) × (job_of marks ≡ None)

no_reaction : (limits : Limits) (m : Mark) (marks : List Mark) → job_of (m ∷ marks) ≡ None → marks_after limits m marks ≡ m ∷ marks
unfolding reaction
no_reaction limits m marks e = ap (λ o. done (reaction_in limits o m marks (m ∷ marks)) (m ∷ marks)) e

before_may : (limits : Limits) (m : Mark) (marks : List Mark) → MayCome m marks → ((job : Job) → m ≡ Begun job → ⊥) → IsBefore marks → IsBefore (marks_after limits m marks)
before_may limits (Begun job) marks c no' b = absurd (no' job refl)
before_may limits (Answered request answer) marks c no' b = absurd (clash (sym c ∙ b.0))
  where
    clash : Some request ≡ None → ⊥
    clash z = cc
before_may limits Hinted marks c no' b = let P : List Mark → Type 0 = IsBefore in subst P (sym (no_reaction limits Hinted marks b.1)) b
before_may limits (Brought number payload) marks c no' b = let P : List Mark → Type 0 = IsBefore in subst P (sym (no_reaction limits (Brought number payload) marks b.1)) b
before_may limits (Turned settled) marks c no' b = let P : List Mark → Type 0 = IsBefore in subst P (sym (no_reaction limits (Turned settled) marks b.1)) b
before_may limits m marks c no' b = absurd c

mark_no_begin : (slave : Slave) (marks : List Mark) (news : News) (job : Job) → mark_for slave marks news ≡ Some (Begun job) → ⊥
mark_no_begin slave marks (Answers number sender answer) job h = by (sender == slave.id) h
  where
    opened : (o : Option Request) → if_open o number (newest_number marks) answer ≡ Some (Begun job) → ⊥
    opened None q = cc
    opened (Some r) q = one (number == newest_number marks) q
      where
        one : (c : Bool) → (if c then Some (Answered r answer) else None) ≡ Some (Begun job) → ⊥
        one true q = cc
        one false q = cc

    by : (b : Bool) → (if b then if_open (open_request marks) number (newest_number marks) answer else None) ≡ Some (Begun job) → ⊥
    by true q = opened (open_request marks) q
    by false q = cc
mark_no_begin slave marks (Hints sender) job h = by (sender == slave.id) h
  where
    by : (b : Bool) → (if b then Some Hinted else None) ≡ Some (Begun job) → ⊥
    by true q = cc
    by false q = cc
mark_no_begin slave marks (Brings number id payload) job h = by ((id == slave.id) && (length payload == payload_size slave.types)) h
  where
    by : (b : Bool) → (if b then Some (Brought number payload) else None) ≡ Some (Begun job) → ⊥
    by true q = cc
    by false q = cc
mark_no_begin slave marks Nothing job h = cc

pub gram_no_begin : (talk : CourseTalk) (from : Address) (bytes : List ℕ) (job : Job) → mark_of_gram talk from bytes ≡ Some (Begun job) → ⊥
gram_no_begin talk from bytes job h = by (same_address from talk.slave.address) h
  where
    by : (b : Bool) → (if b then mark_for talk.slave talk.marks (news_of bytes) else None) ≡ Some (Begun job) → ⊥
    by true q = mark_no_begin talk.slave talk.marks (news_of bytes) job q
    by false q = cc

extended_before : (limits : Limits) (o : Option Mark) (marks : List Mark) → ((m : Mark) → o ≡ Some m → MayCome m marks) → ((job : Job) → o ≡ Some (Begun job) → ⊥) → IsBefore marks → IsBefore (extended limits o marks)
extended_before limits None marks c no' b = b
extended_before limits (Some m) marks c no' b = before_may limits m marks (c m refl) (λ job e. no' job (ap (λ (k : Mark). Some k) e)) b

gram_before : (limits : Limits) (from : Address) (bytes : List ℕ) (talks : List CourseTalk) → AllTalks IsBefore talks → AllTalks IsBefore (map (λ talk. marked limits talk (mark_of_gram talk from bytes)) talks)
gram_before limits from bytes [] f = tt
gram_before limits from bytes (talk ∷ talks) f = (extended_before limits (mark_of_gram talk from bytes) talk.marks (gram_may talk from bytes) (gram_no_begin talk from bytes) f.0, gram_before limits from bytes talks f.1)

pub free_of : (talks : List CourseTalk) → AllTalks IsBefore talks → AllTalks IsFree talks
free_of [] b = tt
free_of (talk ∷ talks) b = ((b.0).0, free_of talks b.1)

-- ---- the course
pub record Fine (c : Course) : Type 0 where
  pub fit : AllTalks IsFit c.talks
  pub before : c.phase ≡ 0 → AllTalks IsBefore c.talks

first_fine : (slaves : List Slave) → AllTalks IsFit (map fresh_talk slaves) × AllTalks IsBefore (map fresh_talk slaves)
first_fine [] = (tt, tt)
first_fine (slave ∷ slaves) = let h = first_fine slaves in ((refl, h.0), ((refl, refl), h.1))

next_fine : (setup : Setup) (c : Course) → AllTalks IsFit c.talks → AllTalks IsFree c.talks → Fine (with_next setup c)
next_fine setup c f g = record { fit = next_fit setup (c.phase + 1) c.talks f g; before = λ z. absurd (omega (arith, z)) }

decided_fine : (setup : Setup) (c : Course) → (c.phase ≡ 0 → ⊥) → AllTalks IsFit c.talks → list_all is_quiet c.talks ≡ true → (o : Option Report) → failed c.phase c.talks ≡ o → Fine (decided setup c o)
decided_fine setup c some f q (Some report) e = record { fit = f; before = λ z. absurd (some z) }
decided_fine setup c some f q None e = by (c.phase == phases setup)
  where
    by : (b : Bool) → Fine (if b then with_report c (reports.Finished setup.steps) else with_next setup c)
    by true = record { fit = f; before = λ z. absurd (some z) }
    by false = next_fine setup c f (all_free c.phase c.talks q e)

turned_fine : (setup : Setup) (c : Course) → (c.phase ≡ 0 → ⊥) → AllTalks IsFit c.talks → Fine (course_turned setup c)
turned_fine setup c some f = by (list_all is_quiet c.talks) refl
  where
    by : (b : Bool) → list_all is_quiet c.talks ≡ b → Fine (decided_if setup b c)
    by true q = decided_fine setup c some f q (failed c.phase c.talks) refl
    by false q = record { fit = f; before = λ z. absurd (some z) }

tick_fine : (setup : Setup) (c : Course) → Fine c → Fine (course_after_turn setup c)
tick_fine setup c f = by (c.phase == 0) refl
  where
    by : (b : Bool) → (c.phase == 0) ≡ b → Fine (if b then with_next setup (still c) else course_turned setup (with_turns setup (list_all is_settled c.talks) c))
    by true q = next_fine setup (still c) f.fit (free_of c.talks (f.before (eqb-true c.phase 0 q)))
    by false q = turned_fine setup (with_turns setup (list_all is_settled c.talks) c) (eqb-false c.phase 0 q) (turn_fit setup.limits (list_all is_settled c.talks) c.talks f.fit)

step_fine : (setup : Setup) (event : Event) (c : Course) → Fine c → Fine (step setup event c)
unfolding step
step_fine setup (Gram from bytes) c f = by (is_some c.report)
  where
    by : (b : Bool) → Fine (if b then still c else after_gram setup from bytes c)
    by true = record { fit = f.fit; before = f.before }
    by false = record { fit = gram_fit setup.limits from bytes c.talks f.fit; before = λ z. gram_before setup.limits from bytes c.talks (f.before z) }
step_fine setup Tick c f = by (is_some c.report)
  where
    by : (b : Bool) → Fine (if b then still c else course_after_turn setup c)
    by true = record { fit = f.fit; before = f.before }
    by false = tick_fine setup c f

pub fine : (setup : Setup) (events : List Event) → Fine (course setup events)
fine setup [] = let h = first_fine setup.slaves in record { fit = h.0; before = λ z. h.1 }
fine setup (event ∷ events) = step_fine setup event (course setup events) (fine setup events)

pub courses_are_fit : CoursesAreFit
courses_are_fit setup events = (fine setup events).fit
