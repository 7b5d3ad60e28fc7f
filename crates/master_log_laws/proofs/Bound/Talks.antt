-- All conversations at once: how many turns the phase has left.
use Rattle.std.proofs.Common.{◌≡◌, ℕ, ◌+◌, ◌-◌, ◌*◌, ◌≤◌, ◌==◌, ◌&&◌, not, Bool, true, false, Option, Some, None, List, [], ◌∷◌, map, length, drop, refl, sym, ap, subst, ◌∙◌, arith}
use Rattle.std.specs.Prelude.{is_some, if◌then◌else◌, slice_get}
use Rattle.std.specs.List.{AllByRecursion, list_all}
use mathlib.Core.Logic.{◌⊎◌, inl, inr}
use Rattle.std.proofs.lemmas.Bool.{and_cases, and_from}
use Rattle.std.proofs.Math.Nat.{mul-le-mul_right}
use Rattle.scenario.specs.Sound.{IsLimits}
use Rattle.dcp_types.specs.declared.addresses.Address.{Address}
use Rattle.dcp_types.specs.declared.limits.Limits.{Limits}
use Rattle.dcp_ends.specs.Logs.{same_address}
use Rattle.master_spec.specs.declared.causes.Cause.{Cause}
use Rattle.master_spec.specs.declared.causes.Verdict.{Verdict}
use Rattle.master_spec.specs.declared.causes.Verdict.TheVariants as verdicts
use Rattle.master_spec.specs.declared.requests.Request.{Request}
use Rattle.master_spec.specs.declared.requests.Answer.{Answer}
use Rattle.master_spec.specs.declared.setups.Slave.{Slave}
use Rattle.master_spec.specs.declared.setups.Setup.{Setup}
use Rattle.master_spec.specs.Jobs.{Job}
use Rattle.master_spec.specs.News.{News, Answers, Hints, Brings, Nothing, news_of}
use Rattle.master_spec.specs.Marks.{Mark, Begun, Answered, Hinted, Brought, Turned, open_request, newest_number, verdict_of}
use Rattle.master_spec.specs.Conversation.{extended, if_open}
use Rattle.master_spec.specs.Setup.{jobs_of}
use Rattle.master_spec.specs.Course.{CourseTalk, mark_for, mark_of_gram, marked, payload_size, is_settled, is_settled_as, is_passed_as, is_quiet, task_begun, begun_with}
use Rattle.master_log_laws.proofs.Bound.Budgets.{patience, closing}
use Rattle.master_log_laws.proofs.Bound.Places.{Stay}
use Rattle.master_log_laws.proofs.Bound.Turns.{turned}
use Rattle.master_log_laws.proofs.Bound.Heard.{stays_hinted, stays_brought, stays_answered}
use Rattle.master_log_laws.proofs.Bound.Begins.{whole, begins}
use Rattle.master_log_laws.proofs.Bound.Stays.{Done, going_room, all_done}
use Rattle.master_log_laws.proofs.Bound.Sizes.{AreWithin, sizes_of, within_at}

-- each conversation has at most n turns left
abbrev pub AllStay : Limits → ℕ → List CourseTalk → Type 0
AllStay l n talks = AllByRecursion (λ talk. Stay l n talk.marks) talks

-- the jobs of each slave are within the sizes of the setup
abbrev pub AllOwn : Setup → List CourseTalk → Type 0
AllOwn setup talks = AllByRecursion (λ talk. AreWithin (jobs_of setup talk.slave) (sizes_of setup)) talks

each : (P Q : CourseTalk → Type 0) (f : CourseTalk → CourseTalk) (talks : List CourseTalk) → ((talk : CourseTalk) → P talk → Q (f talk)) → AllByRecursion P talks → AllByRecursion Q (map f talks)
each P Q f [] h a = tt
each P Q f (talk ∷ talks) h a = (h talk a.0, each P Q f talks h a.1)

-- a mark leaves each slave as it is
pub all_own : (setup : Setup) (m : CourseTalk → Option Mark) (talks : List CourseTalk) → AllOwn setup talks → AllOwn setup (map (λ talk. marked setup.limits talk (m talk)) talks)
all_own setup m talks a =
    each (λ talk. AreWithin (jobs_of setup talk.slave) (sizes_of setup)) (λ talk. AreWithin (jobs_of setup talk.slave) (sizes_of setup)) (λ talk. marked setup.limits talk (m talk)) talks (λ talk h. h) a

-- ---- a datagram

if_answer : (l : Limits) (n number wanted : ℕ) (answer : Answer) (marks : List Mark) (o : Option Request) → IsLimits l → open_request marks ≡ o → Stay l n marks → Stay l n (extended l (if_open o number wanted answer) marks)
if_answer l n number wanted answer marks None lim e h = h
if_answer l n number wanted answer marks (Some r) lim e h = by (number == wanted)
  where
    by : (b : Bool) → Stay l n (extended l (if b then Some (Answered r answer) else None) marks)
    by true = stays_answered l n r answer marks lim e h
    by false = h

heard : (l : Limits) (n : ℕ) (slave : Slave) (marks : List Mark) (news : News) → IsLimits l → Stay l n marks → Stay l n (extended l (mark_for slave marks news) marks)
heard l n slave marks (Answers number sender answer) lim h = by (sender == slave.id)
  where
    by : (b : Bool) → Stay l n (extended l (if b then if_open (open_request marks) number (newest_number marks) answer else None) marks)
    by true = if_answer l n number (newest_number marks) answer marks (open_request marks) lim refl h
    by false = h
heard l n slave marks (Hints sender) lim h = by (sender == slave.id)
  where
    by : (b : Bool) → Stay l n (extended l (if b then Some Hinted else None) marks)
    by true = stays_hinted l n marks lim h
    by false = h
heard l n slave marks (Brings number id payload) lim h = by ((id == slave.id) && (length payload == payload_size slave.types))
  where
    by : (b : Bool) → Stay l n (extended l (if b then Some (Brought number payload) else None) marks)
    by true = stays_brought l n number payload marks h
    by false = h
heard l n slave marks Nothing lim h = h

heard_from : (l : Limits) (n : ℕ) (from : Address) (bytes : List ℕ) (talk : CourseTalk) → IsLimits l → Stay l n talk.marks → Stay l n (marked l talk (mark_of_gram talk from bytes)).marks
heard_from l n from bytes talk lim h = by (same_address from talk.slave.address)
  where
    by : (b : Bool) → Stay l n (extended l (if b then mark_for talk.slave talk.marks (news_of bytes) else None) talk.marks)
    by true = heard l n talk.slave talk.marks (news_of bytes) lim h
    by false = h

pub all_heard : (l : Limits) (n : ℕ) (from : Address) (bytes : List ℕ) (talks : List CourseTalk) → IsLimits l → AllStay l n talks → AllStay l n (map (λ talk. marked l talk (mark_of_gram talk from bytes)) talks)
all_heard l n from bytes talks lim a =
    each (λ talk. Stay l n talk.marks) (λ talk. Stay l n talk.marks) (λ talk. marked l talk (mark_of_gram talk from bytes)) talks (λ talk h. heard_from l n from bytes talk lim h) a

-- ---- a turn

pub all_turned : (l : Limits) (n m : ℕ) (settled : Bool) (talks : List CourseTalk) → IsLimits l → n ≤ m + 1 → (settled ≡ false → patience l + patience l ≤ m) → AllStay l n talks → AllStay l m (map (λ talk. marked l talk (Some (Turned settled))) talks)
all_turned l n m settled talks lim le beat a =
    each (λ talk. Stay l n talk.marks) (λ talk. Stay l m talk.marks) (λ talk. marked l talk (Some (Turned settled))) talks (λ talk h. turned l n m settled talk.marks lim le beat h) a

unsettled : (v : Verdict) → is_settled_as v ≡ false → v ≡ verdicts.Going
unsettled verdicts.Going e = refl
unsettled verdicts.Passed e = absurd (cc)
unsettled (verdicts.Ended cause) e = absurd (cc)

-- where some conversation is going, there is room for all that may follow once it is settled
pub some_going : (l : Limits) (n : ℕ) (talks : List CourseTalk) → IsLimits l → AllStay l n talks → list_all is_settled talks ≡ false → closing l + 1 ≤ n
some_going l n [] lim a e = absurd (cc)
some_going l n (talk ∷ talks) lim a e = by (and_cases (is_settled talk) (list_all is_settled talks) e) (λ f. some_going l n talks lim a.1 f)
  where
    by : (is_settled talk ≡ false) ⊎ (list_all is_settled talks ≡ false) → (list_all is_settled talks ≡ false → closing l + 1 ≤ n) → closing l + 1 ≤ n
    by (inl f) g = going_room l n talk.marks lim a.0 (unsettled (verdict_of talk.marks) f)
    by (inr f) g = g f

quiet_as : (v : Verdict) (o : Option Request) (talk : CourseTalk) → verdict_of talk.marks ≡ v → open_request talk.marks ≡ o → is_quiet talk ≡ (is_settled_as v && not (is_passed_as v && is_some o))
quiet_as v o talk e f =
    ap (λ (x : Verdict). is_settled_as x && not (is_passed_as x && is_some (open_request talk.marks))) e
    ∙ ap (λ (x : Option Request). is_settled_as v && not (is_passed_as v && is_some x)) f

quiet_one : (l : Limits) (talk : CourseTalk) → ((cause : Cause) × (verdict_of talk.marks ≡ verdicts.Ended cause)) ⊎ Done talk.marks → is_quiet talk ≡ true
quiet_one l talk (inl h) = quiet_as (verdicts.Ended h.0) (open_request talk.marks) talk h.1 refl
quiet_one l talk (inr h) = quiet_as verdicts.Passed None talk h.passed h.closed

-- with no turn left all are quiet
pub all_quiet : (l : Limits) (talks : List CourseTalk) → IsLimits l → AllStay l 0 talks → list_all is_quiet talks ≡ true
all_quiet l [] lim a = refl
all_quiet l (talk ∷ talks) lim a = and_from (is_quiet talk) (list_all is_quiet talks) (quiet_one l talk (all_done l talk.marks lim a.0)) (all_quiet l talks lim a.1)

-- ---- the begin of a phase

begun_one : (setup : Setup) (n p x : ℕ) (rest : List ℕ) (talk : CourseTalk) → IsLimits setup.limits → whole setup.limits x ≤ n → drop p (sizes_of setup) ≡ x ∷ rest → AreWithin (jobs_of setup talk.slave) (sizes_of setup)
    → Stay setup.limits n (marked setup.limits talk (task_begun setup (p + 1) talk)).marks
begun_one setup n p x rest talk lim h e own = by (within_at (jobs_of setup talk.slave) (sizes_of setup) p x rest own e)
  where
    by : (job : Job) × (slice_get (jobs_of setup talk.slave) p ≡ Some job) × (length job.list ≤ x) → Stay setup.limits n (extended setup.limits (task_begun setup (p + 1) talk) talk.marks)
    by w =
        let job = w.0 in
        let place : slice_get (jobs_of setup talk.slave) (p + 1 - 1) ≡ slice_get (jobs_of setup talk.slave) p = ap (λ (i : ℕ). slice_get (jobs_of setup talk.slave) i) (omega arith) in
        let is : task_begun setup (p + 1) talk ≡ Some (Begun job) = ap (λ (o : Option Job). begun_with o) (place ∙ w.1) in
        let few : length job.list * patience setup.limits ≤ x * patience setup.limits = mul-le-mul_right (patience setup.limits) w.2 in
        subst (λ (m : Option Mark). Stay setup.limits n (extended setup.limits m talk.marks)) (sym is) (begins setup.limits n talk.marks job lim (omega (arith, h, few)))

pub all_begun : (setup : Setup) (n p x : ℕ) (rest : List ℕ) (talks : List CourseTalk) → IsLimits setup.limits → whole setup.limits x ≤ n → drop p (sizes_of setup) ≡ x ∷ rest → AllOwn setup talks
    → AllStay setup.limits n (map (λ talk. marked setup.limits talk (task_begun setup (p + 1) talk)) talks)
all_begun setup n p x rest talks lim h e a =
    each (λ talk. AreWithin (jobs_of setup talk.slave) (sizes_of setup)) (λ talk. Stay setup.limits n talk.marks) (λ talk. marked setup.limits talk (task_begun setup (p + 1) talk)) talks (λ talk own. begun_one setup n p x rest talk lim h e own) a
