-- While some conversation has ended, in this phase some slave was asked a request of the spine.
use Rattle.std.proofs.Common.{◌≡◌, ℕ, ◌+◌, ◌%◌, ◌<◌, ◌≤◌, zero, suc, Bool, true, false, if◌then◌else◌, ◌⊎◌, inl, inr, Option, Some, None, List, [], ◌∷◌, map, length, refl, sym, ap, ◌∙◌, subst, arith}
use Rattle.std.specs.Prelude.{◌==◌, ◌&&◌, ◌||◌, is_some, nat_le, slice_get}
use Rattle.std.specs.List.{list_any, list_all}
use Rattle.std.proofs.lemmas.Bool.{eqb-true, eqb-false, le-leb}
use Rattle.dcp_types.specs.declared.addresses.Address.{Address}
use Rattle.dcp_types.specs.declared.limits.Limits.{Limits}
use Rattle.pdu_layout.specs.declared.messages.Cfg.{Cfg}
use Rattle.dcp_ends.specs.Events.{Event, Gram, Tick}
use Rattle.master_spec.specs.declared.causes.Cause.{Cause}
use Rattle.master_spec.specs.declared.causes.Verdict.{Verdict}
use Rattle.master_spec.specs.declared.causes.Verdict.TheVariants as verdicts
use Rattle.master_spec.specs.declared.reports.Report.{Report}
use Rattle.master_spec.specs.declared.reports.Report.TheVariants as reports
use Rattle.master_spec.specs.declared.reactions.Reaction.{Reaction}
use Rattle.master_spec.specs.declared.reactions.Reaction.TheVariants.{Wait, Ask, Repeat, GiveUp}
use Rattle.master_spec.specs.declared.requests.Request.{Request}
use Rattle.master_spec.specs.declared.requests.Request.TheVariants.{Change, Configure, AskState}
use Rattle.master_spec.specs.declared.requests.Answer.{Answer}
use Rattle.master_spec.specs.declared.requests.Latest.{Latest}
use Rattle.master_spec.specs.declared.requests.Latest.TheVariants as latests
use Rattle.master_spec.specs.declared.setups.Setup.{Setup}
use Rattle.master_spec.specs.Tasks.{is_by_end, task_row}
use Rattle.master_spec.specs.Jobs.{Job, asked_by}
use Rattle.master_spec.specs.Setup.{jobs_of}
use Rattle.master_spec.specs.Marks.{turns_since, is_answer, Mark, Begun, Asked, Again, Answered, Hinted, Brought, Turned, Ended, acks_change, asked, this_phase, latest, open_in, open_request, job_of, cause_of, verdict_by, verdict_of, settings_answered, is_reached, has_row_outputs, is_passed}
use Rattle.master_spec.specs.Conversation.{first_of, on_hint, on_turn, awaited_by, reaction, done, marks_after, extended}
use Rattle.master_spec.specs.Course.{CourseTalk, Course, course, mark_of_gram, marked, is_settled_as, is_settled, is_quiet, failed, begun_with, task_begun, phases, with_next, with_report, decided, with_turns, decided_if, course_turned, still, after_gram, course_after_turn, step}
use Rattle.master_spec.specs.Requests.{Asking, is_main}
use Rattle.master_log_laws.specs.Asking.Closed.{MayCome, AllTalks}
use Rattle.master_log_laws.specs.Asking.Legal.{AreLegal, GoesByRule, AllWith}
use Rattle.master_log_laws.proofs.Asking.Courses.{gram_may, gram_no_begin, Fine, fine}
use Rattle.master_log_laws.proofs.Asking.Legal.{IsFreeToGo, job_at, all_passed, all_before, turn_goes, Going, going}
use Rattle.master_log_laws.specs.Index.Index.{Placed, marks_of, first_at, again_at, decided_at}
use Rattle.master_log_laws.proofs.Index.Outputs.{IsNews, gram_news}
use Rattle.master_log_laws.proofs.Phases.Now.{now_by, now}
use Rattle.master_log_laws.proofs.Phases.Inverse.{reacts}
use Rattle.master_log_laws.proofs.Phases.Mains.{is_main_request, Asks, by_list, by_one, job_asks, asked_main, of_main}
use Rattle.master_log_laws.proofs.Phases.Tags.{has_main, no_reaction, verdict_passed}

-- ---- a main request was asked in this phase
abbrev pub asks_main : Mark → Bool
asks_main (Asked request) = is_main_request request
asks_main (Begun job) = false
asks_main Again = false
asks_main (Answered request answer) = false
asks_main Hinted = false
asks_main (Brought number payload) = false
asks_main (Turned settled) = false
asks_main (Ended cause) = false

abbrev pub has_asked : List Mark → Bool
has_asked marks = list_any asks_main (this_phase marks)

main_again : (n : ℕ) (bs : List Asking) → has_main (again_at n bs) ≡ has_main bs
main_again n [] = refl
main_again n (b ∷ bs) = refl

main_decided : (n : ℕ) (a : Answer) (bs : List Asking) → has_main (decided_at n a bs) ≡ has_main bs
main_decided n a [] = refl
main_decided n a (b ∷ bs) = refl

pub has_asked_now : (xs : List Placed) → has_asked (marks_of xs) ≡ has_main (now xs)
has_asked_now [] = refl
has_asked_now (x ∷ xs) = by x.mark (has_asked_now xs)
  where
    by : (m : Mark) → has_asked (marks_of xs) ≡ has_main (now xs) → has_asked (m ∷ marks_of xs) ≡ has_main (now_by x.place m (marks_of xs) (now xs))
    by (Begun j) h = refl
    by (Asked r) h =
        let b : Asking = first_at x.place (asked (marks_of xs) % 65536) r in
        ap (λ (t : Bool). t || has_asked (marks_of xs)) (sym (of_main r b (refl, refl))) ∙ ap (λ (t : Bool). is_main b || t) h
    by Again h = h ∙ sym (main_again x.place (now xs))
    by (Answered r a) h = h ∙ sym (main_decided x.place a (now xs))
    by Hinted h = h
    by (Brought n p) h = h
    by (Turned t) h = h
    by (Ended cause) h = h

-- ---- nothing to ask in this phase
pub record IsIdle (marks : List Mark) : Type 0 where
  pub job : Job
  pub job_is : job_of marks ≡ Some job
  pub none : asked_by job ≡ []
  pub latest_is : latest marks ≡ latests.Nothing
  pub cause_is : cause_of marks ≡ None

idle_passed : (marks : List Mark) → (k : IsIdle marks) → verdict_of marks ≡ verdicts.Passed
idle_passed marks k =
    ap (λ (c : Option Cause). verdict_by c (job_of marks) marks) k.cause_is ∙ ap (λ (j : Option Job). verdict_by None j marks) k.job_is
    ∙ ap (λ (b : Bool). if b then verdicts.Passed else verdicts.Going) (by (job_asks k.job))
  where
    by : Asks k.job → is_passed k.job marks ≡ true
    by (by_list l a) =
        ap (λ (b : Bool). if b then nat_le (length (k.job).list) (settings_answered marks) else if is_by_end (k.job).task then list_any acks_change (this_phase marks) else (is_reached (k.job).task marks && has_row_outputs (task_row (k.job).task) marks)) l
        ∙ le-leb (length (k.job).list) (settings_answered marks) (none_short (empty (k.job).list (sym a ∙ k.none)))
      where
        none_short : length (k.job).list ≡ 0 → length (k.job).list ≤ settings_answered marks
        none_short z = omega (arith, z)

        empty : (list : List Cfg) → map Configure list ≡ [] → length list ≡ 0
        empty [] e = refl
        empty (b ∷ list) e = absurd cc
    by (by_one s b l a) = let z : Change s b ∷ [] ≡ [] = sym a ∙ k.none in absurd cc

-- ---- what keeps either
abbrev pub Stays : List Mark → List Mark → Type 0
Stays before later = (has_asked before ≡ true → has_asked later ≡ true) × (IsIdle before → IsIdle later)

asked_done : (r : Reaction) (marks : List Mark) → has_asked marks ≡ true → has_asked (done r marks) ≡ true
asked_done Wait marks h = h
asked_done (Ask q) marks h = by (is_main_request q)
  where
    by : (b : Bool) → (b || has_asked marks) ≡ true
    by true = refl
    by false = h
asked_done Repeat marks h = h
asked_done (GiveUp cause) marks h = h

idle_waits : (limits : Limits) (m : Mark) (marks : List Mark) → reaction limits m marks ≡ Wait → IsIdle (m ∷ marks) → IsIdle (marks_after limits m marks)
idle_waits limits m marks e k = let P : Reaction → Type 0 = λ r. IsIdle (done r (m ∷ marks)) in subst P (sym e) k

closed : (marks : List Mark) (r : Request) → IsIdle marks → open_request marks ≡ Some r → ⊥
closed marks r k o = let z : None ≡ Some r = sym (ap open_in k.latest_is) ∙ o in cc

-- what comes from outside
coming : (limits : Limits) (m : Mark) (marks : List Mark) → MayCome m marks → ((job : Job) → m ≡ Begun job → ⊥) → ((settled : Bool) → m ≡ Turned settled → settled ≡ true ⊎ (IsIdle marks → ⊥)) → Stays marks (marks_after limits m marks)
coming limits (Begun j) marks c n s = absurd (n j refl)
coming limits (Asked r) marks c n s = absurd c
coming limits Again marks c n s = absurd c
coming limits (Ended cause) marks c n s = absurd c
coming limits (Answered r a) marks c n s = (λ h. asked_done (reaction limits (Answered r a) marks) (Answered r a ∷ marks) h, λ k. absurd (closed marks r k c))
coming limits Hinted marks c n s = (
  λ h. asked_done (reaction limits Hinted marks) (Hinted ∷ marks) h,
  λ k. idle_waits limits Hinted marks (reacts limits Hinted marks k.job k.cause_is k.job_is ∙ ap (λ (x : Latest). on_hint (awaited_by k.job x (Hinted ∷ marks))) k.latest_is)
      (record { job = k.job; job_is = k.job_is; none = k.none; latest_is = k.latest_is; cause_is = k.cause_is }),
)
coming limits (Brought number payload) marks c n s = (
  λ h. asked_done (reaction limits (Brought number payload) marks) (Brought number payload ∷ marks) h,
  λ k. idle_waits limits (Brought number payload) marks (reacts limits (Brought number payload) marks k.job k.cause_is k.job_is)
      (record { job = k.job; job_is = k.job_is; none = k.none; latest_is = k.latest_is; cause_is = k.cause_is }),
)
coming limits (Turned t) marks c n s = (
  λ h. asked_done (reaction limits (Turned t) marks) (Turned t ∷ marks) h,
  λ k. by (s t refl) k,
)
  where
    or_true : (b c : Bool) → c ≡ true → (b || c) ≡ true
    or_true true c e = refl
    or_true false c e = e

    by : (t ≡ true) ⊎ (IsIdle marks → ⊥) → IsIdle marks → IsIdle (marks_after limits (Turned t) marks)
    by (inl e) k =
        idle_waits limits (Turned t) marks
        (reacts limits (Turned t) marks k.job k.cause_is k.job_is ∙ ap (λ (x : Latest). on_turn limits k.job (awaited_by k.job x (Turned t ∷ marks)) t (Turned t ∷ marks)) k.latest_is
        ∙ ap (λ (b : Bool). if b then Wait else (if nat_le limits.watch_turns (turns_since is_answer (Turned t ∷ marks)) then Ask AskState else Wait)) (or_true (is_by_end (k.job).task) t e))
        (record { job = k.job; job_is = k.job_is; none = k.none; latest_is = k.latest_is; cause_is = k.cause_is })
    by (inr n) k = absurd (n k)

-- a phase begins
begins : (limits : Limits) (j : Job) (marks : List Mark) → cause_of marks ≡ None → (has_asked (marks_after limits (Begun j) marks) ≡ true) ⊎ IsIdle (marks_after limits (Begun j) marks)
begins limits j marks c = by (asked_by j) refl
  where
    e : reaction limits (Begun j) marks ≡ first_of (asked_by j)
    e = reacts limits (Begun j) marks j c refl

    P : Reaction → Type 0
    P r = (has_asked (done r (Begun j ∷ marks)) ≡ true) ⊎ IsIdle (done r (Begun j ∷ marks))

    by : (rs : List Request) → asked_by j ≡ rs → P (reaction limits (Begun j) marks)
    by [] a = subst P (sym (e ∙ ap first_of a)) (inr (record { job = j; job_is = refl; none = a; latest_is = refl; cause_is = c }))
    by (r ∷ rs) a =
        let m : is_main_request r ≡ true = asked_main j 0 r (ap (λ (qs : List Request). slice_get qs 0) a) in
        subst P (sym (e ∙ ap first_of a)) (inl (ap (λ (b : Bool). b || false) m))

-- ---- all conversations
abbrev pub Someone : List CourseTalk → Type 0
Someone talks = (i : ℕ) × ((u : CourseTalk) × ((slice_get talks i ≡ Some u) × (has_asked u.marks ≡ true)))

abbrev pub Either : List CourseTalk → Type 0
Either talks = Someone talks ⊎ AllTalks IsIdle talks

someone_on : (f : CourseTalk → CourseTalk) → ((u : CourseTalk) → has_asked u.marks ≡ true → has_asked (f u).marks ≡ true) → (us : List CourseTalk) (i : ℕ) (u : CourseTalk) → slice_get us i ≡ Some u → has_asked u.marks ≡ true → Someone (map f us)
someone_on f a [] i u e h = absurd cc
someone_on f a (v ∷ vs) zero u e h = let z : v ≡ u = cc in (0, (f v, (refl, a v (ap (λ (x : CourseTalk). has_asked x.marks) z ∙ h))))
someone_on f a (v ∷ vs) (suc i) u e h = let y = someone_on f a vs i u e h in (suc y.0, ((y.1).0, (((y.1).1).0, ((y.1).1).1)))

map_stays : (f : CourseTalk → CourseTalk) (talks : List CourseTalk) → ((u : CourseTalk) → has_asked u.marks ≡ true → has_asked (f u).marks ≡ true) → ((u : CourseTalk) → IsIdle u.marks → IsIdle (f u).marks) → Either talks → Either (map f talks)
map_stays f talks a k (inl s) = inl (someone_on f a talks s.0 (s.1).0 ((s.1).1).0 ((s.1).1).1)
map_stays f talks a k (inr s) = inr (all talks s)
  where
    all : (us : List CourseTalk) → AllTalks IsIdle us → AllTalks IsIdle (map f us)
    all [] h = tt
    all (u ∷ us) h = (k u h.0, all us h.1)

idle_settled : (talks : List CourseTalk) → AllTalks IsIdle talks → list_all is_settled talks ≡ true
idle_settled [] k = refl
idle_settled (u ∷ us) k = ap (λ (v : Verdict). is_settled_as v && list_all is_settled us) (idle_passed u.marks k.0) ∙ idle_settled us k.1

gram_either : (limits : Limits) (from : Address) (bytes : List ℕ) (talks : List CourseTalk) → Either talks → Either (map (λ talk. marked limits talk (mark_of_gram talk from bytes)) talks)
gram_either limits from bytes talks s = map_stays (λ talk. marked limits talk (mark_of_gram talk from bytes)) talks (λ u h. (one u).0 h) (λ u k. (one u).1 k) s
  where
    by : (u : CourseTalk) (o : Option Mark) → mark_of_gram u from bytes ≡ o → Stays u.marks (extended limits o u.marks)
    by u None e = (λ h. h, λ k. k)
    by u (Some m) e = coming limits m u.marks (gram_may u from bytes m e) (λ job z. gram_no_begin u from bytes job (e ∙ ap (λ (x : Mark). Some x) z)) (λ t z. absurd (no_turn t z))
      where
        no_turn : (t : Bool) → m ≡ Turned t → ⊥
        no_turn t z = let P : Mark → Type 0 = λ x. IsNews x in subst P z (gram_news u.slave u.marks from bytes m e)

    one : (u : CourseTalk) → Stays u.marks (extended limits (mark_of_gram u from bytes) u.marks)
    one u = by u (mark_of_gram u from bytes) refl

turn_either : (limits : Limits) (talks : List CourseTalk) → Either talks → Either (map (λ talk. marked limits talk (Some (Turned (list_all is_settled talks)))) talks)
turn_either limits talks (inl s) = inl (someone_on (λ talk. marked limits talk (Some (Turned (list_all is_settled talks)))) (λ u h. asked_done (reaction limits (Turned (list_all is_settled talks)) u.marks) (Turned (list_all is_settled talks) ∷ u.marks) h) talks s.0 (s.1).0 ((s.1).1).0 ((s.1).1).1)
turn_either limits talks (inr k) =
    map_stays (λ talk. marked limits talk (Some (Turned (list_all is_settled talks)))) talks (λ u h. asked_done (reaction limits (Turned (list_all is_settled talks)) u.marks) (Turned (list_all is_settled talks) ∷ u.marks) h)
    (λ u i. (coming limits (Turned (list_all is_settled talks)) u.marks tt (λ job z. clash job z) (λ t z. inl (same t z ∙ idle_settled talks k))).1 i) (inr k)
  where
    clash : (job : Job) → Turned (list_all is_settled talks) ≡ Begun job → ⊥
    clash job z = cc

    same : (t : Bool) → Turned (list_all is_settled talks) ≡ Turned t → t ≡ list_all is_settled talks
    same t z = cc

-- without a job no conversation has ended
pub no_cause : (limits : Limits) (js : List Job) (marks : List Mark) → AreLegal limits js marks → job_of marks ≡ None → cause_of marks ≡ None
no_cause limits js [] l e = refl
no_cause limits js (Begun j ∷ marks) l e = absurd cc
no_cause limits js (Asked r ∷ marks) l e = no_cause limits js marks l.1 e
no_cause limits js (Again ∷ marks) l e = no_cause limits js marks l.1 e
no_cause limits js (Answered r a ∷ marks) l e = no_cause limits js marks l.1 e
no_cause limits js (Hinted ∷ marks) l e = no_cause limits js marks l.1 e
no_cause limits js (Brought n p ∷ marks) l e = no_cause limits js marks l.1 e
no_cause limits js (Turned t ∷ marks) l e = no_cause limits js marks l.1 e
no_cause limits js (Ended cause ∷ []) l e = absurd l.0
no_cause limits js (Ended cause ∷ m ∷ marks) l e = let z : Wait ≡ GiveUp cause = sym (no_reaction limits m marks e) ∙ l.0 in absurd cc

module _ (setup : Setup) (runs : 1 ≤ setup.runs) where
  next_either : (phase : ℕ) (talks : List CourseTalk) → phase < phases setup → AllWith (λ slave marks. GoesByRule setup.limits (jobs_of setup slave) phase marks) talks → AllTalks IsFreeToGo talks
      → Either (map (λ talk. marked setup.limits talk (task_begun setup (phase + 1) talk)) talks)
  next_either phase [] l g f = inr tt
  next_either phase (u ∷ us) l g f = both (one u g.0 f.0) (next_either phase us l g.1 f.1)
    where
      ending : (u : CourseTalk) → GoesByRule setup.limits (jobs_of setup u.slave) phase u.marks → IsFreeToGo u.marks → cause_of u.marks ≡ None
      ending u g f = by f.1
        where
          by : (job_of u.marks ≡ None) ⊎ (verdict_of u.marks ≡ verdicts.Passed) → cause_of u.marks ≡ None
          by (inl e) = no_cause setup.limits (jobs_of setup u.slave) u.marks g.legal e
          by (inr v) = (verdict_passed u.marks v).cause_is

      one : (u : CourseTalk) → GoesByRule setup.limits (jobs_of setup u.slave) phase u.marks → IsFreeToGo u.marks
          → (has_asked (extended setup.limits (task_begun setup (phase + 1) u) u.marks) ≡ true) ⊎ IsIdle (extended setup.limits (task_begun setup (phase + 1) u) u.marks)
      one u g f =
          let j = job_at setup runs phase u.slave l in
          let e : task_begun setup (phase + 1) u ≡ Some (Begun j.0) = ap (λ (n : ℕ). begun_with (slice_get (jobs_of setup u.slave) n)) (omega arith) ∙ ap begun_with j.1 in
          let P : Option Mark → Type 0 = λ o. (has_asked (extended setup.limits o u.marks) ≡ true) ⊎ IsIdle (extended setup.limits o u.marks) in
          subst P (sym e) (begins setup.limits j.0 u.marks (ending u g f))

      both : (has_asked (extended setup.limits (task_begun setup (phase + 1) u) u.marks) ≡ true) ⊎ IsIdle (extended setup.limits (task_begun setup (phase + 1) u) u.marks)
          → Either (map (λ talk. marked setup.limits talk (task_begun setup (phase + 1) talk)) us) → Either (map (λ talk. marked setup.limits talk (task_begun setup (phase + 1) talk)) (u ∷ us))
      both (inl h) s = inl (0, (marked setup.limits u (task_begun setup (phase + 1) u), (refl, h)))
      both (inr h) (inl s) = inl (suc s.0, ((s.1).0, (((s.1).1).0, ((s.1).1).1)))
      both (inr h) (inr s) = inr (h, s)

  abbrev pub Present : Course → Type 0
  Present c = (c.phase ≡ 0) ⊎ Either c.talks

  decided_present : (c : Course) → Going setup runs c → list_all is_quiet c.talks ≡ true → Either c.talks → (o : Option Report) → failed c.phase c.talks ≡ o → Present (decided setup c o)
  decided_present c g q s (Some report) e = inr s
  decided_present c g q s None e = by (c.phase == phases setup) refl
    where
      by : (b : Bool) → (c.phase == phases setup) ≡ b → Present (if b then with_report c (reports.Finished setup.steps) else with_next setup c)
      by true z = inr s
      by false z =
          let few = g.few in
          let other = eqb-false c.phase (phases setup) z in
          inr (next_either c.phase c.talks (omega (arith, few, other)) g.goes (all_passed setup runs c.phase c.talks q e))

  turned_present : (c : Course) → Going setup runs c → Either c.talks → Present (course_turned setup c)
  turned_present c g s = by (list_all is_quiet c.talks) refl
    where
      by : (b : Bool) → list_all is_quiet c.talks ≡ b → Present (decided_if setup b c)
      by true q = decided_present c g q s (failed c.phase c.talks) refl
      by false q = inr s

  tick_present : (c : Course) → Fine c → Going setup runs c → Present c → Present (course_after_turn setup c)
  tick_present c f g s = by (c.phase == 0) refl s
    where
      by : (b : Bool) → (c.phase == 0) ≡ b → Present c → Present (if b then with_next setup (still c) else course_turned setup (with_turns setup (list_all is_settled c.talks) c))
      by true z s =
          let zero_is = eqb-true c.phase 0 z in
          inr (next_either c.phase c.talks (omega (arith, zero_is)) g.goes (all_before setup runs c.talks (f.before zero_is)))
      by false z (inl s) = absurd (eqb-false c.phase 0 z s)
      by false z (inr s) =
          turned_present (with_turns setup (list_all is_settled c.talks) c) (record { few = g.few; goes = turn_goes setup runs c.phase (list_all is_settled c.talks) c.talks g.goes }) (turn_either setup.limits c.talks s)

step_present : (setup : Setup) (runs : 1 ≤ setup.runs) (event : Event) (c : Course) → Fine c → Going setup runs c → Present setup runs c → Present setup runs (step setup event c)
unfolding step
step_present setup runs (Gram from bytes) c f g s = by (is_some c.report) s
  where
    by : (b : Bool) → Present setup runs c → Present setup runs (if b then still c else after_gram setup from bytes c)
    by true s = s
    by false (inl s) = inl s
    by false (inr s) = inr (gram_either setup.limits from bytes c.talks s)
step_present setup runs Tick c f g s = by (is_some c.report)
  where
    by : (b : Bool) → Present setup runs (if b then still c else course_after_turn setup c)
    by true = s
    by false = tick_present setup runs c f g s

pub present : (setup : Setup) (runs : 1 ≤ setup.runs) (events : List Event) → Present setup runs (course setup events)
present setup runs [] = inl refl
present setup runs (event ∷ events) = step_present setup runs event (course setup events) (fine setup events) (going setup runs events) (present setup runs events)
