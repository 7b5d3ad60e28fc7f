-- Once there is a report, the log tells the requests of the marks, but for a late answer to the newest.
use Rattle.master_log_laws.proofs.Index.Dates.{dated_later}
use Rattle.std.proofs.Common.{◌≡◌, ℕ, ◌≤◌, zero, suc, Bool, true, false, if◌then◌else◌, ◌⊎◌, inl, inr, Option, Some, None, List, [], ◌∷◌, refl, sym, ap, ◌∙◌, subst}
use Rattle.std.specs.Prelude.{◌&&◌, not, is_some, slice_get, length}
use Rattle.std.specs.List.{list_all}
use Rattle.std.proofs.lemmas.Bool.{and_parts}
use Rattle.dcp_types.specs.declared.addresses.Address.{Address}
use Rattle.dcp_ends.specs.declared.entries.LogEntry.{LogEntry}
use Rattle.dcp_ends.specs.declared.entries.LogEntry.TheVariants.{Sent, Got, Idle, Turn}
use Rattle.dcp_ends.specs.Events.{Event, Gram, Tick, Send}
use Rattle.dcp_ends.specs.Logs.{same_address}
use Rattle.pdu_layout.specs.Reading.{message_in}
use Rattle.master_spec.specs.declared.requests.Request.{Request}
use Rattle.master_spec.specs.declared.causes.Cause.{Cause}
use Rattle.master_spec.specs.declared.causes.Verdict.{Verdict}
use Rattle.master_spec.specs.declared.causes.Verdict.TheVariants as verdicts
use Rattle.master_spec.specs.declared.reports.Report.{Report}
use Rattle.master_spec.specs.declared.setups.Slave.{Slave}
use Rattle.master_spec.specs.declared.setups.Setup.{Setup}
use Rattle.master_spec.specs.Jobs.{Job}
use Rattle.master_spec.specs.News.{news_of}
use Rattle.master_spec.specs.Marks.{Mark, open_request, cause_of, job_of, verdict_by, verdict_of, is_passed}
use Rattle.master_spec.specs.Course.{Course, course, is_settled_as, is_passed_as, is_quiet}
use Rattle.master_spec.specs.Requests.{Asking, with_news, with_asking, asking_in, asks}
use Rattle.master_log_laws.specs.Index.Runs.{events_of_master, with_event, course_at, tail, owed, IsFirstSend, where_it_is, MasterActs, IsRun}
use Rattle.master_log_laws.specs.Index.Index.{marks_of, askings_told, IsAsked, IsAgain, Owes}
use Rattle.master_log_laws.specs.Index.Follows.{mine, talk_with, Listens, FollowsCourse}
use Rattle.master_log_laws.specs.Index.Late.{AreLate, StandsByLog}
use Rattle.master_log_laws.proofs.Index.Runs.{free_owes, follow, followed, step_still}
use Rattle.master_log_laws.proofs.Index.Late.{late_refl, late_trans, late_news, all_report}

pub all_get : {A : Type 0} → (p : A → Bool) (xs : List A) (i : ℕ) (x : A) → list_all p xs ≡ true → slice_get xs i ≡ Some x → p x ≡ true
all_get p [] i x h e = absurd cc
all_get p (y ∷ ys) zero x h e = let z : y ≡ x = cc in ap p (sym z) ∙ (and_parts (p y) (list_all p ys) h).0
all_get p (y ∷ ys) (suc i) x h e = all_get p ys i x (and_parts (p y) (list_all p ys) h).1 e

ended_owes : (good : Request → Type 0) (id : ℕ) (posts : List (List ℕ)) (marks older : List Mark) (cause : Cause) → Owes good id posts marks older → cause_of marks ≡ Some cause → posts ≡ []
ended_owes good id [] marks older cause o f = refl
ended_owes good id (b ∷ c ∷ more) marks older cause o f = absurd o
ended_owes good id (b ∷ []) marks older cause o f = by o.0 ((o.1).1).0 ((o.1).1).1
  where
    clash : None ≡ Some cause → ⊥
    clash z = cc

    by : (r : Request) → cause_of older ≡ None → IsAsked id b marks older r ⊎ IsAgain id b marks older r → b ∷ [] ≡ []
    by r n (inl k) = absurd (clash (sym n ∙ ap cause_of (sym k.0) ∙ f))
    by r n (inr k) = absurd (clash (sym n ∙ ap cause_of (sym k.0) ∙ f))

pub quiet_open : (o : Option Request) (v : Verdict) → (is_settled_as v && not (is_passed_as v && is_some o)) ≡ true → (o ≡ None) ⊎ ((cause : Cause) × (v ≡ verdicts.Ended cause))
quiet_open None v h = inl refl
quiet_open (Some r) verdicts.Going h = absurd cc
quiet_open (Some r) verdicts.Passed h = absurd cc
quiet_open (Some r) (verdicts.Ended cause) h = inr (cause, refl)

pub ended_cause : (o : Option Cause) (j : Option Job) (marks : List Mark) (cause : Cause) → verdict_by o j marks ≡ verdicts.Ended cause → o ≡ Some cause
ended_cause (Some c) j marks cause h = let z : c ≡ cause = cc in ap (λ (y : Cause). Some y) z
ended_cause None None marks cause h = absurd cc
ended_cause None (Some job) marks cause h = by (is_passed job marks) h
  where
    by : (b : Bool) → (if b then verdicts.Passed else verdicts.Going) ≡ verdicts.Ended cause → None ≡ Some cause
    by true z = absurd cc
    by false z = absurd cc

quiet_owes : (good : Request → Type 0) (id : ℕ) (posts : List (List ℕ)) (slave : Slave) (marks older : List Mark) → Owes good id posts marks older → is_quiet (talk_with slave marks) ≡ true → posts ≡ []
quiet_owes good id posts slave marks older o q = by (quiet_open (open_request marks) (verdict_of marks) q)
  where
    by : (open_request marks ≡ None) ⊎ ((cause : Cause) × (verdict_of marks ≡ verdicts.Ended cause)) → posts ≡ []
    by (inl e) = free_owes good id posts marks older o e
    by (inr e) = ended_owes good id posts marks older e.0 o (ended_cause (cause_of marks) (job_of marks) marks e.0 e.1)

module _ (setup : Setup) (good : Request → Type 0) (i : ℕ) (slave : Slave) (k : Listens setup good i slave) where
  abbrev pub Rests : List LogEntry → Course → List Send → List Asking → Type 0
  Rests log c posts bs = StandsByLog setup i slave log c bs × (mine slave.address posts ≡ [])

  -- one more entry leaves the dates
  abbrev one_later : (e : LogEntry) (log : List LogEntry) (c : Course) (posts : List Send) (bs : List Asking) → Rests log c posts bs → Rests (e ∷ log) c posts bs
  one_later e log c posts bs s =
      let z = s.0 in
      (record { xs = z.xs; here = z.here; head = z.head; shut = z.shut; late = z.late; until = z.until; dated = dated_later setup slave e log z.until z.xs z.dated }, s.1)

  comes : (log : List LogEntry) (c : Course) (posts : List Send) (bs : List Asking) → list_all is_quiet c.talks ≡ true → FollowsCourse setup good i slave log (length log) c posts bs → Rests log c posts bs
  comes log c posts bs q f =
      let t = f.tracks in
      let none = quiet_owes good slave.id (mine slave.address posts) slave f.marks (marks_of f.xs) t.owes (all_get is_quiet c.talks i (talk_with slave f.marks) q f.here) in
      let P : List (List ℕ) → Type 0 = λ z. Owes good slave.id z f.marks (marks_of f.xs) in
      let Q : List Asking → Type 0 = λ z. AreLate (length log) z (askings_told f.xs) in
      let e : f.marks ≡ marks_of f.xs = subst P none t.owes in
      (record { xs = f.xs; here = f.here ∙ ap (λ z. Some (talk_with slave z)) e; head = t.head; shut = t.shut; late = subst Q (sym t.is) (late_refl (length log) (askings_told f.xs)); until = length log; dated = f.dated }, none)

  more_news : (log : List LogEntry) (c : Course) (posts : List Send) (bs : List Asking) (n : ℕ) (bytes : List ℕ) (t : Bool) → (s : Rests log c posts bs) → (s.0).until ≤ n → Rests log c posts (if t then with_news slave.id n (news_of bytes) bs else bs)
  more_news log c posts bs n bytes false s l = s
  more_news log c posts bs n bytes true s l = let z = s.0 in
      (record { xs = z.xs; here = z.here; head = z.head; shut = z.shut; late = late_trans z.until (with_news slave.id n (news_of bytes) bs) bs (askings_told z.xs) (late_news z.until slave.id n (news_of bytes) bs l) z.late; until = z.until; dated = z.dated }, s.1)

  rests_event : (log : List LogEntry) (event : Event) (evs : List Event) (posts : List Send) (bs : List Asking) (report : Report) (b : Bool) (n : ℕ) → (course setup evs).report ≡ Some report → (s : Rests log (course setup evs) posts bs) → (s.0).until ≤ n
      → (t : Rests log (course setup (with_event b event evs)) (if b then (course setup (with_event b event evs)).sent else posts) bs) × ((t.0).until ≤ n)
  rests_event log event evs posts bs report false n e s l = (s, l)
  rests_event log event evs posts bs report true n e s l =
      let P : Course → Type 0 = λ c. (t : Rests log c c.sent bs) × ((t.0).until ≤ n) in
      let z = s.0 in
      subst P (sym (step_still setup event (course setup evs) report e)) ((record { xs = z.xs; here = z.here; head = z.head; shut = z.shut; late = z.late; until = z.until; dated = z.dated }, refl), l)

  rests_sent : (log : List LogEntry) (c : Course) (posts : List Send) (bs : List Asking) (n : ℕ) (to : Address) (bytes : List ℕ) (b : Bool) → where_it_is b (IsFirstSend posts to bytes) → Rests log c posts bs
      → Rests log c (if b then tail posts else posts) (if b && same_address to slave.address then with_asking (asking_in n (message_in bytes)) bs else bs)
  rests_sent log c posts bs n to bytes false may s = s
  rests_sent log c [] bs n to bytes true may s = absurd may
  rests_sent log c (p ∷ ps) bs n to bytes true may s = by (same_address to slave.address) (ap (λ z. if same_address z slave.address then p.bytes ∷ mine slave.address ps else mine slave.address ps) (sym may.0) ∙ s.1)
    where
      by : (t : Bool) → (if t then p.bytes ∷ mine slave.address ps else mine slave.address ps) ≡ [] → Rests log c ps (if t then with_asking (asking_in n (message_in bytes)) bs else bs)
      by true z = absurd cc
      by false z = (s.0, z)

  rests_on : (e : LogEntry) (log : List LogEntry) (report : Report) → MasterActs setup e log → (course_at setup log).report ≡ Some report → (s : Rests (e ∷ log) (course_at setup log) (owed setup log) (asks setup.address slave log)) → (s.0).until ≤ length log
      → Rests (e ∷ log) (course_at setup (e ∷ log)) (owed setup (e ∷ log)) (asks setup.address slave (e ∷ log))
  rests_on (Sent from to bytes) log report may r s l = rests_sent (Sent from to bytes ∷ log) (course_at setup log) (owed setup log) (asks setup.address slave log) (length log) to bytes (same_address from setup.address) may s
  rests_on (Got to from bytes) log report may r s l =
      let z = rests_event (Got to from bytes ∷ log) (Gram from bytes) (events_of_master setup log) (owed setup log) (asks setup.address slave log) report (same_address to setup.address) (length log) r s l in
      more_news (Got to from bytes ∷ log) (course_at setup (Got to from bytes ∷ log)) (owed setup (Got to from bytes ∷ log)) (asks setup.address slave log) (length log) bytes (same_address to setup.address && same_address from slave.address) z.0 z.1
  rests_on (Idle to) log report may r s l = s
  rests_on (Turn to) log report may r s l = (rests_event (Turn to ∷ log) Tick (events_of_master setup log) (owed setup log) (asks setup.address slave log) report (same_address to setup.address) (length log) r s l).0

  pub reported : (runs : 1 ≤ setup.runs) (log : List LogEntry) → IsRun setup log → (report : Report) → (course_at setup log).report ≡ Some report → Rests log (course_at setup log) (owed setup log) (asks setup.address slave log)
  reported runs [] run report r = absurd (clash r)
    where
      clash : None ≡ Some report → ⊥
      clash z = cc
  reported runs (e ∷ log) run report r = by (course_at setup log).report refl (λ other z. reported runs log run.1 other z)
    where
      by : (o : Option Report) → (course_at setup log).report ≡ o → ((other : Report) → (course_at setup log).report ≡ Some other → Rests log (course_at setup log) (owed setup log) (asks setup.address slave log))
          → Rests (e ∷ log) (course_at setup (e ∷ log)) (owed setup (e ∷ log)) (asks setup.address slave (e ∷ log))
      by None z h = comes (e ∷ log) (course_at setup (e ∷ log)) (owed setup (e ∷ log)) (asks setup.address slave (e ∷ log)) (all_report setup (events_of_master setup (e ∷ log)) report r).0
          (follow setup good i slave k runs e log run.0 z (followed setup good i slave k runs log run.1 z))
      by (Some other) z h =
          let k = h other z in
          rests_on e log other run.0 z (one_later e log (course_at setup log) (owed setup log) (asks setup.address slave log) k) (((k.0).dated).below)
