-- At every moment before the report the requests of the log are those of the marks.
use Rattle.std.proofs.Common.{◌≡◌, ℕ, zero, suc, ◌+◌, ◌-◌, ◌<◌, ◌≤◌, Bool, true, false, if◌then◌else◌, ◌⊎◌, inl, inr, Option, Some, None, List, [], ◌∷◌, ◌++◌, map, length, refl, sym, ap, ◌∙◌, subst, arith}
use Rattle.std.specs.Prelude.{◌==◌, ◌&&◌, ◌||◌, not, is_some, slice_get}
use Rattle.std.specs.List.{flat_map, list_all, list_any}
use Rattle.std.proofs.lemmas.Bool.{eqb-true, eqb-false}
use Rattle.dcp_types.specs.declared.addresses.Address.{Address}
use Rattle.dcp_ends.specs.declared.entries.LogEntry.{LogEntry}
use Rattle.dcp_ends.specs.declared.entries.LogEntry.TheVariants.{Sent, Got, Idle, Turn}
use Rattle.dcp_ends.specs.Events.{Event, Gram, Tick, Send}
use Rattle.dcp_ends.specs.Logs.{same_address}
use Rattle.pdu_layout.specs.Reading.{message_in}
use Rattle.master_spec.specs.declared.requests.Request.{Request}
use Rattle.master_spec.specs.declared.reports.Report.{Report}
use Rattle.master_spec.specs.declared.reports.Report.TheVariants as reports
use Rattle.master_spec.specs.declared.causes.Cause.{Cause}
use Rattle.master_spec.specs.Jobs.{Job}
use Rattle.master_spec.specs.News.{News, Answers, Hints, Nothing, news_of}
use Rattle.master_spec.specs.News as news
use Rattle.master_spec.specs.Marks.{Mark, Begun, Asked, Again, Answered, Hinted, Brought, Turned, Ended, newest_number, open_request, count, is_begun}
use Rattle.master_spec.specs.Conversation.{if_open, extended, messages_if, marks_after, messages_after, reaction, done}
use Rattle.master_spec.specs.Course.{CourseTalk, Course, course, mark_for, mark_of_gram, marked, sends_after, is_settled, is_quiet, failed, begun_with, task_begun, phases, with_next, with_report, decided, with_turns, decided_if, course_turned, still, after_gram, course_after_turn, step, fresh_talk, payload_size}
use Rattle.master_spec.specs.Setup.{jobs_of}
use Rattle.master_spec.specs.declared.setups.Slave.{Slave}
use Rattle.master_spec.specs.declared.setups.Setup.{Setup}
use Rattle.master_spec.specs.Requests.{Asking, asks, asking_in, with_asking, with_news, are_outputs, brings_outputs}
use Rattle.master_log_laws.specs.Asking.Closed.{MayCome, AllTalks}
use Rattle.master_log_laws.proofs.Asking.Courses.{gram_may, all_free, free_of, IsFree, Fine, fine}
use Rattle.master_log_laws.specs.Index.Runs.{events_of_master, with_event, course_at, tail, owed, IsFirstSend, where_it_is, MasterActs, IsRun}
use Rattle.master_log_laws.specs.Index.Index.{Placed, at, marks_of, askings_told_by, told_if, IsAsked, IsAgain, Owes, IsGoodMark, AreGood, Tracks}
use Rattle.master_log_laws.specs.Index.Follows.{mine, talk_with, Listens, FollowsCourse}
use Rattle.master_log_laws.proofs.Index.Index.{news_told}
use Rattle.master_log_laws.proofs.Index.Outputs.{IsNews, gram_news, got_brings, got_marks}
use Rattle.master_log_laws.proofs.Index.Dates.{phase_later, phase_now, entry_now, brings_entry, dated_skip, dated_here, dated_turned, dated_first, dated_next, dated_ended}
use Rattle.master_log_laws.specs.Index.Dates.{phase_before, IsBroughtBy, Dated}
use Rattle.master_log_laws.specs.Asking.Legal.{GoesByRule, AllWith}
use Rattle.master_log_laws.proofs.Asking.Legal.{job_at, going}
use Rattle.dcp_types.specs.declared.limits.Limits.{Limits}
use Rattle.master_spec.specs.declared.reactions.Reaction.{Reaction}
use Rattle.master_spec.specs.declared.reactions.Reaction.TheVariants.{Wait, Ask, Repeat, GiveUp}
use Rattle.master_spec.specs.Exchanged.{Brings}
use Rattle.master_log_laws.proofs.Index.Steps.{extends, sends, IsGrown, IsSentOn}
use Rattle.master_log_laws.proofs.Index.Mine.{same_self, mine_append, flat_mine, get_map}

-- ---- of lists
pub all_at : (P : List Mark → Type 0) (talks : List CourseTalk) (i : ℕ) (u : CourseTalk) → AllTalks P talks → slice_get talks i ≡ Some u → P u.marks
all_at P [] i u a e = absurd cc
all_at P (v ∷ vs) zero u a e = let z : v ≡ u = cc in let Q : CourseTalk → Type 0 = λ y. P y.marks in subst Q z a.0
all_at P (v ∷ vs) (suc i) u a e = all_at P vs i u a.1 e

slaves_stay : (f : CourseTalk → List Mark) (talks : List CourseTalk) → map (λ u. u.slave) (map (λ u. talk_with u.slave (f u)) talks) ≡ map (λ u. u.slave) talks
slaves_stay f [] = refl
slaves_stay f (u ∷ us) = ap (λ z. u.slave ∷ z) (slaves_stay f us)

-- nothing is owed where no request is open
pub free_owes : (good : Request → Type 0) (id : ℕ) (posts : List (List ℕ)) (marks older : List Mark) → Owes good id posts marks older → open_request marks ≡ None → posts ≡ []
free_owes good id [] marks older o f = refl
free_owes good id (b ∷ c ∷ more) marks older o f = absurd o
free_owes good id (b ∷ []) marks older o f = by o.0 ((o.1).1).1
  where
    clash : (r : Request) → Some r ≡ None → ⊥
    clash r z = cc

    by : (r : Request) → IsAsked id b marks older r ⊎ IsAgain id b marks older r → b ∷ [] ≡ []
    by r (inl k) = absurd (clash r (ap open_request (sym k.0) ∙ f))
    by r (inr k) = absurd (clash r (sym (k.1).0 ∙ ap open_request (sym k.0) ∙ f))

-- what comes is good
mark_is_good : (good : Request → Type 0) (slave : Slave) (marks : List Mark) (news : News) (m : Mark) → ((r : Request) → open_request marks ≡ Some r → good r) → mark_for slave marks news ≡ Some m → IsGoodMark good m
mark_is_good good slave marks (Answers number sender answer) m g h = by (sender == slave.id) (open_request marks) (number == newest_number marks) g h
  where
    by : (a : Bool) (o : Option Request) (b : Bool) → ((r : Request) → o ≡ Some r → good r) → (if a then (if_open o number (newest_number marks) answer) else None) ≡ Some m → IsGoodMark good m
    by false o b g e = absurd cc
    by true None b g e = absurd cc
    by true (Some r) b g e = two (number == newest_number marks) e
      where
        two : (c : Bool) → (if c then Some (Answered r answer) else None) ≡ Some m → IsGoodMark good m
        two false z = absurd cc
        two true z = let y : Answered r answer ≡ m = cc in let Q : Mark → Type 0 = IsGoodMark good in subst Q y (g r refl)
mark_is_good good slave marks (Hints sender) m g h = by (sender == slave.id) h
  where
    by : (a : Bool) → (if a then Some Hinted else None) ≡ Some m → IsGoodMark good m
    by false e = absurd cc
    by true e = let y : Hinted ≡ m = cc in let Q : Mark → Type 0 = IsGoodMark good in subst Q y tt
mark_is_good good slave marks (news.Brings number id payload) m g h = by ((id == slave.id) && (length payload == payload_size slave.types)) h
  where
    by : (a : Bool) → (if a then Some (Brought number payload) else None) ≡ Some m → IsGoodMark good m
    by false e = absurd cc
    by true e = let y : Brought number payload ≡ m = cc in let Q : Mark → Type 0 = IsGoodMark good in subst Q y tt
mark_is_good good slave marks Nothing m g h = absurd cc

open_is_good : (good : Request → Type 0) (marks : List Mark) → AreGood good marks → (r : Request) → open_request marks ≡ Some r → good r
open_is_good good [] a r e = absurd cc
open_is_good good (Begun job ∷ marks) a r e = absurd cc
open_is_good good (Asked q ∷ marks) a r e = let z : q ≡ r = cc in subst good z a.0
open_is_good good (Answered q b ∷ marks) a r e = absurd cc
open_is_good good (Again ∷ marks) a r e = open_is_good good marks a.1 r e
open_is_good good (Hinted ∷ marks) a r e = open_is_good good marks a.1 r e
open_is_good good (Brought number payload ∷ marks) a r e = open_is_good good marks a.1 r e
open_is_good good (Turned settled ∷ marks) a r e = open_is_good good marks a.1 r e
open_is_good good (Ended cause ∷ marks) a r e = open_is_good good marks a.1 r e

-- the conversations are those of the slaves, in order
pub slaves_at : (talks : List CourseTalk) (slaves : List Slave) → map (λ u. u.slave) talks ≡ slaves → (j : ℕ) (v : CourseTalk) → slice_get talks j ≡ Some v → slice_get slaves j ≡ Some v.slave
slaves_at talks slaves e j v h = ap (λ (z : List Slave). slice_get z j) (sym e) ∙ get_map (λ (u : CourseTalk). u.slave) talks j v h

fresh_slaves : (slaves : List Slave) → map (λ u. u.slave) (map fresh_talk slaves) ≡ slaves
fresh_slaves [] = refl
fresh_slaves (s ∷ ss) = ap (λ z. s ∷ z) (fresh_slaves ss)

next_of : (setup : Setup) (c : Course) → map (λ u. u.slave) c.talks ≡ setup.slaves → map (λ u. u.slave) (with_next setup c).talks ≡ setup.slaves
next_of setup c e = slaves_stay (λ u. extended setup.limits (task_begun setup (c.phase + 1) u) u.marks) c.talks ∙ e

decided_of : (setup : Setup) (c : Course) (o : Option Report) → map (λ u. u.slave) c.talks ≡ setup.slaves → map (λ u. u.slave) (decided setup c o).talks ≡ setup.slaves
decided_of setup c (Some report) e = e
decided_of setup c None e = by (c.phase == phases setup)
  where
    by : (b : Bool) → map (λ u. u.slave) (if b then with_report c (reports.Finished setup.steps) else with_next setup c).talks ≡ setup.slaves
    by true = e
    by false = next_of setup c e

turned_of : (setup : Setup) (c : Course) (b : Bool) → map (λ u. u.slave) c.talks ≡ setup.slaves → map (λ u. u.slave) (decided_if setup b c).talks ≡ setup.slaves
turned_of setup c true e = decided_of setup c (failed c.phase c.talks) e
turned_of setup c false e = e

step_of_talks : (setup : Setup) (event : Event) (c : Course) → map (λ u. u.slave) c.talks ≡ setup.slaves → map (λ u. u.slave) (step setup event c).talks ≡ setup.slaves
unfolding step
step_of_talks setup (Gram from bytes) c e = by (is_some c.report)
  where
    by : (b : Bool) → map (λ u. u.slave) (if b then still c else after_gram setup from bytes c).talks ≡ setup.slaves
    by true = e
    by false = slaves_stay (λ u. extended setup.limits (mark_of_gram u from bytes) u.marks) c.talks ∙ e
step_of_talks setup Tick c e = by (is_some c.report) (c.phase == 0)
  where
    by : (b d : Bool) → map (λ u. u.slave) (if b then still c else if d then with_next setup (still c) else course_turned setup (with_turns setup (list_all is_settled c.talks) c)).talks ≡ setup.slaves
    by true d = e
    by false true = next_of setup (still c) e
    by false false = turned_of setup (with_turns setup (list_all is_settled c.talks) c) (list_all is_quiet (with_turns setup (list_all is_settled c.talks) c).talks)
        (slaves_stay (λ u. marks_after setup.limits (Turned (list_all is_settled c.talks)) u.marks) c.talks ∙ e)

pub talks_of : (setup : Setup) (evs : List Event) → map (λ u. u.slave) (course setup evs).talks ≡ setup.slaves
talks_of setup [] = fresh_slaves setup.slaves
talks_of setup (event ∷ evs) = step_of_talks setup event (course setup evs) (talks_of setup evs)

-- ---- an event before the report, and after it
pub step_gram : (setup : Setup) (from : Address) (bytes : List ℕ) (c : Course) → c.report ≡ None → step setup (Gram from bytes) c ≡ after_gram setup from bytes c
unfolding step
step_gram setup from bytes c r = ap (λ (o : Option Report). if is_some o then still c else after_gram setup from bytes c) r

pub step_tick : (setup : Setup) (c : Course) → c.report ≡ None → step setup Tick c ≡ course_after_turn setup c
unfolding step
step_tick setup c r = ap (λ (o : Option Report). if is_some o then still c else course_after_turn setup c) r

pub step_still : (setup : Setup) (event : Event) (c : Course) (report : Report) → c.report ≡ Some report → step setup event c ≡ still c
unfolding step
step_still setup (Gram from bytes) c report e = ap (λ (o : Option Report). if is_some o then still c else after_gram setup from bytes c) e
step_still setup Tick c report e = ap (λ (o : Option Report). if is_some o then still c else course_after_turn setup c) e

-- a report stays
stays : (setup : Setup) (event : Event) (c : Course) → (step setup event c).report ≡ None → c.report ≡ None
stays setup event c h = by c.report refl
  where
    clash : (report : Report) → Some report ≡ None → ⊥
    clash report z = cc

    by : (o : Option Report) → c.report ≡ o → c.report ≡ None
    by None e = e
    by (Some report) e = absurd (clash report (sym e ∙ ap (λ (x : Course). x.report) (sym (step_still setup event c report e)) ∙ h))

none_with : (setup : Setup) (b : Bool) (event : Event) (evs : List Event) → (course setup (with_event b event evs)).report ≡ None → (course setup evs).report ≡ None
none_with setup true event evs h = stays setup event (course setup evs) h
none_with setup false event evs h = h

pub none_before : (setup : Setup) (e : LogEntry) (log : List LogEntry) → (course_at setup (e ∷ log)).report ≡ None → (course_at setup log).report ≡ None
none_before setup (Sent from to bytes) log h = h
none_before setup (Got to from bytes) log h = none_with setup (same_address to setup.address) (Gram from bytes) (events_of_master setup log) h
none_before setup (Idle to) log h = h
none_before setup (Turn to) log h = none_with setup (same_address to setup.address) Tick (events_of_master setup log) h

-- a phase is counted by its begin alone
count_done : (r : Reaction) (marks : List Mark) → count is_begun (done r marks) ≡ count is_begun marks
count_done Wait marks = refl
count_done (Ask request) marks = refl
count_done Repeat marks = refl
count_done (GiveUp cause) marks = refl

count_after : (limits : Limits) (settled : Bool) (marks : List Mark) → count is_begun (marks_after limits (Turned settled) marks) ≡ count is_begun marks
count_after limits settled marks = count_done (reaction limits (Turned settled) marks) (Turned settled ∷ marks)

pub owes_count : (good : Request → Type 0) (id : ℕ) (posts : List (List ℕ)) (marks older : List Mark) → Owes good id posts marks older → count is_begun marks ≡ count is_begun older
owes_count good id [] marks older o = ap (λ (z : List Mark). count is_begun z) o
owes_count good id (b ∷ c ∷ more) marks older o = absurd o
owes_count good id (b ∷ []) marks older o = by o.0 ((o.1).1).1
  where
    by : (r : Request) → IsAsked id b marks older r ⊎ IsAgain id b marks older r → count is_begun marks ≡ count is_begun older
    by r (inl k) = ap (λ (z : List Mark). count is_begun z) k.0
    by r (inr k) = ap (λ (z : List Mark). count is_begun z) k.0

pub with_at : (P : Slave → List Mark → Type 0) (talks : List CourseTalk) (i : ℕ) (u : CourseTalk) → AllWith P talks → slice_get talks i ≡ Some u → P u.slave u.marks
with_at P [] i u a e = absurd cc
with_at P (v ∷ vs) zero u a e = let z : v ≡ u = cc in let Q : CourseTalk → Type 0 = λ y. P y.slave y.marks in subst Q z a.0
with_at P (v ∷ vs) (suc i) u a e = with_at P vs i u a.1 e

module _ (setup : Setup) (good : Request → Type 0) (i : ℕ) (slave : Slave) (k : Listens setup good i slave) where
  -- ---- one mark, for each conversation
  mine_at : (talks : List CourseTalk) (marks : List Mark) (h : CourseTalk → Option Mark) → map (λ u. u.slave) talks ≡ setup.slaves → slice_get talks i ≡ Some (talk_with slave marks)
      → mine slave.address (flat_map (λ u. sends_after setup.limits u (h u)) talks) ≡ messages_if setup.limits slave.id (h (talk_with slave marks)) marks
  mine_at talks marks h e here = flat_mine slave.address (λ u. messages_if setup.limits u.slave.id (h u) u.marks) talks i (talk_with slave marks) here
      (λ j v a b. k.apart j v.slave (slaves_at talks setup.slaves e j v a) b) (same_self slave.address)

  -- a conversation takes a mark
  takes : (log : List LogEntry) (until n : ℕ) (o : Option Mark) (marks : List Mark) (bs : List Asking) (xs : List Placed) → ((m : Mark) → o ≡ Some m → MayCome m marks) → ((m : Mark) → o ≡ Some m → IsGoodMark good m)
      → ((m : Mark) → o ≡ Some m → Dated setup slave log until (at n m ∷ xs)) → (o ≡ None → Dated setup slave log until xs) → Tracks setup.limits good slave.id marks [] bs xs
      → (ys : List Placed) × (Tracks setup.limits good slave.id (extended setup.limits o marks) (messages_if setup.limits slave.id o marks) (told_if n o (marks_of xs) bs) ys × Dated setup slave log until ys)
  takes log until n None marks bs xs c g make none t = (xs, (t, none refl))
  takes log until n (Some m) marks bs xs c g make none t =
      let P : List Mark → Type 0 = λ z. MayCome m z in
      let f = extends good k.state k.error setup.limits slave.id n m xs (subst P t.owes (c m refl)) (g m refl) t.head t.all t.shut in
      let Q : List Mark → Type 0 = λ z. Tracks setup.limits good slave.id (marks_after setup.limits m z) (messages_after setup.limits slave.id m z) (askings_told_by n m (marks_of xs) bs) f.0 in
      let R : List Asking → Type 0 = λ z. Tracks setup.limits good slave.id (marks_after setup.limits m (marks_of xs)) (messages_after setup.limits slave.id m (marks_of xs)) (askings_told_by n m (marks_of xs) z) f.0 in
      (f.0, (subst Q (sym t.owes) (subst R (sym t.is) (f.1).1), grown f.0 (make m refl) (f.1).0))
    where
      grown : (ys : List Placed) → Dated setup slave log until (at n m ∷ xs) → IsGrown n m xs ys → Dated setup slave log until ys
      grown ys d (inl e) = let P : List Placed → Type 0 = λ z. Dated setup slave log until z in subst P (sym e) d
      grown ys d (inr e) =
          let P : List Placed → Type 0 = λ z. Dated setup slave log until z in
          let h = (d.dates).0 in
          subst P (sym e.1) (dated_ended setup slave log until n e.0 (at n m ∷ xs) h.below h.turns d)

  -- a datagram
  gram : (to from : Address) (bytes : List ℕ) (log : List LogEntry) (c : Course) (bs : List Asking) → same_address to setup.address ≡ true
      → (f : FollowsCourse setup good i slave log (length log) c [] bs) → phase_before setup (Got to from bytes ∷ log) (length log) ≡ count is_begun f.marks
      → FollowsCourse setup good i slave (Got to from bytes ∷ log) (length (Got to from bytes ∷ log)) (after_gram setup from bytes c) (after_gram setup from bytes c).sent (if same_address from slave.address then with_news slave.id (length log) (news_of bytes) bs else bs)
  gram to from bytes log c bs own f ph =
      let n = length log in
      let u = talk_with slave f.marks in
      let o = mark_of_gram u from bytes in
      let g = takes (Got to from bytes ∷ log) (length (Got to from bytes ∷ log)) n o f.marks bs f.xs (gram_may u from bytes) (coming (same_address from slave.address)) (λ m e. made m e (gram_news slave f.marks from bytes m e)) unmade f.tracks in
      let m = mine_at c.talks f.marks (λ u. mark_of_gram u from bytes) f.slaves f.here in
      let P : List (List ℕ) → Type 0 = λ z. Tracks setup.limits good slave.id (extended setup.limits o f.marks) z (told_if n o (marks_of f.xs) bs) g.0 in
      let Q : List Asking → Type 0 = λ z. Tracks setup.limits good slave.id (extended setup.limits o f.marks) (mine slave.address (after_gram setup from bytes c).sent) z g.0 in
      record {
        marks = extended setup.limits o f.marks;
        xs = g.0;
        here = get_map (λ u. marked setup.limits u (mark_of_gram u from bytes)) c.talks i u f.here;
        slaves = slaves_stay (λ u. extended setup.limits (mark_of_gram u from bytes) u.marks) c.talks ∙ f.slaves;
        tracks = subst Q (telling (same_address from slave.address)) (subst P (sym m) (g.1).0);
        dated = (g.1).1;
      }
    where
      coming : (b : Bool) (m : Mark) → (if b then mark_for slave f.marks (news_of bytes) else None) ≡ Some m → IsGoodMark good m
      coming true m e = mark_is_good good slave f.marks (news_of bytes) m (λ r z. let P : List Mark → Type 0 = λ y. AreGood good y in open_is_good good f.marks (subst P (sym (f.tracks).owes) (f.tracks).all) r z) e
      coming false m e = absurd cc

      telling : (b : Bool) → told_if (length log) (if b then mark_for slave f.marks (news_of bytes) else None) (marks_of f.xs) bs ≡ (if b then with_news slave.id (length log) (news_of bytes) bs else bs)
      telling false = refl
      telling true =
          let t = f.tracks in
          ap (λ z. told_if (length log) (mark_for slave z (news_of bytes)) (marks_of f.xs) bs) t.owes
          ∙ ap (told_if (length log) (mark_for slave (marks_of f.xs) (news_of bytes)) (marks_of f.xs)) t.is
          ∙ sym (news_told slave (length log) (news_of bytes) f.xs t.head)
          ∙ ap (with_news slave.id (length log) (news_of bytes)) (sym t.is)

      in_phase : phase_before setup (Got to from bytes ∷ log) (length log) ≡ count is_begun (marks_of f.xs)
      in_phase = ph ∙ ap (λ (z : List Mark). count is_begun z) (f.tracks).owes

      outputs : (m : Mark) → mark_of_gram (talk_with slave f.marks) from bytes ≡ Some m → (number : ℕ) → Brings setup (Got to from bytes ∷ log) slave number (length log) → IsBroughtBy number (length log) (length log) m
      outputs m e number b =
          let w = got_marks setup.address slave f.marks to from bytes number (brings_entry setup (Got to from bytes) log slave number b) in
          let same : Some m ≡ Some (Brought number w.0) = sym e ∙ w.1 in
          let z : m ≡ Brought number w.0 = cc in
          (refl, (w.0, z))

      made : (m : Mark) → mark_of_gram (talk_with slave f.marks) from bytes ≡ Some m → IsNews m → Dated setup slave (Got to from bytes ∷ log) (length (Got to from bytes ∷ log)) (at (length log) m ∷ f.xs)
      made (Answered r a) e w = dated_here setup slave (Got to from bytes) log (Answered r a) f.xs refl (omega arith) (omega arith) refl (λ h. h) in_phase tt (outputs (Answered r a) e) f.dated
      made Hinted e w = dated_here setup slave (Got to from bytes) log Hinted f.xs refl (omega arith) (omega arith) refl (λ h. h) in_phase tt (outputs Hinted e) f.dated
      made (Brought number payload) e w =
          dated_here setup slave (Got to from bytes) log (Brought number payload) f.xs refl (omega arith) (omega arith) refl (λ h. h) in_phase
          (Got to from bytes, entry_now (Got to from bytes) log, got_brings setup.address slave f.marks to from bytes number payload own e) (outputs (Brought number payload) e) f.dated
      made (Begun job) e w = absurd w
      made (Asked r) e w = absurd w
      made Again e w = absurd w
      made (Turned settled) e w = absurd w
      made (Ended cause) e w = absurd w

      unmade : mark_of_gram (talk_with slave f.marks) from bytes ≡ None → Dated setup slave (Got to from bytes ∷ log) (length (Got to from bytes ∷ log)) f.xs
      unmade e = dated_skip setup slave (Got to from bytes) log f.xs refl (λ number. none number (brings_outputs setup.address slave number (payload_size slave.types) (Got to from bytes)) refl) f.dated
        where
          clash : (m : Mark) → None ≡ Some m → ⊥
          clash m z = cc

          none : (number : ℕ) (b : Bool) → brings_outputs setup.address slave number (payload_size slave.types) (Got to from bytes) ≡ b → b ≡ false
          none number true q = let w = got_marks setup.address slave f.marks to from bytes number q in absurd (clash (Brought number w.0) (sym e ∙ w.1))
          none number false q = refl

  -- the next phase
  next : (log later : List LogEntry) (until marks_after : ℕ) (n : ℕ) (c : Course) (bs : List Asking) → (f : FollowsCourse setup good i slave log until c c.sent bs) → open_request f.marks ≡ None
      → (job : Job) × (slice_get (jobs_of setup slave) (c.phase + 1 - 1) ≡ Some job) → ((job : Job) → Dated setup slave later marks_after (at n (Begun job) ∷ f.xs))
      → FollowsCourse setup good i slave later marks_after (with_next setup c) (with_next setup c).sent bs
  next log later until marks_after n c bs f free some make =
      let u = talk_with slave f.marks in
      let o = task_begun setup (c.phase + 1) u in
      let none = free_owes good slave.id (mine slave.address c.sent) f.marks (marks_of f.xs) (f.tracks).owes free in
      let P : List (List ℕ) → Type 0 = λ z. Tracks setup.limits good slave.id f.marks z bs f.xs in
      let g = takes later marks_after n o f.marks bs f.xs (λ m e. may (slice_get (jobs_of setup slave) (c.phase + 1 - 1)) m e) (λ m e. fine_job (slice_get (jobs_of setup slave) (c.phase + 1 - 1)) m refl e)
      (λ m e. made (slice_get (jobs_of setup slave) (c.phase + 1 - 1)) m e) (λ e. absurd (clash some.0 (ap begun_with (sym some.1) ∙ e))) (subst P none f.tracks) in
      let m = mine_append slave.address c.sent (flat_map (λ u. sends_after setup.limits u (task_begun setup (c.phase + 1) u)) c.talks)
      ∙ ap (λ z. z ++ mine slave.address (flat_map (λ u. sends_after setup.limits u (task_begun setup (c.phase + 1) u)) c.talks)) none
      ∙ mine_at c.talks f.marks (λ u. task_begun setup (c.phase + 1) u) f.slaves f.here in
      let Q : List (List ℕ) → Type 0 = λ z. Tracks setup.limits good slave.id (extended setup.limits o f.marks) z bs g.0 in
      let R : List Asking → Type 0 = λ z. Tracks setup.limits good slave.id (extended setup.limits o f.marks) (messages_if setup.limits slave.id o f.marks) z g.0 in
      record {
        marks = extended setup.limits o f.marks;
        xs = g.0;
        here = get_map (λ u. marked setup.limits u (task_begun setup (c.phase + 1) u)) c.talks i u f.here;
        slaves = slaves_stay (λ u. extended setup.limits (task_begun setup (c.phase + 1) u) u.marks) c.talks ∙ f.slaves;
        tracks = subst Q (sym m) (subst R (same (slice_get (jobs_of setup slave) (c.phase + 1 - 1))) (g.1).0);
        dated = (g.1).1;
      }
    where
      clash : (job : Job) → Some (Begun job) ≡ None → ⊥
      clash job z = cc

      may : (o : Option Job) (m : Mark) → begun_with o ≡ Some m → MayCome m f.marks
      may None m e = absurd cc
      may (Some job) m e = let z : Begun job ≡ m = cc in let P : Mark → Type 0 = λ y. MayCome y f.marks in subst P z free

      fine_job : (o : Option Job) (m : Mark) → slice_get (jobs_of setup slave) (c.phase + 1 - 1) ≡ o → begun_with o ≡ Some m → IsGoodMark good m
      fine_job None m q e = absurd cc
      fine_job (Some job) m q e = let z : Begun job ≡ m = cc in let P : Mark → Type 0 = IsGoodMark good in subst P z (k.jobs (c.phase + 1 - 1) job q)

      made : (o : Option Job) (m : Mark) → begun_with o ≡ Some m → Dated setup slave later marks_after (at n m ∷ f.xs)
      made None m e = absurd cc
      made (Some job) m e = let z : Begun job ≡ m = cc in let P : Mark → Type 0 = λ y. Dated setup slave later marks_after (at n y ∷ f.xs) in subst P z (make job)

      same : (o : Option Job) → told_if n (begun_with o) (marks_of f.xs) bs ≡ bs
      same None = refl
      same (Some job) = refl

  -- a turn of all
  turns : (to : Address) (log : List LogEntry) (settled : Bool) (c : Course) (bs : List Asking) → same_address to setup.address ≡ true → (f : FollowsCourse setup good i slave log (length log) c [] bs)
      → FollowsCourse setup good i slave (Turn to ∷ log) (length (Turn to ∷ log)) (with_turns setup settled c) (with_turns setup settled c).sent bs
  turns to log settled c bs own f =
      let n = length (Turn to ∷ log) in
      let u = talk_with slave f.marks in
      let g = takes (Turn to ∷ log) n n (Some (Turned settled)) f.marks bs f.xs (λ m e. may m e) (λ m e. nice m e) (λ m e. made m e) (λ e. absurd (clash e)) f.tracks in
      let m = mine_at c.talks f.marks (λ u. Some (Turned settled)) f.slaves f.here in
      let Q : List (List ℕ) → Type 0 = λ z. Tracks setup.limits good slave.id (marks_after setup.limits (Turned settled) f.marks) z bs g.0 in
      record {
        marks = marks_after setup.limits (Turned settled) f.marks;
        xs = g.0;
        here = get_map (λ u. marked setup.limits u (Some (Turned settled))) c.talks i u f.here;
        slaves = slaves_stay (λ u. marks_after setup.limits (Turned settled) u.marks) c.talks ∙ f.slaves;
        tracks = subst Q (sym m) (g.1).0;
        dated = (g.1).1;
      }
    where
      clash : Some (Turned settled) ≡ None → ⊥
      clash z = cc

      may : (m : Mark) → Some (Turned settled) ≡ Some m → MayCome m f.marks
      may m e = let z : Turned settled ≡ m = cc in let P : Mark → Type 0 = λ y. MayCome y f.marks in subst P z tt

      nice : (m : Mark) → Some (Turned settled) ≡ Some m → IsGoodMark good m
      nice m e = let z : Turned settled ≡ m = cc in let P : Mark → Type 0 = IsGoodMark good in subst P z tt

      made : (m : Mark) → Some (Turned settled) ≡ Some m → Dated setup slave (Turn to ∷ log) (length (Turn to ∷ log)) (at (length (Turn to ∷ log)) m ∷ f.xs)
      made m e =
          let z : Turned settled ≡ m = cc in
          let P : Mark → Type 0 = λ y. Dated setup slave (Turn to ∷ log) (length (Turn to ∷ log)) (at (length (Turn to ∷ log)) y ∷ f.xs) in
          subst P z (dated_turned setup slave (Turn to) log settled f.xs own (λ number. refl) f.dated)

  -- nothing is owed, so the marks are those of the log
  settled_marks : (posts : List (List ℕ)) (marks older : List Mark) → Owes good slave.id posts marks older → open_request marks ≡ None → marks ≡ older
  settled_marks posts marks older o free = let P : List (List ℕ) → Type 0 = λ z. Owes good slave.id z marks older in subst P (free_owes good slave.id posts marks older o free) o

  not_zero : (n : ℕ) → not (n + 1 == 0) ≡ true
  not_zero n = by (n + 1 == 0) refl
    where
      by : (b : Bool) → (n + 1 == 0) ≡ b → not b ≡ true
      by true e = let z = eqb-true (n + 1) 0 e in absurd (omega (arith, z))
      by false e = refl

  any_begun : (marks : List Mark) → list_any is_begun marks ≡ not (count is_begun marks == 0)
  any_begun [] = refl
  any_begun (m ∷ marks) = by (is_begun m) (any_begun marks)
    where
      by : (b : Bool) → list_any is_begun marks ≡ not (count is_begun marks == 0) → (b || list_any is_begun marks) ≡ not ((if b then count is_begun marks + 1 else count is_begun marks) == 0)
      by true h = sym (not_zero (count is_begun marks))
      by false h = h

  begun_before : (marks : List Mark) (phase : ℕ) (b : Bool) → count is_begun marks ≡ phase → (phase == 0) ≡ b → list_any is_begun marks ≡ not b
  begun_before marks phase b e f = any_begun marks ∙ ap (λ (n : ℕ). not (n == 0)) e ∙ ap not f

  job_here : (c : Course) (runs : 1 ≤ setup.runs) → c.phase < phases setup → (job : Job) × (slice_get (jobs_of setup slave) (c.phase + 1 - 1) ≡ Some job)
  job_here c runs h = let z = job_at setup runs c.phase slave h in let e : c.phase + 1 - 1 ≡ c.phase = omega arith in (z.0, ap (λ (n : ℕ). slice_get (jobs_of setup slave) n) e ∙ z.1)

  decides : (log : List LogEntry) (c : Course) (bs : List Asking) → 1 ≤ setup.runs → c.phase ≤ phases setup → (c.phase == 0) ≡ false → (f : FollowsCourse setup good i slave log (length log) c c.sent bs) → count is_begun f.marks ≡ c.phase
      → list_all is_quiet c.talks ≡ true → (o : Option Report) → failed c.phase c.talks ≡ o → phase_before setup log (length log) ≡ (decided setup c o).phase
      → FollowsCourse setup good i slave log (length log) (decided setup c o) (decided setup c o).sent bs
  decides log c bs runs few some f cnt q (Some report) e final = record { marks = f.marks; xs = f.xs; here = f.here; slaves = f.slaves; tracks = f.tracks; dated = f.dated }
  decides log c bs runs few some f cnt q None e final = by (c.phase == phases setup) refl final
    where
      by : (b : Bool) → (c.phase == phases setup) ≡ b → phase_before setup log (length log) ≡ (if b then with_report c (reports.Finished setup.steps) else with_next setup c).phase
          → FollowsCourse setup good i slave log (length log) (if b then with_report c (reports.Finished setup.steps) else with_next setup c) (if b then with_report c (reports.Finished setup.steps) else with_next setup c).sent bs
      by true z final = record { marks = f.marks; xs = f.xs; here = f.here; slaves = f.slaves; tracks = f.tracks; dated = f.dated }
      by false z final =
          let other = eqb-false c.phase (phases setup) z in
          let free = all_at IsFree c.talks i (talk_with slave f.marks) (all_free c.phase c.talks q e) f.here in
          let same : f.marks ≡ marks_of f.xs = settled_marks (mine slave.address c.sent) f.marks (marks_of f.xs) (f.tracks).owes free in
          let cnt' : count is_begun (marks_of f.xs) ≡ c.phase = ap (λ (z : List Mark). count is_begun z) (sym same) ∙ cnt in
          next log log (length log) (length log) (length log) c bs f free (job_here c runs (omega (arith, few, other)))
          (λ job. dated_next setup slave log job f.xs (begun_before (marks_of f.xs) c.phase false cnt' some) (final ∙ ap (λ (n : ℕ). n + 1) (sym cnt')) f.dated)

  turns_on : (log : List LogEntry) (c : Course) (bs : List Asking) → 1 ≤ setup.runs → c.phase ≤ phases setup → (c.phase == 0) ≡ false → (f : FollowsCourse setup good i slave log (length log) c c.sent bs) → count is_begun f.marks ≡ c.phase
      → phase_before setup log (length log) ≡ (course_turned setup c).phase → FollowsCourse setup good i slave log (length log) (course_turned setup c) (course_turned setup c).sent bs
  turns_on log c bs runs few some f cnt final = by (list_all is_quiet c.talks) refl final
    where
      by : (b : Bool) → list_all is_quiet c.talks ≡ b → phase_before setup log (length log) ≡ (decided_if setup b c).phase → FollowsCourse setup good i slave log (length log) (decided_if setup b c) (decided_if setup b c).sent bs
      by true q final = decides log c bs runs few some f cnt q (failed c.phase c.talks) refl final
      by false q final = f

  tick : (to : Address) (log : List LogEntry) (c : Course) (bs : List Asking) → 1 ≤ setup.runs → c.phase ≤ phases setup → same_address to setup.address ≡ true → Fine c → (f : FollowsCourse setup good i slave log (length log) c [] bs) → count is_begun f.marks ≡ c.phase
      → phase_before setup (Turn to ∷ log) (length (Turn to ∷ log)) ≡ (course_after_turn setup c).phase
      → FollowsCourse setup good i slave (Turn to ∷ log) (length (Turn to ∷ log)) (course_after_turn setup c) (course_after_turn setup c).sent bs
  unfolding turns
  tick to log c bs runs few own w f cnt final = by (c.phase == 0) refl final
    where
      L : List LogEntry
      L = Turn to ∷ log

      by : (b : Bool) → (c.phase == 0) ≡ b → phase_before setup L (length L) ≡ (if b then with_next setup (still c) else course_turned setup (with_turns setup (list_all is_settled c.talks) c)).phase
          → FollowsCourse setup good i slave L (length L) (if b then with_next setup (still c) else course_turned setup (with_turns setup (list_all is_settled c.talks) c)) (if b then with_next setup (still c) else course_turned setup (with_turns setup (list_all is_settled c.talks) c)).sent bs
      by true q final =
          let zero_is = eqb-true c.phase 0 q in
          let free = all_at IsFree c.talks i (talk_with slave f.marks) (free_of c.talks (w.before zero_is)) f.here in
          let same : f.marks ≡ marks_of f.xs = (f.tracks).owes in
          let cnt' : count is_begun (marks_of f.xs) ≡ c.phase = ap (λ (z : List Mark). count is_begun z) (sym same) ∙ cnt in
          next log L (length log) (length L) (length L) (still c) bs (record { marks = f.marks; xs = f.xs; here = f.here; slaves = f.slaves; tracks = f.tracks; dated = f.dated }) free (job_here (still c) runs (omega (arith, zero_is)))
          (λ job. dated_first setup slave (Turn to) log job f.xs own (λ number. refl) (begun_before (marks_of f.xs) c.phase true cnt' q) (final ∙ ap (λ (n : ℕ). n + 1) (sym cnt')) f.dated)
      by false q final =
          let settled = list_all is_settled c.talks in
          let g = turns to log settled c bs own f in
          turns_on L (with_turns setup settled c) bs runs few q g (count_after setup.limits settled f.marks ∙ cnt) final

  -- ---- an entry of the log
  got : (to from : Address) (bytes : List ℕ) (log : List LogEntry) (posts : List Send) (bs : List Asking) → (course_at setup log).report ≡ None
      → (b : Bool) → same_address to setup.address ≡ b → where_it_is b (posts ≡ []) → (f : FollowsCourse setup good i slave log (length log) (course_at setup log) posts bs)
      → phase_before setup (Got to from bytes ∷ log) (length log) ≡ count is_begun f.marks
      → FollowsCourse setup good i slave (Got to from bytes ∷ log) (length (Got to from bytes ∷ log)) (course setup (with_event b (Gram from bytes) (events_of_master setup log))) (if b then (course setup (with_event b (Gram from bytes) (events_of_master setup log))).sent else posts)
      (if b && same_address from slave.address then with_news slave.id (length log) (news_of bytes) bs else bs)
  got to from bytes log posts bs r false own may f ph =
      record {
        marks = f.marks;
        xs = f.xs;
        here = f.here;
        slaves = f.slaves;
        tracks = f.tracks;
        dated = dated_skip setup slave (Got to from bytes) log f.xs refl (λ number. ap (λ (t : Bool). (t && same_address from slave.address) && are_outputs slave number (payload_size slave.types) (news_of bytes)) own) f.dated;
      }
  got to from bytes log posts bs r true own may f ph =
      let P : Course → Type 0 = λ c. FollowsCourse setup good i slave (Got to from bytes ∷ log) (length (Got to from bytes ∷ log)) c c.sent (if same_address from slave.address then with_news slave.id (length log) (news_of bytes) bs else bs) in
      subst P (sym (step_gram setup from bytes (course_at setup log) r))
      (gram to from bytes log (course_at setup log) bs own (record { marks = f.marks; xs = f.xs; here = f.here; slaves = f.slaves; tracks = subst Q may f.tracks; dated = f.dated }) ph)
    where
      Q : List Send → Type 0
      Q z = Tracks setup.limits good slave.id f.marks (mine slave.address z) bs f.xs

  turn : (to : Address) (log : List LogEntry) (posts : List Send) (bs : List Asking) → 1 ≤ setup.runs → (course_at setup log).report ≡ None
      → (b : Bool) → same_address to setup.address ≡ b → where_it_is b (posts ≡ []) → (f : FollowsCourse setup good i slave log (length log) (course_at setup log) posts bs) → count is_begun f.marks ≡ (course_at setup log).phase
      → phase_before setup (Turn to ∷ log) (length (Turn to ∷ log)) ≡ (course setup (with_event b Tick (events_of_master setup log))).phase
      → FollowsCourse setup good i slave (Turn to ∷ log) (length (Turn to ∷ log)) (course setup (with_event b Tick (events_of_master setup log))) (if b then (course setup (with_event b Tick (events_of_master setup log))).sent else posts) bs
  turn to log posts bs runs r false own may f cnt final =
      record { marks = f.marks; xs = f.xs; here = f.here; slaves = f.slaves; tracks = f.tracks; dated = dated_skip setup slave (Turn to) log f.xs own (λ number. refl) f.dated }
  turn to log posts bs runs r true own may f cnt final =
      let P : Course → Type 0 = λ c. FollowsCourse setup good i slave (Turn to ∷ log) (length (Turn to ∷ log)) c c.sent bs in
      let s = step_tick setup (course_at setup log) r in
      subst P (sym s)
      (tick to log (course_at setup log) bs runs (going setup runs (events_of_master setup log)).few own (fine setup (events_of_master setup log))
      (record { marks = f.marks; xs = f.xs; here = f.here; slaves = f.slaves; tracks = subst Q may f.tracks; dated = f.dated }) cnt (final ∙ ap (λ (c : Course). c.phase) s))
    where
      Q : List Send → Type 0
      Q z = Tracks setup.limits good slave.id f.marks (mine slave.address z) bs f.xs

  sent : (from to : Address) (bytes : List ℕ) (log : List LogEntry) (c : Course) (posts : List Send) (bs : List Asking) (b : Bool) → where_it_is b (IsFirstSend posts to bytes)
      → (f : FollowsCourse setup good i slave log (length log) c posts bs) → phase_before setup (Sent from to bytes ∷ log) (length log) ≡ count is_begun f.marks
      → FollowsCourse setup good i slave (Sent from to bytes ∷ log) (length (Sent from to bytes ∷ log)) c (if b then tail posts else posts) (if b && same_address to slave.address then with_asking (asking_in (length log) (message_in bytes)) bs else bs)
  sent from to bytes log c posts bs false may f ph = record { marks = f.marks; xs = f.xs; here = f.here; slaves = f.slaves; tracks = f.tracks; dated = dated_skip setup slave (Sent from to bytes) log f.xs refl (λ number. refl) f.dated }
  sent from to bytes log c [] bs true may f ph = absurd may
  sent from to bytes log c (p ∷ ps) bs true may f ph = by (same_address to slave.address) (subst P may.0 (subst Q may.1 f.tracks))
    where
      L : List LogEntry
      L = Sent from to bytes ∷ log

      P : Address → Type 0
      P z = Tracks setup.limits good slave.id f.marks (if same_address z slave.address then bytes ∷ mine slave.address ps else mine slave.address ps) bs f.xs

      Q : List ℕ → Type 0
      Q z = Tracks setup.limits good slave.id f.marks (if same_address p.to slave.address then z ∷ mine slave.address ps else mine slave.address ps) bs f.xs

      no_outputs : (m : Mark) (number : ℕ) → Brings setup L slave number (length log) → IsBroughtBy number (length log) (length log) m
      no_outputs m number b = absurd (clash (brings_entry setup (Sent from to bytes) log slave number b))
        where
          clash : false ≡ true → ⊥
          clash z = cc

      in_phase : phase_before setup L (length log) ≡ count is_begun (marks_of f.xs)
      in_phase = ph ∙ owes_count good slave.id (mine slave.address (p ∷ ps)) f.marks (marks_of f.xs) (f.tracks).owes

      grown : (ys : List Placed) → IsSentOn (length log) f.xs ys → Dated setup slave L (length L) ys
      grown ys (inl e) =
          let R : List Placed → Type 0 = λ z. Dated setup slave L (length L) z in
          subst R (sym e) (dated_here setup slave (Sent from to bytes) log Again f.xs refl (omega arith) (omega arith) refl (λ h. h) in_phase tt (no_outputs Again) f.dated)
      grown ys (inr e) =
          let R : List Placed → Type 0 = λ z. Dated setup slave L (length L) z in
          subst R (sym e.1) (dated_here setup slave (Sent from to bytes) log (Asked e.0) f.xs refl (omega arith) (omega arith) refl (λ h. h) in_phase tt (no_outputs (Asked e.0)) f.dated)

      by : (t : Bool) → Tracks setup.limits good slave.id f.marks (if t then bytes ∷ mine slave.address ps else mine slave.address ps) bs f.xs
          → FollowsCourse setup good i slave L (length L) c ps (if t then with_asking (asking_in (length log) (message_in bytes)) bs else bs)
      by false t = record { marks = f.marks; xs = f.xs; here = f.here; slaves = f.slaves; tracks = t; dated = dated_skip setup slave (Sent from to bytes) log f.xs refl (λ number. refl) f.dated }
      by true t =
          let g = sends good k.state k.error setup.limits slave.id (length log) f.marks bytes (mine slave.address ps) bs f.xs k.back t in
          record { marks = f.marks; xs = g.0; here = f.here; slaves = f.slaves; tracks = (g.1).1; dated = grown g.0 (g.1).0 }

  -- the conversation is in the phase of all
  in_phase_of : (runs : 1 ≤ setup.runs) (log : List LogEntry) (marks : List Mark) → slice_get (course_at setup log).talks i ≡ Some (talk_with slave marks) → count is_begun marks ≡ (course_at setup log).phase
  in_phase_of runs log marks here =
      (with_at (λ s m. GoesByRule setup.limits (jobs_of setup s) (course_at setup log).phase m) (course_at setup log).talks i (talk_with slave marks) (going setup runs (events_of_master setup log)).goes here).phase_is

  -- one more entry
  pub follow : (runs : 1 ≤ setup.runs) (e : LogEntry) (log : List LogEntry) → MasterActs setup e log → (course_at setup log).report ≡ None
      → FollowsCourse setup good i slave log (length log) (course_at setup log) (owed setup log) (asks setup.address slave log)
      → FollowsCourse setup good i slave (e ∷ log) (length (e ∷ log)) (course_at setup (e ∷ log)) (owed setup (e ∷ log)) (asks setup.address slave (e ∷ log))
  follow runs (Sent from to bytes) log may r f =
      sent from to bytes log (course_at setup log) (owed setup log) (asks setup.address slave log) (same_address from setup.address) may f
      (phase_later setup (Sent from to bytes) log (length log) (omega arith) ∙ phase_now setup log ∙ sym (in_phase_of runs log f.marks f.here))
  follow runs (Got to from bytes) log may r f =
      got to from bytes log (owed setup log) (asks setup.address slave log) r (same_address to setup.address) refl may f
      (phase_later setup (Got to from bytes) log (length log) (omega arith) ∙ phase_now setup log ∙ sym (in_phase_of runs log f.marks f.here))
  follow runs (Idle to) log may r f = record { marks = f.marks; xs = f.xs; here = f.here; slaves = f.slaves; tracks = f.tracks; dated = dated_skip setup slave (Idle to) log f.xs refl (λ number. refl) f.dated }
  follow runs (Turn to) log may r f =
      turn to log (owed setup log) (asks setup.address slave log) runs r (same_address to setup.address) refl may f (in_phase_of runs log f.marks f.here)
      (phase_now setup (Turn to ∷ log))

  pub followed : (runs : 1 ≤ setup.runs) (log : List LogEntry) → IsRun setup log → (course_at setup log).report ≡ None → FollowsCourse setup good i slave log (length log) (course_at setup log) (owed setup log) (asks setup.address slave log)
  followed runs [] run r = record {
    marks = [];
    xs = [];
    here = get_map fresh_talk setup.slaves i slave k.is;
    slaves = fresh_slaves setup.slaves;
    tracks = record { owes = refl; is = refl; head = tt; all = tt; shut = λ cause z. absurd (no_cause cause z) };
    dated = record { low = omega arith; below = omega arith; now = refl; dates = tt; brought = λ number place h b. absurd (omega (arith, h)) };
  }
    where
      no_cause : (cause : Cause) → None ≡ Some cause → ⊥
      no_cause cause z = cc
  followed runs (e ∷ log) run r = let before = none_before setup e log r in follow runs e log run.0 before (followed runs log run.1 before)
