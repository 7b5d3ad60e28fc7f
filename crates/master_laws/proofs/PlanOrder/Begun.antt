-- Where the master has a phase's first request still to send, no slave has answered anything in this phase.
use Rattle.std.proofs.Common.{◌≡◌, ℕ, zero, suc, ◌+◌, ◌-◌, ◌%◌, ◌≤◌, Bool, true, false, if◌then◌else◌, ◌⊎◌, inl, inr, Option, Some, None, List, [], ◌∷◌, ◌++◌, map, refl, sym, ap, ◌∙◌, subst, arith}
use Rattle.std.specs.Prelude.{◌==◌, ◌&&◌, slice_get}
use Rattle.std.specs.List.{flat_map, list_all}
use Rattle.dcp_types.specs.declared.addresses.Address.{Address}
use Rattle.dcp_types.specs.declared.limits.Limits.{Limits}
use Rattle.dcp_ends.specs.Events.{Event, Gram, Tick, Send}
use Rattle.dcp_ends.specs.Logs.{same_address}
use Rattle.master_spec.specs.declared.reports.Report.{Report}
use Rattle.master_spec.specs.declared.reports.Report.TheVariants as reports
use Rattle.master_spec.specs.declared.requests.Request.{Request}
use Rattle.master_spec.specs.declared.reactions.Reaction.{Reaction}
use Rattle.master_spec.specs.declared.reactions.Reaction.TheVariants.{Wait, Ask, Repeat, GiveUp}
use Rattle.master_spec.specs.declared.setups.Slave.{Slave}
use Rattle.master_spec.specs.declared.setups.Setup.{Setup}
use Rattle.master_spec.specs.Jobs.{Job}
use Rattle.master_spec.specs.Setup.{jobs_of}
use Rattle.master_spec.specs.Marks.{Mark, Begun, Asked, Again, Answered, Hinted, Brought, Turned, Ended, asked, count, is_begun}
use Rattle.master_spec.specs.Conversation.{reaction, done, marks_after, extended, messages_if}
use Rattle.master_spec.specs.Course.{CourseTalk, Course, course, mark_of_gram, marked, sends_after, send_to, is_settled, is_quiet, failed, begun_with, task_begun, phases, with_next, with_report, decided, with_turns, decided_if, course_turned, still, after_gram, course_after_turn, step}
use Rattle.master_spec.specs.Requests.{Asking, is_main, acked}
use Rattle.master_log_laws.specs.Asking.Legal.{GoesByRule, AllWith}
use Rattle.master_log_laws.proofs.Asking.Courses.{gram_may, gram_no_begin}
use Rattle.master_log_laws.proofs.Asking.Legal.{turn_goes, going}
use Rattle.master_log_laws.specs.Index.Index.{Placed, marks_of, first_at, again_at}
use Rattle.master_log_laws.proofs.Index.Mine.{same_self}
use Rattle.master_log_laws.proofs.Index.Runs.{slaves_at, talks_of, step_gram, step_tick, step_still, with_at}
use Rattle.master_log_laws.proofs.Phases.Now.{now_by, now}
use Rattle.master_log_laws.proofs.Phases.Mains.{acked_no}

-- ---- a conversation without an answer in this phase
abbrev pub IsStillAt : Mark → Type 0 → Type 0
IsStillAt (Begun job) older = Unit {0}
IsStillAt (Answered request answer) older = ⊥
IsStillAt (Asked request) older = older
IsStillAt Again older = older
IsStillAt Hinted older = older
IsStillAt (Brought number payload) older = older
IsStillAt (Turned settled) older = older
IsStillAt (Ended cause) older = older

abbrev pub IsStill : List Mark → Type 0
IsStill [] = Unit {0}
IsStill (m ∷ marks) = IsStillAt m (IsStill marks)

again_acked : (n : ℕ) (bs : List Asking) → acked (again_at n bs) ≡ acked bs
again_acked n [] = refl
again_acked n (b ∷ bs) = refl

-- nothing is acknowledged in it
pub still_acked : (xs : List Placed) → IsStill (marks_of xs) → acked (now xs) ≡ 0
still_acked [] k = refl
still_acked (x ∷ xs) k = by x.mark k (still_acked xs)
  where
    off : (b : Bool) → (b && false) ≡ false
    off true = refl
    off false = refl

    by : (m : Mark) → IsStillAt m (IsStill (marks_of xs)) → (IsStill (marks_of xs) → acked (now xs) ≡ 0) → acked (now_by x.place m (marks_of xs) (now xs)) ≡ 0
    by (Begun j) k f = refl
    by (Asked r) k f = let b : Asking = first_at x.place (asked (marks_of xs) % 65536) r in acked_no b (now xs) (off (is_main b)) ∙ f k
    by Again k f = again_acked x.place (now xs) ∙ f k
    by (Answered r a) k f = absurd k
    by Hinted k f = f k
    by (Brought n p) k f = f k
    by (Turned t) k f = f k
    by (Ended cause) k f = f k

begun_still : (limits : Limits) (job : Job) (marks : List Mark) → IsStill (marks_after limits (Begun job) marks)
begun_still limits job marks = by (reaction limits (Begun job) marks)
  where
    by : (r : Reaction) → IsStill (done r (Begun job ∷ marks))
    by Wait = tt
    by (Ask q) = tt
    by Repeat = tt
    by (GiveUp cause) = tt

-- ---- what is sent
abbrev pub SentTo : Address → List Send → Type 0
SentTo to [] = ⊥
SentTo to (p ∷ posts) = (p.to ≡ to) ⊎ SentTo to posts

sent_either : (to : Address) (ps qs : List Send) → SentTo to (ps ++ qs) → SentTo to ps ⊎ SentTo to qs
sent_either to [] qs h = inr h
sent_either to (p ∷ ps) qs (inl e) = inl (inl e)
sent_either to (p ∷ ps) qs (inr h) = by (sent_either to ps qs h)
  where
    by : SentTo to ps ⊎ SentTo to qs → SentTo to (p ∷ ps) ⊎ SentTo to qs
    by (inl k) = inl (inr k)
    by (inr k) = inr k

sent_there : (a to : Address) (bs : List (List ℕ)) → SentTo to (map (send_to a) bs) → (a ≡ to) × (bs ≡ [] → ⊥)
sent_there a to [] h = absurd h
sent_there a to (b ∷ bs) (inl e) = (e, λ z. absurd cc)
sent_there a to (b ∷ bs) (inr h) = ((sent_there a to bs h).0, λ z. absurd cc)

-- a conversation sends it
record Sender (limits : Limits) (f : CourseTalk → Option Mark) (to : Address) (talks : List CourseTalk) : Type 0 where
  pub place : ℕ
  pub talk : CourseTalk
  pub here : slice_get talks place ≡ Some talk
  pub there : talk.slave.address ≡ to
  pub sends : messages_if limits talk.slave.id (f talk) talk.marks ≡ [] → ⊥

sender : (limits : Limits) (f : CourseTalk → Option Mark) (to : Address) (talks : List CourseTalk) → SentTo to (flat_map (λ talk. sends_after limits talk (f talk)) talks) → Sender limits f to talks
sender limits f to [] h = absurd h
sender limits f to (u ∷ talks) h = by (sent_either to (sends_after limits u (f u)) (flat_map (λ talk. sends_after limits talk (f talk)) talks) h) (λ k. sender limits f to talks k)
  where
    by : SentTo to (sends_after limits u (f u)) ⊎ SentTo to (flat_map (λ talk. sends_after limits talk (f talk)) talks) → (SentTo to (flat_map (λ talk. sends_after limits talk (f talk)) talks) → Sender limits f to talks) → Sender limits f to (u ∷ talks)
    by (inl k) g = let z = sent_there u.slave.address to (messages_if limits u.slave.id (f u) u.marks) k in record { place = 0; talk = u; here = refl; there = z.0; sends = z.1 }
    by (inr k) g = let s = g k in record { place = suc s.place; talk = s.talk; here = s.here; there = s.there; sends = s.sends }

map_at : (g : CourseTalk → CourseTalk) (talks : List CourseTalk) (i : ℕ) (v : CourseTalk) → slice_get (map g talks) i ≡ Some v → (u : CourseTalk) × ((slice_get talks i ≡ Some u) × (v ≡ g u))
map_at g [] i v e = absurd cc
map_at g (t ∷ talks) zero v e = let z : g t ≡ v = cc in (t, (refl, sym z))
map_at g (t ∷ talks) (suc i) v e = map_at g talks i v e

-- ---- the newest request is the first of its phase, and was asked at this event
abbrev JustAsked : List Mark → Type 0
JustAsked marks = (r : Request) × ((job : Job) × ((older : List Mark) × (marks ≡ Asked r ∷ Begun job ∷ older)))

other_mark : (limits : Limits) (id : ℕ) (o : Option Mark) (marks : List Mark) → ((job : Job) → o ≡ Some (Begun job) → ⊥) → ((r : Request) → o ≡ Some (Asked r) → ⊥) → (messages_if limits id o marks ≡ [] → ⊥) → JustAsked (extended limits o marks) → ⊥
other_mark limits id None marks n a s k = s refl
other_mark limits id (Some m) marks n a s k = by (reaction limits m marks) ((k.1).1).1
  where
    r : Request
    r = k.0

    job : Job
    job = (k.1).0

    older : List Mark
    older = ((k.1).1).0

    by : (x : Reaction) → done x (m ∷ marks) ≡ Asked r ∷ Begun job ∷ older → ⊥
    by Wait e = let z : m ≡ Asked r = cc in a r (ap (λ (y : Mark). Some y) z)
    by (Ask q) e = let z : m ≡ Begun job = cc in n job (ap (λ (y : Mark). Some y) z)
    by Repeat e = cc
    by (GiveUp cause) e = cc

abbrev pub AllStill : List CourseTalk → Type 0
AllStill talks = (j : ℕ) (v : CourseTalk) → slice_get talks j ≡ Some v → IsStill v.marks

module _ (setup : Setup) (i : ℕ) (s : Slave) (here : slice_get setup.slaves i ≡ Some s)
    (apart : (j : ℕ) (t : Slave) → slice_get setup.slaves j ≡ Some t → same_address t.address s.address ≡ true → j ≡ i) where
  -- the slave's conversation was asked something at this event, and by another mark than the begin of a phase
  not_here : (f : CourseTalk → Option Mark) (talks : List CourseTalk) → map (λ u. u.slave) talks ≡ setup.slaves → ((u : CourseTalk) (job : Job) → f u ≡ Some (Begun job) → ⊥) → ((u : CourseTalk) (r : Request) → f u ≡ Some (Asked r) → ⊥)
      → SentTo s.address (flat_map (λ talk. sends_after setup.limits talk (f talk)) talks) → (v : CourseTalk) → slice_get (map (λ talk. marked setup.limits talk (f talk)) talks) i ≡ Some v → JustAsked v.marks → ⊥
  not_here f talks slaves n a h v e k =
      let t = sender setup.limits f s.address talks h in
      let same : t.place ≡ i = apart t.place t.talk.slave (slaves_at talks setup.slaves slaves t.place t.talk t.here) (ap (λ (x : Address). same_address x s.address) t.there ∙ same_self s.address) in
      let m = map_at (λ talk. marked setup.limits talk (f talk)) talks i v e in
      let one : Some t.talk ≡ Some m.0 = sym t.here ∙ ap (slice_get talks) same ∙ (m.1).0 in
      let u : t.talk ≡ m.0 = cc in
      let new : v.marks ≡ extended setup.limits (f t.talk) t.talk.marks = ap (λ (x : CourseTalk). x.marks) (m.1).1 ∙ ap (λ (x : CourseTalk). extended setup.limits (f x) x.marks) (sym u) in
      let P : List Mark → Type 0 = JustAsked in
      other_mark setup.limits t.talk.slave.id (f t.talk) t.talk.marks (n t.talk) (a t.talk) t.sends (subst P new k)

  -- ---- a phase begins for all
  next_still : (runs : 1 ≤ setup.runs) (c : Course) → AllWith (λ u m. GoesByRule setup.limits (jobs_of setup u) c.phase m) c.talks → AllWith (λ u m. GoesByRule setup.limits (jobs_of setup u) (c.phase + 1) m) (with_next setup c).talks → AllStill (with_next setup c).talks
  next_still runs c g h j v e =
      let m = map_at (λ talk. marked setup.limits talk (task_begun setup (c.phase + 1) talk)) c.talks j v e in
      let old = (with_at (λ u m. GoesByRule setup.limits (jobs_of setup u) c.phase m) c.talks j m.0 g (m.1).0).phase_is in
      let new = (with_at (λ u m. GoesByRule setup.limits (jobs_of setup u) (c.phase + 1) m) (with_next setup c).talks j v h e).phase_is in
      let marks : v.marks ≡ extended setup.limits (task_begun setup (c.phase + 1) m.0) m.0.marks = ap (λ (x : CourseTalk). x.marks) (m.1).1 in
      by m.0 (slice_get (jobs_of setup m.0.slave) (c.phase + 1 - 1)) marks old new
    where
      by : (u : CourseTalk) (o : Option Job) → v.marks ≡ extended setup.limits (begun_with o) u.marks → count is_begun u.marks ≡ c.phase → count is_begun v.marks ≡ c.phase + 1 → IsStill v.marks
      by u None e old new = let z : count is_begun v.marks ≡ count is_begun u.marks = ap (count is_begun) e in absurd (omega (arith, z, old, new))
      by u (Some job) e old new = let P : List Mark → Type 0 = IsStill in subst P (sym e) (begun_still setup.limits job u.marks)

  abbrev Result : Course → Type 0
  Result c = SentTo s.address c.sent → (v : CourseTalk) → slice_get c.talks i ≡ Some v → JustAsked v.marks → AllStill c.talks

  gram_no_ask : (from : Address) (bytes : List ℕ) (u : CourseTalk) (r : Request) → mark_of_gram u from bytes ≡ Some (Asked r) → ⊥
  gram_no_ask from bytes u r e = gram_may u from bytes (Asked r) e

  turn_no_begin : (settled : Bool) (u : CourseTalk) (job : Job) → Some (Turned settled) ≡ Some (Begun job) → ⊥
  turn_no_begin settled u job e = cc

  turn_no_ask : (settled : Bool) (u : CourseTalk) (r : Request) → Some (Turned settled) ≡ Some (Asked r) → ⊥
  turn_no_ask settled u r e = cc

  gram_result : (from : Address) (bytes : List ℕ) (c : Course) → map (λ u. u.slave) c.talks ≡ setup.slaves → Result (after_gram setup from bytes c)
  gram_result from bytes c slaves h v e k = absurd (not_here (λ talk. mark_of_gram talk from bytes) c.talks slaves (λ u job. gram_no_begin u from bytes job) (gram_no_ask from bytes) h v e k)

  turns_result : (settled : Bool) (c : Course) → map (λ u. u.slave) c.talks ≡ setup.slaves → (v : CourseTalk) → SentTo s.address (with_turns setup settled c).sent → slice_get (with_turns setup settled c).talks i ≡ Some v → JustAsked v.marks → ⊥
  turns_result settled c slaves v h e k = not_here (λ talk. Some (Turned settled)) c.talks slaves (turn_no_begin settled) (turn_no_ask settled) h v e k

  module _ (runs : 1 ≤ setup.runs) where
    abbrev Goes : ℕ → List CourseTalk → Type 0
    Goes n talks = AllWith (λ u m. GoesByRule setup.limits (jobs_of setup u) n m) talks

    decided_result : (settled : Bool) (c : Course) → map (λ u. u.slave) c.talks ≡ setup.slaves → Goes c.phase (with_turns setup settled c).talks → (o : Option Report)
        → Goes (decided setup (with_turns setup settled c) o).phase (decided setup (with_turns setup settled c) o).talks → Result (decided setup (with_turns setup settled c) o)
    decided_result settled c slaves g (Some report) d = λ h v e k. absurd (turns_result settled c slaves v h e k)
    decided_result settled c slaves g None d = by (c.phase == phases setup) d
      where
        by : (b : Bool) → Goes (if b then with_report (with_turns setup settled c) (reports.Finished setup.steps) else with_next setup (with_turns setup settled c)).phase (if b then with_report (with_turns setup settled c) (reports.Finished setup.steps) else with_next setup (with_turns setup settled c)).talks
            → Result (if b then with_report (with_turns setup settled c) (reports.Finished setup.steps) else with_next setup (with_turns setup settled c))
        by true d = λ h v e k. absurd (turns_result settled c slaves v h e k)
        by false d = λ h v e k. next_still runs (with_turns setup settled c) g d

    turned_result : (settled : Bool) (c : Course) → map (λ u. u.slave) c.talks ≡ setup.slaves → Goes c.phase c.talks → Goes (course_turned setup (with_turns setup settled c)).phase (course_turned setup (with_turns setup settled c)).talks → Result (course_turned setup (with_turns setup settled c))
    turned_result settled c slaves g d = by (list_all is_quiet (with_turns setup settled c).talks) d
      where
        by : (b : Bool) → Goes (decided_if setup b (with_turns setup settled c)).phase (decided_if setup b (with_turns setup settled c)).talks → Result (decided_if setup b (with_turns setup settled c))
        by true d = decided_result settled c slaves (turn_goes setup runs c.phase settled c.talks g) (failed c.phase (with_turns setup settled c).talks) d
        by false d = λ h v e k. absurd (turns_result settled c slaves v h e k)

    tick_result : (c : Course) → map (λ u. u.slave) c.talks ≡ setup.slaves → Goes c.phase c.talks → Goes (course_after_turn setup c).phase (course_after_turn setup c).talks → Result (course_after_turn setup c)
    tick_result c slaves g d = by (c.phase == 0) d
      where
        next : Bool → Course
        next b = if b then with_next setup (still c) else course_turned setup (with_turns setup (list_all is_settled c.talks) c)

        by : (b : Bool) → Goes (next b).phase (next b).talks → Result (next b)
        by true d = λ h v e k. next_still runs (still c) g d
        by false d = turned_result (list_all is_settled c.talks) c slaves g d

    pub all_still : (evs : List Event) → Result (course setup evs)
    all_still [] = λ h v e k. absurd h
    all_still (ev ∷ evs) = by (course setup evs).report refl ev (going setup runs (ev ∷ evs)).goes
      where
        c : Course
        c = course setup evs

        no_sent : (report : Report) → c.report ≡ Some report → (ev : Event) → Result (step setup ev c)
        no_sent report r ev = let P : Course → Type 0 = Result in subst P (sym (step_still setup ev c report r)) (λ h v e k. absurd h)

        by : (o : Option Report) → c.report ≡ o → (ev : Event) → Goes (step setup ev c).phase (step setup ev c).talks → Result (step setup ev c)
        by (Some report) r ev d = no_sent report r ev
        by None r (Gram from bytes) d = let P : Course → Type 0 = Result in subst P (sym (step_gram setup from bytes c r)) (gram_result from bytes c (talks_of setup evs))
        by None r Tick d =
            let P : Course → Type 0 = Result in
            let Q : Course → Type 0 = λ x. Goes x.phase x.talks in
            subst P (sym (step_tick setup c r)) (tick_result c (talks_of setup evs) (going setup runs evs).goes (subst Q (step_tick setup c r) d))
