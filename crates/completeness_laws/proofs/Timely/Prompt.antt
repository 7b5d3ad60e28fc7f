-- In a timely log no request is open for long.
use Rattle.std.proofs.Common.{◌≡◌, ℕ, zero, suc, ◌+◌, ◌-◌, ◌<◌, ◌≤◌, ◌⊎◌, inl, inr, Bool, true, false, if◌then◌else◌, Option, Some, None, List, [], ◌∷◌, ◌++◌, length, drop, refl, sym, ap, ◌∙◌, subst, arith, append_assoc, length-append}
use Rattle.std.specs.Prelude.{slice_get, ◌==◌, ◌&&◌, count_by}
use Rattle.dcp_types.specs.declared.addresses.Address.{Address}
use Rattle.dcp_types.specs.declared.limits.Limits.{Limits}
use Rattle.dcp_ends.specs.Events.{Gram, Tick}
use Rattle.dcp_ends.specs.Logs.{same_address}
use Rattle.dcp_ends.specs.declared.entries.LogEntry.{LogEntry}
use Rattle.dcp_ends.specs.declared.entries.LogEntry.TheVariants.{Sent, Got, Idle, Turn}
use Rattle.pdu_layout.specs.Reading.{message_in}
use Rattle.master_spec.specs.declared.requests.Request.{Request}
use Rattle.master_spec.specs.declared.requests.Answer.{Answer}
use Rattle.master_spec.specs.declared.setups.Slave.{Slave}
use Rattle.master_spec.specs.declared.setups.Setup.{Setup}
use Rattle.master_spec.specs.Setup.{jobs_of}
use Rattle.master_spec.specs.Jobs.{Job}
use Rattle.master_spec.specs.News.{News, Answers, Hints, Brings, Nothing, news_of}
use Rattle.master_spec.specs.Marks.{Mark, Begun, Asked, Again, Answered, Hinted, Brought, Turned, Ended, is_asked, newest_number, open_request, turns_since}
use Rattle.master_spec.specs.Requests.{Asking, Decision, asking_in, asks, asks_after, decided_by, is_turn_of, turns_before, with_asking, with_news}
use Rattle.master_spec.specs.Course.{CourseTalk, course}
use Rattle.master_log_laws.specs.Asking.Closed.{AllTalks}
use Rattle.master_log_laws.specs.Asking.Legal.{AreLegal, GoesByRule}
use Rattle.master_log_laws.proofs.Asking.Legal.{going}
use Rattle.master_log_laws.specs.Index.Runs.{course_at, events_of_master, owed, with_event, IsRun}
use Rattle.master_log_laws.specs.Index.Index.{Placed, marks_of, again_at, decided_at, askings_told, askings_told_by, IsAgain, IsAsked, IsHeadOf, IsHeadRequest, Owes, ReadBack}
use Rattle.master_log_laws.specs.Index.Follows.{mine, talk_with, FollowsCourse}
use Rattle.master_log_laws.specs.Index.Dates.{clock, AreDated}
use Rattle.master_log_laws.specs.Index.Laws.{AreHeard}
use Rattle.master_log_laws.proofs.Index.Laws.{listens}
use Rattle.master_log_laws.proofs.Index.Runs.{followed, slaves_at, talks_of, with_at}
use Rattle.master_log_laws.proofs.Phases.Numbered.{legal_below}
use Rattle.master_log_laws.proofs.Failures.Turns.{InPhases, exchange_begun, newest, newest_if, turns_rise, turns_to}
use Rattle.completeness_laws.specs.Timely.{Timely}
use Rattle.completeness_laws.proofs.Timely.Waiting.{AllPrompt, IsPrompt, PromptAt}

-- ---- turns before a place do not change
turns_longer : (master : Address) (e : LogEntry) (log : List LogEntry) (i : ℕ) → i ≤ length log → turns_before master (e ∷ log) i ≡ turns_before master log i
turns_longer master e log i h =
    let n : length (e ∷ log) - i ≡ suc (length log - i) = omega (arith, h) in
    ap (λ (k : ℕ). count_by (is_turn_of master) (drop k (e ∷ log))) n

pub turns_later : (master : Address) (later sofar : List LogEntry) (i : ℕ) → i ≤ length sofar → turns_before master (later ++ sofar) i ≡ turns_before master sofar i
turns_later master [] sofar i h = refl
turns_later master (e ∷ later) sofar i h =
    let n = length-append later sofar in
    turns_longer master e (later ++ sofar) i (omega (arith, h, n)) ∙ turns_later master later sofar i h

-- ---- a request stays among those asked
pub record Stays (bs : List Asking) (b : Asking) (since : ℕ) : Type 0 where
  pub n : ℕ
  pub now : Asking
  pub here : slice_get bs n ≡ Some now
  pub first : now.first ≡ b.first
  pub later : (d : Decision) → now.decision ≡ Some d → (b.decision ≡ Some d) ⊎ (since ≤ d.place)

stays_asked : (o : Option Asking) (bs : List Asking) (b : Asking) (since : ℕ) → Stays bs b since → Stays (with_asking o bs) b since
stays_asked None bs b since s = s
stays_asked (Some x) [] b since s = let h = s.here in absurd cc
stays_asked (Some x) (c ∷ bs) b since s = by (x.number == c.number) s.n s.here
  where
    by : (y : Bool) → (n : ℕ) → slice_get (c ∷ bs) n ≡ Some s.now → Stays (if y then record { code = c.code; number = c.number; more = c.more; first = c.first; repeats = x.first ∷ c.repeats; decision = c.decision } ∷ bs else x ∷ c ∷ bs) b since
    by true zero h =
        let z : c ≡ s.now = cc in
        record { n = 0; now = record { code = c.code; number = c.number; more = c.more; first = c.first; repeats = x.first ∷ c.repeats; decision = c.decision }; here = refl; first = ap (λ (y : Asking). y.first) z ∙ s.first; later = λ d e. s.later d (ap (λ (y : Asking). y.decision) (sym z) ∙ e) }
    by true (suc n) h = record { n = suc n; now = s.now; here = h; first = s.first; later = s.later }
    by false n h = record { n = suc n; now = s.now; here = h; first = s.first; later = s.later }

stays_answered : (id place : ℕ) (number sender : ℕ) (a : Answer) (bs : List Asking) (b : Asking) (since : ℕ) → since ≤ place → Stays bs b since → Stays (with_news id place (Answers number sender a) bs) b since
stays_answered id place number sender a [] b since l s = s
stays_answered id place number sender a (c ∷ bs) b since l s = by ((sender == id) && (number == c.number)) s.n s.here
  where
    new : Decision
    new = record { place = place; answer = a }

    by : (y : Bool) → (n : ℕ) → slice_get (c ∷ bs) n ≡ Some s.now → Stays (if y then record { code = c.code; number = c.number; more = c.more; first = c.first; repeats = c.repeats; decision = decided_by c.decision (record { place = place; answer = a }) } ∷ bs else c ∷ bs) b since
    by true zero h =
        let z : c ≡ s.now = cc in
        record {
          n = 0;
          now = record { code = c.code; number = c.number; more = c.more; first = c.first; repeats = c.repeats; decision = decided_by c.decision (record { place = place; answer = a }) };
          here = refl;
          first = ap (λ (y : Asking). y.first) z ∙ s.first;
          later = λ d e. two c.decision (ap (λ (y : Asking). y.decision) z) d e;
        }
      where
        two : (o : Option Decision) → o ≡ s.now.decision → (d : Decision) → decided_by o (record { place = place; answer = a }) ≡ Some d → (b.decision ≡ Some d) ⊎ (since ≤ d.place)
        two None g d e = let z : record { place = place; answer = a } ≡ d = cc in inr (subst (λ (y : Decision). since ≤ y.place) z l)
        two (Some f) g d e = s.later d (sym g ∙ e)
    by true (suc n) h = record { n = suc n; now = s.now; here = h; first = s.first; later = s.later }
    by false n h = record { n = n; now = s.now; here = h; first = s.first; later = s.later }

stays_news : (id place : ℕ) (w : News) (bs : List Asking) (b : Asking) (since : ℕ) → since ≤ place → Stays bs b since → Stays (with_news id place w bs) b since
stays_news id place (Answers number sender a) bs b since l s = stays_answered id place number sender a bs b since l s
stays_news id place (Hints sender) bs b since l s = s
stays_news id place (Brings number data_id payload) bs b since l s = s
stays_news id place Nothing bs b since l s = s

module _ (master : Address) (slave : Slave) where
  stays_after : (place : ℕ) (e : LogEntry) (bs : List Asking) (b : Asking) (since : ℕ) → since ≤ place → Stays bs b since → Stays (asks_after master slave place e bs) b since
  stays_after place (Sent from to bytes) bs b since l s = by (same_address from master && same_address to slave.address)
    where
      by : (y : Bool) → Stays (if y then with_asking (asking_in place (message_in bytes)) bs else bs) b since
      by true = stays_asked (asking_in place (message_in bytes)) bs b since s
      by false = s
  stays_after place (Got at from bytes) bs b since l s = by (same_address at master && same_address from slave.address)
    where
      by : (y : Bool) → Stays (if y then with_news slave.id place (news_of bytes) bs else bs) b since
      by true = stays_news slave.id place (news_of bytes) bs b since l s
      by false = s
  stays_after place (Idle at) bs b since l s = s
  stays_after place (Turn at) bs b since l s = s

  pub stays : (later sofar : List LogEntry) (n : ℕ) (b : Asking) → slice_get (asks master slave sofar) n ≡ Some b → Stays (asks master slave (later ++ sofar)) b (length sofar)
  stays [] sofar n b h = record { n = n; now = b; here = h; first = refl; later = λ d e. inl e }
  stays (e ∷ later) sofar n b h = let l = length-append later sofar in stays_after (length (later ++ sofar)) e (asks master slave (later ++ sofar)) b (length sofar) (omega (arith, l)) (stays later sofar n b h)

-- ---- where the newest request was first sent
newest_asked : (xs : List Placed) (b : Asking) (bs : List Asking) → askings_told xs ≡ b ∷ bs → newest is_asked xs ≡ Some b.first
newest_asked [] b bs e = absurd cc
newest_asked (x ∷ xs) b bs e = by x.mark e (λ c cs z. newest_asked xs c cs z)
  where
    again : (cs : List Asking) → again_at x.place cs ≡ b ∷ bs → ((c : Asking) (ds : List Asking) → cs ≡ c ∷ ds → newest is_asked xs ≡ Some c.first) → newest is_asked xs ≡ Some b.first
    again [] z f = absurd cc
    again (c ∷ cs) z f = let y : c.first ≡ b.first = cc in f c cs refl ∙ ap (λ (i : ℕ). Some i) y

    decided : (a : Answer) (cs : List Asking) → decided_at x.place a cs ≡ b ∷ bs → ((c : Asking) (ds : List Asking) → cs ≡ c ∷ ds → newest is_asked xs ≡ Some c.first) → newest is_asked xs ≡ Some b.first
    decided a [] z f = absurd cc
    decided a (c ∷ cs) z f = let y : c.first ≡ b.first = cc in f c cs refl ∙ ap (λ (i : ℕ). Some i) y

    by : (m : Mark) → askings_told_by x.place m (marks_of xs) (askings_told xs) ≡ b ∷ bs → ((c : Asking) (cs : List Asking) → askings_told xs ≡ c ∷ cs → newest is_asked xs ≡ Some c.first) → newest_if (is_asked m) x.place (newest is_asked xs) ≡ Some b.first
    by (Asked r) z f = let y : x.place ≡ b.first = cc in ap (λ (i : ℕ). Some i) y
    by Again z f = again (askings_told xs) z f
    by (Answered r a) z f = decided a (askings_told xs) z f
    by (Begun j) z f = f b bs z
    by Hinted z f = f b bs z
    by (Brought n p) z f = f b bs z
    by (Turned t) z f = f b bs z
    by (Ended c) z f = f b bs z

newest_below : (setup : Setup) (slave : Slave) (log : List LogEntry) (is : Mark → Bool) (xs : List Placed) (i : ℕ) → AreDated setup slave log xs → newest is xs ≡ Some i → i ≤ length log
newest_below setup slave log is [] i d e = absurd cc
newest_below setup slave log is (x ∷ xs) i d e = by (is x.mark) e (λ z. newest_below setup slave log is xs i d.1 z)
  where
    by : (y : Bool) → newest_if y x.place (newest is xs) ≡ Some i → (newest is xs ≡ Some i → i ≤ length log) → i ≤ length log
    by true z f = let w : x.place ≡ i = cc in let v = d.0.below in omega (arith, w, v)
    by false z f = f z

pub asked_in_phases : (limits : Limits) (js : List Job) → InPhases limits js is_asked
asked_in_phases limits js (Asked r) marks l e = exchange_begun limits js (Asked r) marks l tt
asked_in_phases limits js (Begun j) marks l e = absurd cc
asked_in_phases limits js Again marks l e = absurd cc
asked_in_phases limits js (Answered r a) marks l e = absurd cc
asked_in_phases limits js Hinted marks l e = absurd cc
asked_in_phases limits js (Brought n p) marks l e = absurd cc
asked_in_phases limits js (Turned t) marks l e = absurd cc
asked_in_phases limits js (Ended c) marks l e = absurd cc

-- ---- each moment up to the report
module _ (setup : Setup) (heard : AreHeard setup) (log : List LogEntry) (run : IsRun setup log) (t : Timely setup log) (one : 1 ≤ setup.limits.turn_limit) where
  run_back : (later sofar : List LogEntry) → IsRun setup (later ++ sofar) → IsRun setup sofar
  run_back [] sofar r = r
  run_back (e ∷ later) sofar r = run_back later sofar r.1

  abbrev Prompt : List Mark → Type 0
  Prompt ms = IsPrompt setup heard.runs one ms

  open_head : (ms : List Mark) (bs : List Asking) (q : Request) → open_request ms ≡ Some q → IsHeadOf ms bs → (b : Asking) × ((rest : List Asking) × ((bs ≡ b ∷ rest) × (b.decision ≡ None)))
  open_head ms bs q o h = by bs (subst (λ (x : Option Request). IsHeadRequest x (newest_number ms) bs) o h)
    where
      by : (bs : List Asking) → IsHeadRequest (Some q) (newest_number ms) bs → (b : Asking) × ((rest : List Asking) × ((bs ≡ b ∷ rest) × (b.decision ≡ None)))
      by [] k = absurd k
      by (b ∷ rest) k = (b, (rest, (refl, k.1.0)))

  module _ (later sofar : List LogEntry) (is : log ≡ later ++ sofar) (i : ℕ) (slave : Slave) (e : slice_get setup.slaves i ≡ Some slave) (none : (course_at setup sofar).report ≡ None) where
    js : List Job
    js = jobs_of setup slave

    f : FollowsCourse setup (ReadBack slave.id) i slave sofar (length sofar) (course_at setup sofar) (owed setup sofar) (asks setup.address slave sofar)
    f = followed setup (ReadBack slave.id) i slave (listens setup heard i slave e) heard.runs sofar (run_back later sofar (subst (IsRun setup) is run)) none

    legal : AreLegal setup.limits (jobs_of setup slave) (marks_of f.xs)
    legal = legal_below setup.limits (jobs_of setup slave) (ReadBack slave.id) slave.id (mine slave.address (owed setup sofar)) f.marks (marks_of f.xs) f.tracks.owes
        (with_at (λ u m. GoesByRule setup.limits (jobs_of setup u) (course_at setup sofar).phase m) (course_at setup sofar).talks i (talk_with slave f.marks) (going setup heard.runs (events_of_master setup sofar)).goes f.here).legal

    -- of those that were sent
    sent : Prompt (marks_of f.xs)
    sent q o c =
        let h = open_head (marks_of f.xs) (askings_told f.xs) q o f.tracks.head in
        let b = h.0 in
        let told = h.1.1.0 in
        let place = newest_asked f.xs b h.1.0 told in
        let low = newest_below setup slave sofar is_asked f.xs b.first f.dated.dates place in
        let turns = turns_to setup slave sofar setup.limits (jobs_of setup slave) is_asked f.xs b.first (asked_in_phases setup.limits (jobs_of setup slave)) legal f.dated.dates place in
        let now : turns_before setup.address sofar (length sofar) ≡ clock (marks_of f.xs) = f.dated.now in
        let here : slice_get (asks setup.address slave sofar) 0 ≡ Some b = ap (λ (bs : List Asking). slice_get bs 0) (f.tracks.is ∙ told) in
        let s = stays setup.address slave later sofar 0 b here in
        let P : List LogEntry → Type 0 = λ l. slice_get (asks setup.address slave l) s.n ≡ Some s.now in
        let a = t.answers slave (i, e) s.n s.now (subst P (sym is) s.here) in
        let since = after a.answer b (s.later a.answer a.told) h.1.1.1 in
        let x = turns_rise setup.address log (length sofar) a.answer.place since in
        let soon = a.soon in
        let y : turns_before setup.address log (length sofar) ≡ turns_before setup.address sofar (length sofar) = ap (λ (l : List LogEntry). turns_before setup.address l (length sofar)) is ∙ turns_later setup.address later sofar (length sofar) (omega arith) in
        let z : turns_before setup.address log s.now.first ≡ turns_before setup.address sofar b.first =
        ap (turns_before setup.address log) s.first ∙ ap (λ (l : List LogEntry). turns_before setup.address l b.first) is ∙ turns_later setup.address later sofar b.first low in
        sums (turns_before setup.address log a.answer.place) (turns_before setup.address log s.now.first) (turns_before setup.address log (length sofar)) (turns_before setup.address sofar (length sofar)) (turns_before setup.address sofar b.first) (clock (marks_of f.xs)) (turns_since is_asked (marks_of f.xs)) setup.limits.turn_limit x soon y z now turns
      where
        after : (d : Decision) (b : Asking) → (b.decision ≡ Some d) ⊎ (length sofar ≤ d.place) → b.decision ≡ None → length sofar ≤ d.place
        after d b (inl z) n = let w : None ≡ Some d = sym n ∙ z in absurd cc
        after d b (inr z) n = z

        sums : (d first now_log now_sofar first_sofar ticks since limit : ℕ) → now_log ≤ d → d - first < limit → now_log ≡ now_sofar → first ≡ first_sofar → now_sofar ≡ ticks → ticks ≡ first_sofar + since → since + 1 ≤ limit
        sums d first now_log now_sofar first_sofar ticks since limit h1 h2 h3 h4 h5 h6 = omega (arith, h1, h2, h3, h4, h5, h6)

    told : Prompt f.marks
    told = by (mine slave.address (owed setup sofar)) f.tracks.owes
      where
        P : List Mark → Type 0
        P z = Prompt z

        by : (posts : List (List ℕ)) → Owes (ReadBack slave.id) slave.id posts f.marks (marks_of f.xs) → Prompt f.marks
        by [] o = subst P (sym o) sent
        by (b ∷ c ∷ more) o = absurd o
        by (b ∷ []) o = two o.0 ((o.1).1).1
          where
            two : (r : Request) → IsAsked slave.id b f.marks (marks_of f.xs) r ⊎ IsAgain slave.id b f.marks (marks_of f.xs) r → Prompt f.marks
            two r (inl k) = subst P (sym k.0) (λ q o c. one)
            two r (inr k) = subst P (sym k.0) (λ q o c. sent q o c)

    pub at_talk : (u : CourseTalk) → slice_get (course_at setup sofar).talks i ≡ Some u → Prompt u.marks
    at_talk u h = let z : talk_with slave f.marks ≡ u = same (sym f.here ∙ h) in subst (λ (x : CourseTalk). Prompt x.marks) z told
      where
        same : Some (talk_with slave f.marks) ≡ Some u → talk_with slave f.marks ≡ u
        same z = cc

  all_talks : (us : List CourseTalk) → ((i : ℕ) (u : CourseTalk) → slice_get us i ≡ Some u → Prompt u.marks) → AllTalks (IsPrompt setup heard.runs one) us
  all_talks [] f = tt
  all_talks (u ∷ us) f = (f 0 u refl, all_talks us (λ i v e. f (suc i) v e))

  prompt_at : (later sofar : List LogEntry) → log ≡ later ++ sofar → PromptAt setup heard.runs one (course_at setup sofar)
  prompt_at later sofar is none = all_talks (course_at setup sofar).talks (λ i u e. at_talk later sofar is i u.slave (slaves_at (course_at setup sofar).talks setup.slaves (talks_of setup (events_of_master setup sofar)) i u e) none u e)

  further : (later : List LogEntry) (x : LogEntry) (sofar : List LogEntry) → log ≡ later ++ x ∷ sofar → log ≡ (later ++ x ∷ []) ++ sofar
  further later x sofar e = e ∙ sym (append_assoc later (x ∷ []) sofar)

  pub all_prompt : (later sofar : List LogEntry) → log ≡ later ++ sofar → AllPrompt setup heard.runs one (events_of_master setup sofar)
  all_prompt later [] e = tt
  all_prompt later (Sent from to bytes ∷ sofar) e = all_prompt (later ++ Sent from to bytes ∷ []) sofar (further later (Sent from to bytes) sofar e)
  all_prompt later (Got at from bytes ∷ sofar) e = by (same_address at setup.address) refl (all_prompt (later ++ Got at from bytes ∷ []) sofar (further later (Got at from bytes) sofar e)) (prompt_at later (Got at from bytes ∷ sofar) e)
    where
      by : (y : Bool) → same_address at setup.address ≡ y → AllPrompt setup heard.runs one (events_of_master setup sofar) → PromptAt setup heard.runs one (course setup (with_event (same_address at setup.address) (Gram from bytes) (events_of_master setup sofar)))
          → AllPrompt setup heard.runs one (with_event y (Gram from bytes) (events_of_master setup sofar))
      by true h a p = let P : Bool → Type 0 = λ z. PromptAt setup heard.runs one (course setup (with_event z (Gram from bytes) (events_of_master setup sofar))) in (subst P h p, a)
      by false h a p = a
  all_prompt later (Idle at ∷ sofar) e = all_prompt (later ++ Idle at ∷ []) sofar (further later (Idle at) sofar e)
  all_prompt later (Turn at ∷ sofar) e = by (same_address at setup.address) refl (all_prompt (later ++ Turn at ∷ []) sofar (further later (Turn at) sofar e)) (prompt_at later (Turn at ∷ sofar) e)
    where
      by : (y : Bool) → same_address at setup.address ≡ y → AllPrompt setup heard.runs one (events_of_master setup sofar) → PromptAt setup heard.runs one (course setup (with_event (same_address at setup.address) Tick (events_of_master setup sofar)))
          → AllPrompt setup heard.runs one (with_event y Tick (events_of_master setup sofar))
      by true h a p = let P : Bool → Type 0 = λ z. PromptAt setup heard.runs one (course setup (with_event z Tick (events_of_master setup sofar))) in (subst P h p, a)
      by false h a p = a
