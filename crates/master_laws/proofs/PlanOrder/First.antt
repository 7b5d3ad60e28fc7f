-- In the log: where the master sends a slave a new request, the newest mark of its conversation is that request, asked at the last event.
use Rattle.std.proofs.Common.{◌≡◌, ℕ, suc, ◌%◌, ◌<◌, ◌≤◌, Bool, true, false, if◌then◌else◌, ◌⊎◌, inl, inr, Option, Some, None, List, [], ◌∷◌, length, refl, sym, ap, ◌∙◌, subst, arith}
use Rattle.std.specs.Prelude.{◌&&◌, slice_get}
use Rattle.std.proofs.lemmas.Bool.{and_parts}
use Rattle.dcp_types.specs.declared.addresses.Address.{Address}
use Rattle.dcp_ends.specs.declared.entries.LogEntry.{LogEntry}
use Rattle.dcp_ends.specs.declared.entries.LogEntry.TheVariants.{Sent, Got, Idle, Turn}
use Rattle.dcp_ends.specs.Events.{Gram, Tick, Send}
use Rattle.dcp_ends.specs.Logs.{same_address}
use Rattle.pdu_layout.specs.Message.{message_of}
use Rattle.pdu_layout.specs.Reading.{message_in}
use Rattle.log_spec.specs.Messages.{Note, Request as Wanted, role_read}
use Rattle.log_spec.specs.Log.{Parties, IsSlaveOf, same, role_heard, Requests, in_channel, sent_in, requests_sent}
use Rattle.log_spec.specs.Log as logs
use Rattle.log_spec.specs.Moves.{Asks, move, decided_exchanges}
use Rattle.log_spec.proofs.Moves.{same_is, asked, requests_by_move}
use Rattle.master_spec.specs.declared.requests.Request.{Request}
use Rattle.master_spec.specs.declared.reports.Report.{Report}
use Rattle.master_spec.specs.declared.setups.Slave.{Slave}
use Rattle.master_spec.specs.declared.setups.Setup.{Setup}
use Rattle.master_spec.specs.Marks as marks
use Rattle.master_spec.specs.Marks.{Mark, cause_of, open_request, newest_number}
use Rattle.master_spec.specs.News.{pdu_of}
use Rattle.master_spec.specs.Course.{course}
use Rattle.master_spec.specs.Requests.{Asking, Decision, asks}
use Rattle.master_log_laws.specs.Index.Index.{Placed, marks_of, first_at, askings_told, ReadBack, IsAsked, IsAgain, IsHeadRequest, IsHeadOf, Owes}
use Rattle.master_log_laws.specs.Index.Runs.{with_event, events_of_master, course_at, tail, owed, IsFirstSend, where_it_is, IsRun}
use Rattle.master_log_laws.specs.Index.Laws.{AreHeard}
use Rattle.master_log_laws.specs.Index.Follows.{mine, talk_with}
use Rattle.master_log_laws.proofs.Index.Laws.{listens}
use Rattle.master_log_laws.proofs.Index.Reported.{reported}
use Rattle.master_log_laws.proofs.Index.Runs.{followed}
use Rattle.master_laws.specs.Meets.Laws.{IsParty, ArePartiesOf, IsNextRequest, note_of}
use Rattle.master_laws.proofs.Meets.Sends.{role_told}
use Rattle.master_laws.proofs.Meets.Asking.{same_as, mine_first, not_sent, are_asked}
use Rattle.master_laws.proofs.Meets.Known.{long}
use Rattle.master_laws.specs.Hears.Laws.{IsDecision, AreDecisions}
use Rattle.master_laws.proofs.Hears.Decided.{decisions}
use Rattle.master_laws.proofs.PlanOrder.Begun.{SentTo}

-- ---- what is still to be sent was sent at the last event
tail_sent : (to : Address) (posts : List Send) → SentTo to (tail posts) → SentTo to posts
tail_sent to [] h = absurd h
tail_sent to (p ∷ posts) h = inr h

first_sent : (a to : Address) (bytes : List ℕ) (posts : List Send) → IsFirstSend posts to bytes → to ≡ a → SentTo a posts
first_sent a to bytes [] f e = absurd f
first_sent a to bytes (p ∷ posts) f e = inl (f.0 ∙ e)

pub owed_sent : (setup : Setup) (to : Address) (log : List LogEntry) → SentTo to (owed setup log) → SentTo to (course_at setup log).sent
owed_sent setup to [] h = absurd h
owed_sent setup to (Sent from at' bytes ∷ log) h = by (same_address from setup.address) h (λ k. owed_sent setup to log k)
  where
    by : (b : Bool) → SentTo to (if b then tail (owed setup log) else owed setup log) → (SentTo to (owed setup log) → SentTo to (course_at setup log).sent) → SentTo to (course_at setup log).sent
    by true k f = f (tail_sent to (owed setup log) k)
    by false k f = f k
owed_sent setup to (Got at' from bytes ∷ log) h = by (same_address at' setup.address) h (λ k. owed_sent setup to log k)
  where
    by : (b : Bool) → SentTo to (if b then (course setup (with_event b (Gram from bytes) (events_of_master setup log))).sent else owed setup log) → (SentTo to (owed setup log) → SentTo to (course_at setup log).sent) → SentTo to (course setup (with_event b (Gram from bytes) (events_of_master setup log))).sent
    by true k f = k
    by false k f = f k
owed_sent setup to (Idle at' ∷ log) h = owed_sent setup to log h
owed_sent setup to (Turn at' ∷ log) h = by (same_address at' setup.address) h (λ k. owed_sent setup to log k)
  where
    by : (b : Bool) → SentTo to (if b then (course setup (with_event b Tick (events_of_master setup log))).sent else owed setup log) → (SentTo to (owed setup log) → SentTo to (course_at setup log).sent) → SentTo to (course setup (with_event b Tick (events_of_master setup log))).sent
    by true k f = k
    by false k f = f k

-- ---- an open request is not decided
abbrev IsOpen : List Asking → Type 0
IsOpen [] = ⊥
IsOpen (b ∷ bs) = b.decision ≡ None

head_open : (r : Request) (q : ℕ) (bs : List Asking) → IsHeadRequest (Some r) q bs → IsOpen bs
head_open r q [] h = h
head_open r q (b ∷ bs) h = (h.1).0

no_more : (id : ℕ) (bs : List Asking) (ds : List logs.DecidedRequest) → AreDecisions id bs ds → length ds ≤ length bs
no_more id [] ds h = let z : length ds ≡ 0 = ap length h in omega (arith, z)
no_more id (b ∷ bs) ds h = by (λ es k. no_more id bs es k) b.decision ds h
  where
    by : ((es : List logs.DecidedRequest) → AreDecisions id bs es → length es ≤ length bs) → (o : Option Decision) (ds : List logs.DecidedRequest) → IsDecision id b o (AreDecisions id bs) ds → length ds ≤ suc (length bs)
    by f None ds k = let z = f ds k in omega (arith, z)
    by f (Some d) [] k = absurd k
    by f (Some d) (e ∷ ds) k = let z = f ds (k.1).1 in omega (arith, z)

open_fewer : (id : ℕ) (bs : List Asking) (ds : List logs.DecidedRequest) → IsOpen bs → AreDecisions id bs ds → length ds < length bs
open_fewer id [] ds o h = absurd o
open_fewer id (b ∷ bs) ds o h =
    let P : Option Decision → Type 0 = λ x. IsDecision id b x (AreDecisions id bs) ds in
    let z = no_more id bs ds (subst P o h) in
    omega (arith, z)

-- ---- one slave
module _ (setup : Setup) (h : AreHeard setup) (w : Parties) (ps : ArePartiesOf setup w) (s : ℕ) (is : IsSlaveOf w s) (slave : Slave) (p : IsParty setup w s slave) where
  -- the newest mark is the request, and what was told before is in the log
  pub record AsksFirst (log : List LogEntry) (request : Request) : Type 0 where
    pub xs : List Placed
    pub report : (course_at setup log).report ≡ None
    pub told_is : asks setup.address slave log ≡ askings_told xs
    pub here : slice_get (course_at setup log).talks (p.is_in).0 ≡ Some (talk_with slave (marks.Asked request ∷ marks_of xs))
    pub cause : cause_of (marks_of xs) ≡ None
    pub sent : SentTo slave.address (course_at setup log).sent

  record Sends (log : List LogEntry) (bytes : List ℕ) : Type 0 where
    pub request : Request
    pub number : ℕ
    pub read : message_in bytes ≡ Some (message_of (pdu_of number slave.id request))
    pub first : AsksFirst log request ⊎ IsOpen (asks setup.address slave log)

  same_there : (a b : Address) → same_address a b ≡ true → a ≡ b
  same_there a b e = same_is a b (same_as a b ∙ e)

  sends_so : (log : List LogEntry) → IsRun setup log → (to : Address) (bytes : List ℕ) → IsFirstSend (owed setup log) to bytes → same_address to slave.address ≡ true → Sends log bytes
  sends_so log run to bytes first here = by (course_at setup log).report refl
    where
      first' : (more : List (List ℕ)) × (mine slave.address (owed setup log) ≡ bytes ∷ more)
      first' = mine_first slave.address to bytes (owed setup log) first here

      i : ℕ
      i = (p.is_in).0

      clash : (more : List (List ℕ)) → bytes ∷ more ≡ [] → ⊥
      clash more z = cc

      sent : SentTo slave.address (course_at setup log).sent
      sent = owed_sent setup slave.address log (first_sent slave.address to bytes (owed setup log) first (same_there to slave.address here))

      owes : (r : (course_at setup log).report ≡ None) (ms : List Mark) (xs : List Placed) (more : List (List ℕ)) → slice_get (course_at setup log).talks i ≡ Some (talk_with slave ms) → asks setup.address slave log ≡ askings_told xs → IsHeadOf (marks_of xs) (askings_told xs) → Owes (ReadBack slave.id) slave.id (bytes ∷ more) ms (marks_of xs) → Sends log bytes
      owes r ms xs (c ∷ more) e t k o = absurd o
      owes r ms xs [] e t k o = two o.0 (o.1).0 ((o.1).1).0 ((o.1).1).1
        where
          two : (q : Request) → ReadBack slave.id q → cause_of (marks_of xs) ≡ None → IsAsked slave.id bytes ms (marks_of xs) q ⊎ IsAgain slave.id bytes ms (marks_of xs) q → Sends log bytes
          two q g c (inl a) = record {
            request = q;
            number = marks.asked (marks_of xs) % 65536;
            read = ap message_in a.1 ∙ g (marks.asked (marks_of xs) % 65536) (omega arith);
            first = inl (record { xs = xs; report = r; told_is = t; here = e ∙ ap (λ (z : List Mark). Some (talk_with slave z)) a.0; cause = c; sent = sent });
          }
          two q g c (inr a) =
              let P : List Asking → Type 0 = IsOpen in
              let Q : Option Request → Type 0 = λ z. IsHeadRequest z (newest_number (marks_of xs)) (askings_told xs) in
              record {
                request = q;
                number = newest_number (marks_of xs);
                read = ap message_in (a.1).1 ∙ g (newest_number (marks_of xs)) (omega arith);
                first = inr (subst P (sym t) (head_open q (newest_number (marks_of xs)) (askings_told xs) (subst Q (a.1).0 k)));
              }

      by : (o : Option Report) → (course_at setup log).report ≡ o → Sends log bytes
      by None r =
          let f = followed setup (ReadBack slave.id) i slave (listens setup h i slave (p.is_in).1) h.runs log run r in
          let t = f.tracks in
          let P : List (List ℕ) → Type 0 = λ z. Owes (ReadBack slave.id) slave.id z f.marks (marks_of f.xs) in
          owes r f.marks f.xs first'.0 f.here t.is t.head (subst P first'.1 t.owes)
      by (Some report) r =
          let z = (reported setup (ReadBack slave.id) i slave (listens setup h i slave (p.is_in).1) h.runs log run report r).1 in
          absurd (clash first'.0 (sym first'.1 ∙ z))

  both : (from to : Address) → (same from w.master && same to (w.slave s)) ≡ (same_address from setup.address && same_address to slave.address)
  both from to =
      ap (λ (b : Bool). b && same to (w.slave s)) (same_as from w.master ∙ ap (same_address from) ps.master)
      ∙ ap (λ (b : Bool). same_address from setup.address && b) (same_as to (w.slave s) ∙ ap (same_address to) (sym p.address))

  no_note : (n : Note) → None ≡ Some n → ⊥
  no_note n z = cc

  pub record IsFirstOf (log : List LogEntry) (n : Note) : Type 0 where
    pub request : Request
    pub number : ℕ
    pub note : n ≡ note_of slave.id (first_at 0 number request)
    pub first : AsksFirst log request

  record Finds (log : List LogEntry) (n : Note) : Type 0 where
    pub request : Request
    pub number : ℕ
    pub note : n ≡ note_of slave.id (first_at 0 number request)
    pub first : AsksFirst log request ⊎ IsOpen (asks setup.address slave log)

  finds : (e : LogEntry) (log : List LogEntry) → IsRun setup (e ∷ log) → (n : Note) → sent_in w (Requests s) e ≡ Some n → Finds log n
  finds (Got at' from bytes) log run n e = absurd (no_note n e)
  finds (Idle at') log run n e = absurd (no_note n e)
  finds (Turn at') log run n e = absurd (no_note n e)
  finds (Sent from to bytes) log run n e = by (same_address from setup.address && same_address to slave.address) refl
    where
      first : same_address from setup.address ≡ true → IsFirstSend (owed setup log) to bytes
      first x = let Q : Bool → Type 0 = λ b. where_it_is b (IsFirstSend (owed setup log) to bytes) in subst Q x run.0

      by : (b : Bool) → (same_address from setup.address && same_address to slave.address) ≡ b → Finds log n
      by false x = absurd (no_note n (sym (not_sent w s from to (role_heard w bytes) (both from to ∙ x)) ∙ e))
      by true x =
          let z = and_parts (same_address from setup.address) (same_address to slave.address) x in
          let f = sends_so log run.1 to bytes (first z.0) z.1 in
          let m = note_of slave.id (first_at 0 f.number f.request) in
          let role : role_heard w bytes ≡ Wanted slave.id m = ap role_read (ps.read bytes ∙ f.read) ∙ role_told 0 f.number slave.id f.request in
          let c : in_channel w (Requests s) from to (role_heard w bytes) ≡ Some m = ap (in_channel w (Requests s) from to) role ∙ ap (λ (b : Bool). if b then Some m else None) (both from to ∙ x) in
          let same : Some m ≡ Some n = sym c ∙ e in
          let is_it : m ≡ n = cc in
          record { request = f.request; number = f.number; note = sym is_it; first = f.first }

  pub asks_first : (e : LogEntry) (log : List LogEntry) → IsRun setup (e ∷ log) → (n : Note) → move w s e ≡ Asks n → IsNextRequest w s slave.script.uuid n log → IsFirstOf log n
  asks_first e log run n mv next =
      let f = finds e log run n (requests_by_move w s e ∙ ap asked mv) in
      record { request = f.request; number = f.number; note = f.note; first = by f.request f.first }
    where
      by : (r : Request) → AsksFirst log r ⊎ IsOpen (asks setup.address slave log) → AsksFirst log r
      by r (inl a) = a
      by r (inr o) =
          let fewer = open_fewer s (asks setup.address slave log) (decided_exchanges w s log) o (decisions setup h w ps s is slave p log run.1) in
          let same : length (requests_sent w s log) ≡ length (asks setup.address slave log) = ap length (are_asked setup h w ps log run.1 s is slave p) ∙ long s (asks setup.address slave log) in
          let closed = next.closed in
          absurd (omega (arith, fewer, same, closed))
