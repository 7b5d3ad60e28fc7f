-- The slave of the definition converses as the laws want it.
use Rattle.std.proofs.Common.{◌≡◌, ℕ, zero, ◌+◌, ◌%◌, ◌<◌, Bool, true, false, if◌then◌else◌, inl, inr, Option, Some, None, List, [], ◌∷◌, ◌++◌, map, length, refl, sym, ap, ◌∙◌, subst, arith}
use Rattle.std.specs.Prelude.{◌==◌, ◌&&◌}
use Rattle.std.specs.List.{cons_option}
use Rattle.std.proofs.lemmas.Bool.{and_parts, eqb-true}
use Rattle.std.proofs.lemmas.Bool.Decides.{nat_tests}
use Rattle.dcp_types.specs.declared.addresses.Address.{Address}
use Rattle.dcp_types.specs.declared.error_codes.ErrorCode.{ErrorCode}
use Rattle.dcp_ends.specs.Events.{Event, Gram, Tick, Send}
use Rattle.seq_window.specs.declared.places.Place as seq
use Rattle.seq_window.specs.declared.places.Place.TheVariants as places
use Rattle.seq_window.specs.Window as window
use Rattle.log_spec.specs.Messages.{Note, Role, Request, Answer, Value, Else, answer_in}
use Rattle.seq_window.specs.Window.{place}
use Rattle.dcp_ends.specs.declared.entries.LogEntry.{LogEntry}
use Rattle.dcp_ends.specs.declared.entries.LogEntry.TheVariants.{Sent, Got, Idle, Turn}
use Rattle.log_spec.specs.Log.{Parties, same, role_heard, DecidedRequest}
use Rattle.log_spec.specs.Moves.{Move, Asks, Comes, Tells, Hears, Brings, Turns, Rests, Other, got_move, move}
use Rattle.lockstep_laws.specs.Slaves.{Post, Desk, answers_of, IsNoRequest, AskNothing, Drops, Handles, tail, ServesNote, SlaveMay, Converses}
use Rattle.slave_spec.specs.Heard as spec
use Rattle.slave_spec.specs.Transport as transport
use Rattle.slave_spec.specs.Transport.{Machine, SlaveState, Answered, Turned}
use Rattle.slave_spec.specs.declared.words.SlaveRequest as req
use Rattle.slave_spec.specs.declared.words.Session.{Session}
use Rattle.slave_spec.specs.declared.words.Session.TheVariants.{Before, During, After}
use Rattle.slave_spec.specs.declared.words.Fate.{Fate}
use Rattle.slave_spec.specs.declared.words.Fate.TheVariants.{Dropped, Refused, Repeated, Taken}
use Rattle.slave_laws.specs.Talk.Desks.{post, answer_note, served_by, served_after, Both, got, ticked, sent_next, next, at, desk_at, event_of, events_of_slave, accepts_asked, accepts_heard, accepts_note, Agree, AreData, AreElse, IsAnswer, AreAnswersKept, IsReadBack, ReadsAnswersBack}

-- ---- numbers
is_next : (number expected : ℕ) → number < 65536 → expected < 65536 → window.place number expected ≡ places.Next → number ≡ expected
is_next number expected a b h = grind (arith, nat_tests)

is_again : (number many : ℕ) → window.place number (many % 65536) ≡ places.Repeat → (number + 1) % 65536 ≡ many % 65536
is_again number many h = grind (arith, nat_tests)

small : (many : ℕ) → many % 65536 < 65536
small many = omega arith

-- ---- the exchanges of both
abbrev Pairs : List transport.Exchange → List DecidedRequest → Type 0
Pairs [] [] = Unit {0}
Pairs (e ∷ served) (d ∷ es) = (d.answer ≡ answer_note e.request (transport.expected (e ∷ served)) e.answer) × Pairs served es
Pairs _ _ = ⊥

pairs_length : (served : List transport.Exchange) (es : List DecidedRequest) → Pairs served es → length es ≡ length served
pairs_length [] [] p = refl
pairs_length [] (d ∷ es) p = absurd p
pairs_length (e ∷ served) [] p = absurd p
pairs_length (e ∷ served) (d ∷ es) p = let h = pairs_length served es p.1 in omega (arith, h)

abbrev SessionFits : Session → List transport.Exchange → Type 0
SessionFits Before served = served ≡ []
SessionFits (During master id) served = Unit {0}
SessionFits (After master id) served = Unit {0}

no_exchanges : (served : List transport.Exchange) (es : List DecidedRequest) → served ≡ [] → Pairs served es → es ≡ []
no_exchanges [] [] z p = refl
no_exchanges [] (d ∷ es) z p = absurd p
no_exchanges (e ∷ served) es z p = absurd cc

module _ {S : Type 0} (m : Machine S) (w : Parties) where
  -- ---- what is sent
  notices_none : (ps : List Send) → AreElse w ps → answers_of w (map post ps) ≡ []
  notices_none [] h = refl
  notices_none (p ∷ ps) h = ap (λ k. cons_option (answer_in k) (answers_of w (map post ps))) h.0 ∙ notices_none ps h.1

  answer_one : (to : Address) (r : req.SlaveRequest) (next' : ℕ) (a : transport.SlaveAnswer) (rest : List Post) → IsAnswer w to r next' a → answers_of w rest ≡ [] → answers_of w (post (transport.send to (transport.answer_message r next' a)) ∷ rest) ≡ answer_note r next' a ∷ []
  answer_one to r next' a rest h none = ap (λ k. cons_option (answer_in k) (answers_of w rest)) h ∙ ap (λ l. answer_note r next' a ∷ l) none

  data_none : (ps : List transport.Parcel) (ns : List Send) → AreData w ps → AreElse w ns → answers_of w (map post (map transport.parcel_send ps ++ ns)) ≡ []
  data_none [] ns h g = notices_none ns g
  data_none (p ∷ ps) ns h g = ap (λ k. cons_option (answer_in k) (answers_of w (map post (map transport.parcel_send ps ++ ns)))) (h.0).2 ∙ data_none ps ns h.1 g

  turn_none : (x : SlaveState S) → IsReadBack m w x → (session : Session) → x.session ≡ session → answers_of w (map post (transport.turn_sends m session x)) ≡ []
  turn_none x rb Before e = refl
  turn_none x rb (During master id) e = let t = m.turns (transport.quieter x.quiet) x.inner in let h = rb.turn master id e in data_none t.parcels (transport.notice_sends master id t.notices) h.0 h.1
  turn_none x rb (After master id) e = refl

  -- no request is among it
  no_request : (k : Role) (bytes : List ℕ) → role_heard w bytes ≡ k → IsNoRequest k → IsNoRequest (role_heard w bytes)
  no_request k bytes e h = let P : Role → Type 0 = IsNoRequest in subst P (sym e) h

  notices_ask : (ps : List Send) → AreElse w ps → AskNothing w (map post ps)
  notices_ask [] h = tt
  notices_ask (p ∷ ps) h = (no_request Else p.bytes h.0 tt, notices_ask ps h.1)

  data_ask : (ps : List transport.Parcel) (ns : List Send) → AreData w ps → AreElse w ns → AskNothing w (map post (map transport.parcel_send ps ++ ns))
  data_ask [] ns h g = notices_ask ns g
  data_ask (p ∷ ps) ns h g = (no_request (Value (h.0).0 (h.0).1) (transport.parcel_send p).bytes (h.0).2 tt, data_ask ps ns h.1 g)

  answer_asks : (to : Address) (r : req.SlaveRequest) (next' : ℕ) (a : transport.SlaveAnswer) → IsAnswer w to r next' a → IsNoRequest (role_heard w (transport.send to (transport.answer_message r next' a)).bytes)
  answer_asks to r next' a h = no_request (Answer r.receiver (answer_note r next' a)) (transport.send to (transport.answer_message r next' a)).bytes h tt

  turn_asks : (x : SlaveState S) → IsReadBack m w x → (session : Session) → x.session ≡ session → AskNothing w (map post (transport.turn_sends m session x))
  turn_asks x rb Before e = tt
  turn_asks x rb (During master id) e = let t = m.turns (transport.quieter x.quiet) x.inner in let h = rb.turn master id e in data_ask t.parcels (transport.notice_sends master id t.notices) h.0 h.1
  turn_asks x rb (After master id) e = tt

  again_asks : (to : Address) (served : List transport.Exchange) → AreAnswersKept w to served → AskNothing w (map post (transport.again to served))
  again_asks to [] h = tt
  again_asks to (e ∷ served) h = (answer_asks to e.request (transport.expected (e ∷ served)) e.answer h, tt)

  request_asks : (x : SlaveState S) → IsReadBack m w x → (from : Address) (bytes : List ℕ) (r : req.SlaveRequest) → spec.heard bytes ≡ spec.Asks r → (f : Fate) → AskNothing w (map post (transport.request_sends m x from r f))
  request_asks x rb from bytes r e Dropped = tt
  request_asks x rb from bytes r e (Refused code) = (answer_asks from r (transport.expected x.served) (transport.Nack code) (rb.refusal bytes r e from code), tt)
  request_asks x rb from bytes r e Repeated = again_asks from x.served (rb.again from)
  request_asks x rb from bytes r e Taken =
      let a = m.answers r.asked x.inner in
      let h = rb.answer bytes r e from in
      (answer_asks from r (transport.expected (record { request = r; answer = a.answer } ∷ x.served)) a.answer h.0, notices_ask (transport.notice_sends from r.receiver a.notices) h.1)

  heard_asks : (x : SlaveState S) → IsReadBack m w x → (from : Address) (bytes : List ℕ) (h : spec.Heard) → spec.heard bytes ≡ h → AskNothing w (map post (transport.heard_sends m x from h))
  heard_asks x rb from bytes (spec.Asks r) e = request_asks x rb from bytes r e (transport.fate m x from r)
  heard_asks x rb from bytes (spec.Brings number id payload) e = tt
  heard_asks x rb from bytes spec.Nothing e = tt

  -- ---- a request
  abbrev Desk' : SlaveState S → List DecidedRequest → Address → Note → req.SlaveRequest → Fate → Desk
  Desk' x es from n r f = record { served = served_by m x es n r f; owed = map post (transport.request_sends m x from r f) }

  module _ (x : SlaveState S) (rb : IsReadBack m w x) (es : List DecidedRequest) (owed : List Post) (from : Address) (n : Note) (bytes : List ℕ) (r : req.SlaveRequest) (is : spec.heard bytes ≡ spec.Asks r) (e : r.number ≡ n.number) (p : Pairs x.served es) where
    abbrev Goes : Fate → Type 0
    Goes f = Handles w (accepts_note m) n (record { served = es; owed = owed }) (Desk' x es from n r f)

    dropped : Goes Dropped
    dropped = inl (record { served = refl; owes = refl })

    taken : n.number ≡ length es % 65536 → Goes Taken
    taken next' =
        let a = m.answers r.asked x.inner in
        let many = transport.expected (record { request = r; answer = a.answer } ∷ x.served) in
        let h = rb.answer bytes r is from in
        inr (inl (record { next = next'; answer = answer_note r many a.answer; number = e; served = refl; owes = answer_one from r many a.answer (map post (transport.notice_sends from r.receiver a.notices)) h.0 (notices_none (transport.notice_sends from r.receiver a.notices) h.1) }))

    repeated_by : (served : List transport.Exchange) (es : List DecidedRequest) → Pairs served es → AreAnswersKept w from served → (n.number + 1) % 65536 ≡ length es % 65536 → Handles w (accepts_note m) n (record { served = es; owed = owed }) (record { served = es; owed = map post (transport.again from served) })
    repeated_by [] [] q k a = inl (record { served = refl; owes = refl })
    repeated_by [] (d ∷ es) q k a = absurd q
    repeated_by (z ∷ served) [] q k a = absurd q
    repeated_by (z ∷ served) (d ∷ es) q k a = inr (inr (inl (record { again = a; newest = d; before = es; kept = refl; served = refl; owes = answer_one from z.request (transport.expected (z ∷ served)) z.answer [] k refl ∙ ap (λ y. y ∷ []) (sym q.0) })))

    repeated : (n.number + 1) % 65536 ≡ length es % 65536 → Goes Repeated
    repeated again' = repeated_by x.served es p (rb.again from) again'

    l : length es ≡ length x.served
    l = pairs_length x.served es p

    placed : n.number < 65536 → (q : seq.Place) → window.place r.number (transport.expected x.served) ≡ q → Goes (transport.placed q)
    placed lt places.Next h = taken (sym e ∙ is_next r.number (transport.expected x.served) (omega (arith, e, lt)) (small (length x.served)) h ∙ ap (λ k. k % 65536) (sym l))
    placed lt places.Repeat h = repeated (ap (λ k. (k + 1) % 65536) (sym e) ∙ is_again r.number (length x.served) h ∙ ap (λ k. k % 65536) (sym l))
    placed lt places.Old h = dropped
    placed lt places.Ahead h = inr (inr (inr (record { served = refl; why = inl (ap (λ k. place k (length es % 65536)) (sym e) ∙ ap (λ k. place r.number (k % 65536)) l ∙ h) })))

    placed_late : (q : seq.Place) → window.place r.number (transport.expected x.served) ≡ q → Goes (transport.placed_late q)
    placed_late places.Next h = dropped
    placed_late places.Repeat h = repeated (ap (λ k. (k + 1) % 65536) (sym e) ∙ is_again r.number (length x.served) h ∙ ap (λ k. k % 65536) (sym l))
    placed_late places.Old h = dropped
    placed_late places.Ahead h = dropped

    admitted : spec.heard_as (Some n.message) ≡ spec.Asks r → es ≡ [] → r.number ≡ 0 → (o : Option ErrorCode) → m.refuses r.asked ≡ o → Goes (transport.admitted o)
    admitted read none zero' None h = taken (omega (arith, e, zero', ap length none))
    admitted read none zero' (Some code) h = inr (inr (inr (record { served = refl; why = inr (none, ap (accepts_heard m) read ∙ ap (accepts_asked m r.number r.asked) h) })))

    handles : n.number < 65536 → spec.heard_as (Some n.message) ≡ spec.Asks r → (session : Session) → SessionFits session x.served → Goes (transport.fate_in m session x.served from r)
    handles lt read Before fits = by (transport.is_register r.asked && (r.number == 0)) refl
      where
        by : (c : Bool) → (transport.is_register r.asked && (r.number == 0)) ≡ c → Goes (if c then transport.admitted (m.refuses r.asked) else Dropped)
        by true h = admitted read (no_exchanges x.served es fits p) (eqb-true r.number 0 (and_parts (transport.is_register r.asked) (r.number == 0) h).1) (m.refuses r.asked) refl
        by false h = dropped
    handles lt read (During master id) fits = by (transport.same_address from master && (r.receiver == id))
      where
        by : (c : Bool) → Goes (if c then transport.placed (window.place r.number (transport.expected x.served)) else Dropped)
        by true = placed lt (window.place r.number (transport.expected x.served)) refl
        by false = dropped
    handles lt read (After master id) fits = by (transport.same_address from master && (r.receiver == id))
      where
        by : (c : Bool) → Goes (if c then transport.placed_late (window.place r.number (transport.expected x.served)) else Dropped)
        by true = placed_late (window.place r.number (transport.expected x.served)) refl
        by false = dropped

  -- ---- one entry
  abbrev GotMove : Address → Role → Move
  GotMove from (Request receiver n) = Comes from receiver n
  GotMove from (Answer sender n) = Rests
  GotMove from (Value id n) = Brings from id n
  GotMove from Else = Rests

  got_serves : (from : Address) (bytes : List ℕ) (k : Role) (h : spec.Heard) → spec.heard bytes ≡ h → (x : Both S) → IsReadBack m w x.slave → Agree k h → Pairs x.slave.served x.desk.served → SessionFits x.slave.session x.slave.served
      → ServesNote w (accepts_note m) (GotMove from k) x.desk (record { served = served_after m x.slave x.desk.served from k h; owed = map post (transport.heard_sends m x.slave from h) })
  got_serves from bytes (Request receiver n) (spec.Asks r) is x rb a p f = handles x.slave rb x.desk.served x.desk.owed from n bytes r is a.0 p a.1 a.2 x.slave.session f
  got_serves from bytes (Request receiver n) (spec.Brings number i payload) is x rb a p f = absurd a
  got_serves from bytes (Request receiver n) spec.Nothing is x rb a p f = absurd a
  got_serves from bytes (Answer sender n) (spec.Asks r) is x rb a p f = absurd a
  got_serves from bytes (Answer sender n) (spec.Brings number i payload) is x rb a p f = absurd a
  got_serves from bytes (Answer sender n) spec.Nothing is x rb a p f = record { served = refl; owes = refl }
  got_serves from bytes (Value id n) (spec.Asks r) is x rb a p f = absurd a
  got_serves from bytes (Value id n) (spec.Brings number i payload) is x rb a p f = record { served = refl; owes = refl }
  got_serves from bytes (Value id n) spec.Nothing is x rb a p f = absurd a
  got_serves from bytes Else (spec.Asks r) is x rb a p f = absurd a
  got_serves from bytes Else (spec.Brings number i payload) is x rb a p f = absurd a
  got_serves from bytes Else spec.Nothing is x rb a p f = record { served = refl; owes = refl }

  -- ---- both stand together
  pub record Stands (x : Both S) : Type 0 where
    pub pairs : Pairs x.slave.served x.desk.served
    pub session : SessionFits x.slave.session x.slave.served
    pub asks : AskNothing w x.desk.owed

  taken_pairs : (x : SlaveState S) (es : List DecidedRequest) (n : Note) (r : req.SlaveRequest) (from : Address) (f : Fate) → Pairs x.served es → Pairs (transport.after_request m x from r f).served (served_by m x es n r f)
  taken_pairs x es n r from Dropped p = p
  taken_pairs x es n r from (Refused code) p = p
  taken_pairs x es n r from Repeated p = p
  taken_pairs x es n r from Taken p = (refl, p)

  session_kept : (x : SlaveState S) (r : req.SlaveRequest) (from : Address) (f : Fate) → SessionFits x.session x.served → SessionFits (transport.after_request m x from r f).session (transport.after_request m x from r f).served
  session_kept x r from Dropped h = h
  session_kept x r from (Refused code) h = h
  session_kept x r from Repeated h = h
  session_kept x r from Taken h = by x.session
    where
      fits : (c : Bool) (master : Address) (id : ℕ) (served : List transport.Exchange) → SessionFits (if c then After master id else During master id) served
      fits true master id served = tt
      fits false master id served = tt

      by : (s' : Session) → SessionFits (transport.session_after s' from r (m.answers r.asked x.inner).answer) (record { request = r; answer = (m.answers r.asked x.inner).answer } ∷ x.served)
      by Before = tt
      by (During master id) = fits (transport.is_last r.asked (m.answers r.asked x.inner).answer) master id (record { request = r; answer = (m.answers r.asked x.inner).answer } ∷ x.served)
      by (After master id) = tt

  brings_same : (c : Bool) (x y : SlaveState S) → y.served ≡ x.served → y.session ≡ x.session → ((if c then y else x).served ≡ x.served) × ((if c then y else x).session ≡ x.session)
  brings_same true x y e f = (e, f)
  brings_same false x y e f = (refl, refl)

  moved_pairs : (x y : SlaveState S) (es : List DecidedRequest) → y.served ≡ x.served → Pairs x.served es → Pairs y.served es
  moved_pairs x y es e p = let P : List transport.Exchange → Type 0 = λ l. Pairs l es in subst P (sym e) p

  moved_session : (x y : SlaveState S) → y.served ≡ x.served → y.session ≡ x.session → SessionFits x.session x.served → SessionFits y.session y.served
  moved_session x y e f h = let P : Session → List transport.Exchange → Type 0 = SessionFits in subst (λ l. P y.session l) (sym e) (subst (λ s'. P s' x.served) (sym f) h)

  got_stands : (from : Address) (bytes : List ℕ) (k : Role) (h : spec.Heard) → spec.heard bytes ≡ h → (x : Both S) → IsReadBack m w x.slave → Agree k h → Stands x → Stands (record { slave = transport.after_heard m x.slave from h; desk = record { served = served_after m x.slave x.desk.served from k h; owed = map post (transport.heard_sends m x.slave from h) } })
  got_stands from bytes (Request receiver n) (spec.Asks r) is x rb a st = record { pairs = taken_pairs x.slave x.desk.served n r from (transport.fate m x.slave from r) st.pairs; session = session_kept x.slave r from (transport.fate m x.slave from r) st.session; asks = heard_asks x.slave rb from bytes (spec.Asks r) is }
  got_stands from bytes (Request receiver n) (spec.Brings number i payload) is x rb a st = absurd a
  got_stands from bytes (Request receiver n) spec.Nothing is x rb a st = absurd a
  got_stands from bytes (Answer sender n) (spec.Asks r) is x rb a st = absurd a
  got_stands from bytes (Answer sender n) (spec.Brings number i payload) is x rb a st = absurd a
  got_stands from bytes (Answer sender n) spec.Nothing is x rb a st = record { pairs = st.pairs; session = st.session; asks = tt }
  got_stands from bytes (Value id n) (spec.Asks r) is x rb a st = absurd a
  got_stands from bytes (Value id n) (spec.Brings number i payload) is x rb a st =
      let y = record x.slave { inner = m.brings from number i payload x.slave.inner } in
      let s' = brings_same (transport.is_open x.slave.session) x.slave y refl refl in
      let z = if transport.is_open x.slave.session then y else x.slave in
      record { pairs = moved_pairs x.slave z x.desk.served s'.0 st.pairs; session = moved_session x.slave z s'.0 s'.1 st.session; asks = tt }
  got_stands from bytes (Value id n) spec.Nothing is x rb a st = absurd a
  got_stands from bytes Else (spec.Asks r) is x rb a st = absurd a
  got_stands from bytes Else (spec.Brings number i payload) is x rb a st = absurd a
  got_stands from bytes Else spec.Nothing is x rb a st = record { pairs = st.pairs; session = st.session; asks = tt }

  turn_stands : (x : Both S) → IsReadBack m w x.slave → Stands x → Stands (record { slave = transport.after_turn m x.slave; desk = record { served = x.desk.served; owed = map post (transport.turn_sends m x.slave.session x.slave) } })
  turn_stands x rb st =
      let y = record x.slave { quiet = transport.quieter x.slave.quiet; inner = (m.turns (transport.quieter x.slave.quiet) x.slave.inner).after } in
      let s' = brings_same (transport.is_open x.slave.session) x.slave y refl refl in
      let z = if transport.is_open x.slave.session then y else x.slave in
      record { pairs = moved_pairs x.slave z x.desk.served s'.0 st.pairs; session = moved_session x.slave z s'.0 s'.1 st.session; asks = turn_asks x.slave rb x.slave.session refl }

  tail_asks : (owed : List Post) → AskNothing w owed → AskNothing w (tail owed)
  tail_asks [] h = tt
  tail_asks (p ∷ ps) h = h.1

  told_stands : (mv : Move) (x : Both S) → Stands x → Stands (sent_next m w zero mv x)
  told_stands (Asks n) x st = st
  told_stands (Comes from receiver n) x st = st
  told_stands (Tells to bytes) x st = record { pairs = st.pairs; session = st.session; asks = tail_asks x.desk.owed st.asks }
  told_stands (Hears n) x st = st
  told_stands (Brings from id n) x st = st
  told_stands Turns x st = st
  told_stands Rests x st = st
  told_stands Other x st = st

  module _ (s : ℕ) (read : ReadsAnswersBack m w s) where
    next_stands : (e : LogEntry) (x : Both S) → IsReadBack m w x.slave → Stands x → Stands (next m w s e x)
    next_stands (Sent from to bytes) x rb st = told_stands (move w s (Sent from to bytes)) x st
    next_stands (Got at' from bytes) x rb st = by (same at' (w.slave s))
      where
        by : (c : Bool) → Stands (if c then got m w s from bytes x else x)
        by true = got_stands from bytes (role_heard w bytes) (spec.heard bytes) refl x rb (read.agree bytes) st
        by false = st
    next_stands (Idle at') x rb st = st
    next_stands (Turn at') x rb st = by (same at' (w.slave s))
      where
        by : (c : Bool) → Stands (if c then ticked m w s x else x)
        by true = turn_stands x rb st
        by false = st

    stands : (log : List LogEntry) → Stands (at m w s log)
    stands [] = record { pairs = first; session = refl; asks = tt }
      where
        first : Pairs [] []
        first = tt
    stands (e ∷ log) = next_stands e (at m w s log) (read.sends log) (stands log)

    -- ---- the laws' words
    rest_drops : (d : Desk) → d.owed ≡ [] → Drops w d d
    rest_drops d e = record { served = refl; owes = ap (answers_of w) e }

    sent_serves : (mv : Move) (x : Both S) → SlaveMay mv x.desk.owed → ServesNote w (accepts_note m) mv x.desk (sent_next m w s mv x).desk
    sent_serves (Asks n) x may = refl
    sent_serves (Comes from receiver n) x may = inl (rest_drops x.desk may)
    sent_serves (Tells to bytes) x may = (refl, refl)
    sent_serves (Hears n) x may = refl
    sent_serves (Brings from id n) x may = rest_drops x.desk may
    sent_serves Turns x may = rest_drops x.desk may
    sent_serves Rests x may = rest_drops x.desk may
    sent_serves Other x may = refl

    here_serves : (at' from : Address) (bytes : List ℕ) (k : Role) (h : spec.Heard) → spec.heard bytes ≡ h → (x : Both S) → IsReadBack m w x.slave → Agree k h → Stands x → (c : Bool) → same at' (w.slave s) ≡ c
        → ServesNote w (accepts_note m) (got_move w s at' from k) x.desk (if c then record { served = served_after m x.slave x.desk.served from k h; owed = map post (transport.heard_sends m x.slave from h) } else x.desk)
    here_serves at' from bytes k h is x rb a st true e = let P : Move → Type 0 = λ mv. ServesNote w (accepts_note m) mv x.desk (record { served = served_after m x.slave x.desk.served from k h; owed = map post (transport.heard_sends m x.slave from h) }) in subst P (sym (here k)) (got_serves from bytes k h is x rb a st.pairs st.session)
      where
        here : (k : Role) → got_move w s at' from k ≡ GotMove from k
        here (Request receiver n) = ap (λ c. if c then Comes from receiver n else Other) e
        here (Answer sender n) = ap (λ c. if c then Rests else (if (same at' w.master && same from (w.slave s)) && (sender == s) then Hears n else Other)) e
        here (Value id n) = ap (λ c. if c then Brings from id n else Other) e
        here Else = ap (λ c. if c then Rests else Other) e
    here_serves at' from bytes (Request receiver n) h is x rb a st false e = let P : Move → Type 0 = λ mv. ServesNote w (accepts_note m) mv x.desk x.desk in subst P (sym (ap (λ c. if c then Comes from receiver n else Other) e)) refl
    here_serves at' from bytes (Answer sender n) h is x rb a st false e = let P : Move → Type 0 = λ mv. ServesNote w (accepts_note m) mv x.desk x.desk in subst P (sym (ap (λ c. if c then Rests else (if (same at' w.master && same from (w.slave s)) && (sender == s) then Hears n else Other)) e)) (by ((same at' w.master && same from (w.slave s)) && (sender == s)))
      where
        by : (c : Bool) → ServesNote w (accepts_note m) (if c then Hears n else Other) x.desk x.desk
        by true = refl
        by false = refl
    here_serves at' from bytes (Value id n) h is x rb a st false e = let P : Move → Type 0 = λ mv. ServesNote w (accepts_note m) mv x.desk x.desk in subst P (sym (ap (λ c. if c then Brings from id n else Other) e)) refl
    here_serves at' from bytes Else h is x rb a st false e = let P : Move → Type 0 = λ mv. ServesNote w (accepts_note m) mv x.desk x.desk in subst P (sym (ap (λ c. if c then Rests else Other) e)) refl

    desk_of : (c : Bool) (y x : Both S) → (if c then y else x).desk ≡ (if c then y.desk else x.desk)
    desk_of true y x = refl
    desk_of false y x = refl

    next_serves : (e : LogEntry) (x : Both S) → IsReadBack m w x.slave → Stands x → SlaveMay (move w s e) x.desk.owed → ServesNote w (accepts_note m) (move w s e) x.desk (next m w s e x).desk
    next_serves (Sent from to bytes) x rb st may = sent_serves (move w s (Sent from to bytes)) x may
    next_serves (Got at' from bytes) x rb st may =
        let P : Desk → Type 0 = λ d. ServesNote w (accepts_note m) (got_move w s at' from (role_heard w bytes)) x.desk d in
        subst P (sym (desk_of (same at' (w.slave s)) (got m w s from bytes x) x)) (here_serves at' from bytes (role_heard w bytes) (spec.heard bytes) refl x rb (read.agree bytes) st (same at' (w.slave s)) refl)
    next_serves (Idle at') x rb st may = by (same at' (w.slave s)) may
      where
        by : (c : Bool) → SlaveMay (if c then Rests else Other) x.desk.owed → ServesNote w (accepts_note m) (if c then Rests else Other) x.desk x.desk
        by true may = rest_drops x.desk may
        by false may = refl
    next_serves (Turn at') x rb st may = by (same at' (w.slave s))
      where
        by : (c : Bool) → ServesNote w (accepts_note m) (if c then Turns else Other) x.desk (if c then ticked m w s x else x).desk
        by true = record { served = refl; owes = turn_none x.slave rb x.slave.session refl }
        by false = refl

    pub converses : Converses w s (accepts_note m) (desk_at m w s)
    converses = record {
      begins = refl;
      goes = λ e log may. next_serves e (at m w s log) (read.sends log) (stands log) may;
      asks = λ log. (stands log).asks;
    }

-- ---- the whole list of events
after_more : {S : Type 0} (m : Machine S) (x : SlaveState S) (es more : List Event) → transport.after_all m x (es ++ more) ≡ transport.after_all m (transport.after_all m x es) more
after_more m x [] more = refl
after_more m x (e ∷ es) more = after_more m (transport.after m x e) es more

module _ {S : Type 0} (m : Machine S) (w : Parties) (s : ℕ) where
  told_slave : (mv : Move) (x : Both S) → (sent_next m w s mv x).slave ≡ x.slave
  told_slave (Asks n) x = refl
  told_slave (Comes from receiver n) x = refl
  told_slave (Tells to bytes) x = refl
  told_slave (Hears n) x = refl
  told_slave (Brings from id n) x = refl
  told_slave Turns x = refl
  told_slave Rests x = refl
  told_slave Other x = refl

  next_slave : (e : LogEntry) (x : Both S) → (next m w s e x).slave ≡ transport.after_all m x.slave (event_of w s e)
  next_slave (Sent from to bytes) x = told_slave (move w s (Sent from to bytes)) x
  next_slave (Got at' from bytes) x = by (same at' (w.slave s))
    where
      by : (c : Bool) → (if c then got m w s from bytes x else x).slave ≡ transport.after_all m x.slave (if c then Gram from bytes ∷ [] else [])
      by true = refl
      by false = refl
  next_slave (Idle at') x = refl
  next_slave (Turn at') x = by (same at' (w.slave s))
    where
      by : (c : Bool) → (if c then ticked m w s x else x).slave ≡ transport.after_all m x.slave (if c then Tick ∷ [] else [])
      by true = refl
      by false = refl

  pub slave_is : (log : List LogEntry) → (at m w s log).slave ≡ transport.slave m (events_of_slave w s log)
  slave_is [] = refl
  slave_is (e ∷ log) = next_slave e (at m w s log) ∙ ap (λ y. transport.after_all m y (event_of w s e)) (slave_is log) ∙ sym (after_more m (transport.fresh m) (events_of_slave w s log) (event_of w s e))
