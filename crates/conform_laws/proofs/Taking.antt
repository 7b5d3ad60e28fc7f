-- What an event makes of the conversation of a slave whose model is not known.
use Rattle.std.proofs.Common.{◌≡◌, ℕ, ◌+◌, ◌%◌, ◌<◌, Bool, true, false, if◌then◌else◌, ◌⊎◌, inl, inr, Option, Some, None, List, [], ◌∷◌, ◌++◌, map, length, refl, sym, ap, ◌∙◌, subst, arith}
use Rattle.std.specs.Prelude.{◌==◌, ◌&&◌}
use Rattle.std.specs.List.{cons_option}
use Rattle.std.proofs.lemmas.Bool.{and_parts, eqb-true}
use Rattle.std.proofs.lemmas.Bool.Decides.{nat_tests}
use Rattle.dcp_types.specs.declared.addresses.Address.{Address}
use Rattle.dcp_types.specs.declared.error_codes.ErrorCode.{ErrorCode}
use Rattle.dcp_ends.specs.Events.{Gram, Tick, Send}
use Rattle.seq_window.specs.declared.places.Place as seq
use Rattle.seq_window.specs.declared.places.Place.TheVariants as places
use Rattle.seq_window.specs.Window.{place}
use Rattle.log_spec.specs.Messages.{Note, Role, Request, Answer, Value, Else, answer_in}
use Rattle.log_spec.specs.Log.{Parties, role_heard, DecidedRequest}
use Rattle.log_spec.specs.Moves.{Move, Comes, Brings, Turns, Rests}
use Rattle.lockstep_laws.specs.Slaves.{Desk, answers_of, Handles, ServesNote}
use Rattle.slave_desc.specs.declared.descriptions.SlaveDesc.{SlaveDesc}
use Rattle.slave_spec.specs.declared.words.SlaveRequest as req
use Rattle.slave_spec.specs.declared.words.Session.{Session}
use Rattle.slave_spec.specs.declared.words.Session.TheVariants.{Before, During, After}
use Rattle.slave_spec.specs.declared.words.Fate.{Fate}
use Rattle.slave_spec.specs.declared.words.Fate.TheVariants.{Dropped, Repeated, Taken}
use Rattle.slave_spec.specs.Heard as spec
use Rattle.slave_spec.specs.Transport as transport
use Rattle.slave_spec.specs.Transport.{SlaveAnswer, Exchange, expected}
use Rattle.slave_spec.specs.Slaves.{machine}
use Rattle.slave_laws.specs.Talk.Desks.{post, answer_note, accepts_asked, accepts_heard, accepts_note, Agree, IsAnswer, AreAnswersKept}
use Rattle.slave_laws.specs.Talk.Sends.{ReadsMessages}
use Rattle.slave_laws.proofs.Talk.Hearing.{asks_fit}
use Rattle.slave_spec.specs.Foreign.{ForeignState, Choice, foreign, setup_for, IsFateChoice, IsHeardChoice, MaySendAt}
use Rattle.conform_laws.specs.Served.{exchange_of, exchange_heard, exchange_at}
use Rattle.conform_laws.proofs.Asides.{AreAside, aside_none, aside_joined, notices_aside, turn_aside, IsMute, IsRead, read_or_mute}

-- ---- numbers

-- the place of the next number
is_next : (number expected : ℕ) → number < 65536 → expected < 65536 → place number expected ≡ places.Next → number ≡ expected
is_next number expected a b h = grind (arith, nat_tests)

-- the place of the number before
is_again : (number many : ℕ) → place number (many % 65536) ≡ places.Repeat → (number + 1) % 65536 ≡ many % 65536
is_again number many h = grind (arith, nat_tests)

-- numbers have sixteen bits
small : (many : ℕ) → many % 65536 < 65536
small many = omega arith

-- ---- the exchanges of the slave and those of its desk

-- each exchange of the desk has the answer of that of the slave
abbrev pub Pairs : List Exchange → List DecidedRequest → Type 0
Pairs [] [] = Unit {0}
Pairs (e ∷ served) (d ∷ es) = (d.answer ≡ answer_note e.request (expected (e ∷ served)) e.answer) × Pairs served es
Pairs _ _ = ⊥

-- they are as many
pub pairs_length : (served : List Exchange) (es : List DecidedRequest) → Pairs served es → length es ≡ length served
pairs_length [] [] p = refl
pairs_length [] (d ∷ es) p = absurd p
pairs_length (e ∷ served) [] p = absurd p
pairs_length (e ∷ served) (d ∷ es) p = let h = pairs_length served es p.1 in omega (arith, h)

-- where the slave has none, the desk has none
no_exchanges : (served : List Exchange) (es : List DecidedRequest) → served ≡ [] → Pairs served es → es ≡ []
no_exchanges [] [] z p = refl
no_exchanges [] (d ∷ es) z p = absurd p
no_exchanges (e ∷ served) es z p = absurd cc

-- nothing is taken before a session
abbrev pub SessionFits : Session → List Exchange → Type 0
SessionFits Before served = served ≡ []
SessionFits (During master id) served = Unit {0}
SessionFits (After master id) served = Unit {0}

-- a session has begun
abbrev pub IsBegun : Session → Type 0
IsBegun Before = ⊥
IsBegun (During master id) = Unit {0}
IsBegun (After master id) = Unit {0}

-- a session that took a request has begun
begun_after : (session : Session) (from : Address) (r : req.SlaveRequest) (a : SlaveAnswer) → IsBegun (transport.session_after session from r a)
begun_after Before from r a = tt
begun_after (During master id) from r a = by (transport.is_last r.asked a)
  where
    by : (b : Bool) → IsBegun (if b then After master id else During master id)
    by true = tt
    by false = tt
begun_after (After master id) from r a = tt

-- so anything may be taken
begun_fits : (session : Session) (served : List Exchange) → IsBegun session → SessionFits session served
begun_fits Before served h = absurd h
begun_fits (During master id) served h = tt
begun_fits (After master id) served h = tt

-- the desk with these exchanges, which owes these sends
abbrev pub desk : List DecidedRequest → List Send → Desk
desk es owed = record { served = es; owed = map post owed }

-- an entry of the slave, as a move
abbrev pub got_so : Address → Role → Move
got_so from (Request receiver n) = Comes from receiver n
got_so from (Answer sender n) = Rests
got_so from (Value id n) = Brings from id n
got_so from Else = Rests

module _ (w : Parties) (rd : ReadsMessages w) (d : SlaveDesc) where
  -- the register that the slave accepts
  abbrev pub accepts : Note → Bool
  accepts = accepts_note (machine (setup_for d))

  -- the slave has taken what its desk has, and the answers that it keeps are read as they were meant
  pub record Stands (x : ForeignState) (es : List DecidedRequest) : Type 0 where
    pub pairs : Pairs x.served es
    pub session : SessionFits x.session x.served
    pub kept : (to : Address) → AreAnswersKept w to x.served

  -- it has taken one request more, and keeps an answer to it that nobody reads as one
  pub record IsMuteOver (x : ForeignState) (es : List DecidedRequest) : Type 0 where
    pub newest : Exchange
    pub rest : List Exchange
    pub is : x.served ≡ newest ∷ rest
    pub mute : IsMute w rd newest.answer
    pub many : length rest ≡ length es
    pub begun : IsBegun x.session

  -- an event goes on with the conversation
  pub record Goes (mv : Move) (es exchange : List DecidedRequest) (sent : List Send) (y : ForeignState) : Type 0 where
    pub serves : ServesNote w accepts mv (desk es []) (desk (exchange ++ es) sent)
    pub stands : Stands y (exchange ++ es)

  -- or takes a request and answers it so that nobody reads it
  pub record Loses (mv : Move) (es exchange : List DecidedRequest) (sent : List Send) (y : ForeignState) : Type 0 where
    pub from : Address
    pub receiver : ℕ
    pub request : Note
    pub answer : Note
    pub is : mv ≡ Comes from receiver request
    pub one : exchange ≡ record { request = request; answer = answer } ∷ []
    pub next : request.number ≡ length es % 65536
    pub serves : ServesNote w accepts mv (desk es []) (desk es sent)
    pub mute : IsMuteOver y es

  -- an event does the one or the other
  abbrev pub Makes : Move → (es exchange : List DecidedRequest) → List Send → ForeignState → Type 0
  Makes mv es exchange sent y = Goes mv es exchange sent y ⊎ Loses mv es exchange sent y

  -- ---- a request

  module _ (c : Choice) (x : ForeignState) (es : List DecidedRequest) (st : Stands x es) (from : Address) (receiver : ℕ) (n : Note) (bytes : List ℕ) (r : req.SlaveRequest) (is : spec.heard bytes ≡ spec.Asks r) (e : r.number ≡ n.number) (ns : List Send) (aside : AreAside w ns) where
    abbrev Out : Fate → Type 0
    Out f = Makes (Comes from receiver n) es (exchange_of x r n c.answer f) (transport.request_sends (foreign d c) x from r f ++ ns) (transport.after_request (foreign d c) x from r f)

    -- the choice is free where this happens to the request
    abbrev Free : Fate → Type 0
    Free f = IsFateChoice d x.inner r.asked f c

    -- a request that is dropped
    dropped : Out Dropped
    dropped = inl (record { serves = inl (record { served = refl; owes = aside_none w ns aside }); stands = st })

    -- the number after it
    abbrev many : ℕ
    many = expected (record { request = r; answer = c.answer } ∷ x.served)

    -- a request that is taken
    taken : n.number ≡ length es % 65536 → Free Taken → Out Taken
    taken next free = by (read_or_mute w rd d x.inner r.asked c.answer free)
      where
        by : IsRead w rd c.answer ⊎ IsMute w rd c.answer → Out Taken
        by (inl read) =
            let h : IsAnswer w from r many c.answer = read from r many (asks_fit bytes r is).0 (small (length (record { request = r; answer = c.answer } ∷ x.served))) in
            let note : Note = answer_note r many c.answer in
            inl (record {
              serves = inr (inl (record {
                next = next;
                answer = note;
                number = e;
                served = refl;
                owes = ap (λ k. cons_option (answer_in k) (answers_of w (map post ns))) h ∙ ap (λ l. note ∷ l) (aside_none w ns aside);
              }));
              stands = record {
                pairs = (refl, st.pairs);
                session = begun_fits (transport.session_after x.session from r c.answer) _ (begun_after x.session from r c.answer);
                kept = λ to. read to r many (asks_fit bytes r is).0 (small (length (record { request = r; answer = c.answer } ∷ x.served)));
              };
            })
        by (inr mute) =
            let first = mute from r many in
            inr (record {
              from = from;
              receiver = receiver;
              request = n;
              answer = answer_note r many c.answer;
              is = refl;
              one = refl;
              next = next;
              serves = inl (record { served = refl; owes = aside_none w (transport.send from (transport.answer_message r many c.answer) ∷ ns) (first, aside) });
              mute = record {
                newest = record { request = r; answer = c.answer };
                rest = x.served;
                is = refl;
                mute = mute;
                many = sym (pairs_length x.served es st.pairs);
                begun = begun_after x.session from r c.answer;
              };
            })

    -- the answer that is kept
    again_by : (served : List Exchange) (es : List DecidedRequest) → Pairs served es → AreAnswersKept w from served → (n.number + 1) % 65536 ≡ length es % 65536 → Handles w accepts n (desk es []) (desk es (transport.again from served ++ ns))
    again_by [] [] q k a = inl (record { served = refl; owes = aside_none w ns aside })
    again_by [] (z ∷ es) q k a = absurd q
    again_by (z ∷ served) [] q k a = absurd q
    again_by (z ∷ served) (y ∷ es) q k a =
        let note : Note = answer_note z.request (expected (z ∷ served)) z.answer in
        inr (inr (inl (record {
          again = a;
          newest = y;
          before = es;
          kept = refl;
          served = refl;
          owes = ap (λ k. cons_option (answer_in k) (answers_of w (map post ns))) k ∙ ap (λ l. note ∷ l) (aside_none w ns aside) ∙ ap (λ l. l ∷ []) (sym q.0);
        })))

    -- a request that comes again
    repeated : (n.number + 1) % 65536 ≡ length es % 65536 → Out Repeated
    repeated a = inl (record { serves = again_by x.served es st.pairs (st.kept from) a; stands = st })

    -- the desk has as many exchanges as the slave
    l : length es ≡ length x.served
    l = pairs_length x.served es st.pairs

    -- by its place, in a session
    placed : n.number < 65536 → (q : seq.Place) → place r.number (expected x.served) ≡ q → Free (transport.placed q) → Out (transport.placed q)
    placed lt places.Next h free = taken (sym e ∙ is_next r.number (expected x.served) (omega (arith, e, lt)) (small (length x.served)) h ∙ ap (λ k. k % 65536) (sym l)) free
    placed lt places.Repeat h free = repeated (ap (λ k. (k + 1) % 65536) (sym e) ∙ is_again r.number (length x.served) h ∙ ap (λ k. k % 65536) (sym l))
    placed lt places.Old h free = dropped
    placed lt places.Ahead h free =
        inl (record {
          serves = inr (inr (inr (record { served = refl; why = inl (ap (λ k. place k (length es % 65536)) (sym e) ∙ ap (λ k. place r.number (k % 65536)) l ∙ h) })));
          stands = st;
        })

    -- by its place, after a session
    placed_late : (q : seq.Place) → place r.number (expected x.served) ≡ q → Out (transport.placed_late q)
    placed_late places.Next h = dropped
    placed_late places.Repeat h = repeated (ap (λ k. (k + 1) % 65536) (sym e) ∙ is_again r.number (length x.served) h ∙ ap (λ k. k % 65536) (sym l))
    placed_late places.Old h = dropped
    placed_late places.Ahead h = dropped

    -- the register that begins a session
    admitted : spec.heard_as (Some n.message) ≡ spec.Asks r → es ≡ [] → r.number ≡ 0 → (o : Option ErrorCode) → (foreign d c).refuses r.asked ≡ o → Free (transport.admitted o) → Out (transport.admitted o)
    admitted read none zero' None h free = taken (omega (arith, e, zero', ap length none)) free
    admitted read none zero' (Some code) h free =
        inl (record {
          serves = inr (inr (inr (record { served = refl; why = inr (none, ap (accepts_heard (machine (setup_for d))) read ∙ ap (accepts_asked (machine (setup_for d)) r.number r.asked) h) })));
          stands = st;
        })

    -- any request
    request_makes : n.number < 65536 → spec.heard_as (Some n.message) ≡ spec.Asks r → (session : Session) → SessionFits session x.served → Free (transport.fate_in (foreign d c) session x.served from r) → Out (transport.fate_in (foreign d c) session x.served from r)
    request_makes lt read Before fits = by (transport.is_register r.asked && (r.number == 0)) refl
      where
        by : (b : Bool) → (transport.is_register r.asked && (r.number == 0)) ≡ b → Free (if b then transport.admitted ((foreign d c).refuses r.asked) else Dropped) → Out (if b then transport.admitted ((foreign d c).refuses r.asked) else Dropped)
        by true h free = admitted read (no_exchanges x.served es fits st.pairs) (eqb-true r.number 0 (and_parts (transport.is_register r.asked) (r.number == 0) h).1) ((foreign d c).refuses r.asked) refl free
        by false h free = dropped
    request_makes lt read (During master id) fits = by (transport.same_address from master && (r.receiver == id))
      where
        by : (b : Bool) → Free (if b then transport.placed (place r.number (expected x.served)) else Dropped) → Out (if b then transport.placed (place r.number (expected x.served)) else Dropped)
        by true free = placed lt (place r.number (expected x.served)) refl free
        by false free = dropped
    request_makes lt read (After master id) fits = by (transport.same_address from master && (r.receiver == id))
      where
        by : (b : Bool) → Free (if b then transport.placed_late (place r.number (expected x.served)) else Dropped) → Out (if b then transport.placed_late (place r.number (expected x.served)) else Dropped)
        by true free = placed_late (place r.number (expected x.served)) refl
        by false free = dropped

  -- ---- any event

  -- only the machine goes on
  inner_stands : (b : Bool) (x y : ForeignState) (es : List DecidedRequest) → y.served ≡ x.served → y.session ≡ x.session → Stands x es → Stands (if b then y else x) es
  inner_stands false x y es e f st = st
  inner_stands true x y es e f st =
      let P : List Exchange → Type 0 = λ z. Pairs z es in
      let Q : Session → List Exchange → Type 0 = SessionFits in
      let K : List Exchange → Type 0 = λ z. (to : Address) → AreAnswersKept w to z in
      record {
        pairs = subst P (sym e) st.pairs;
        session = subst (λ z. Q y.session z) (sym e) (subst (λ z. Q z x.served) (sym f) st.session);
        kept = subst K (sym e) st.kept;
      }

  -- any datagram, by both readings of it
  heard_makes : (c : Choice) (x : ForeignState) (es : List DecidedRequest) (from : Address) (bytes : List ℕ) (ns : List Send) → AreAside w ns → Stands x es → (k : Role) (h : spec.Heard) → spec.heard bytes ≡ h → Agree k h → IsHeardChoice d x from h c
      → Makes (got_so from k) es (exchange_heard d c x from k h) (transport.heard_sends (foreign d c) x from h ++ ns) (transport.after_heard (foreign d c) x from h)
  heard_makes c x es from bytes ns aside st (Request receiver n) (spec.Asks r) is a free = request_makes c x es st from receiver n bytes r is a.0 ns aside a.1 a.2 x.session st.session free
  heard_makes c x es from bytes ns aside st (Request receiver n) (spec.Brings number i payload) is a free = absurd a
  heard_makes c x es from bytes ns aside st (Request receiver n) spec.Nothing is a free = absurd a
  heard_makes c x es from bytes ns aside st (Answer sender n) (spec.Asks r) is a free = absurd a
  heard_makes c x es from bytes ns aside st (Answer sender n) (spec.Brings number i payload) is a free = absurd a
  heard_makes c x es from bytes ns aside st (Answer sender n) spec.Nothing is a free = inl (record { serves = record { served = refl; owes = aside_none w ns aside }; stands = st })
  heard_makes c x es from bytes ns aside st (Value id n) (spec.Asks r) is a free = absurd a
  heard_makes c x es from bytes ns aside st (Value id n) (spec.Brings number i payload) is a free =
      inl (record {
        serves = record { served = refl; owes = aside_none w ns aside };
        stands = inner_stands (transport.is_open x.session) x (record x { inner = (foreign d c).brings from number i payload x.inner }) es refl refl st;
      })
  heard_makes c x es from bytes ns aside st (Value id n) spec.Nothing is a free = absurd a
  heard_makes c x es from bytes ns aside st Else (spec.Asks r) is a free = absurd a
  heard_makes c x es from bytes ns aside st Else (spec.Brings number i payload) is a free = absurd a
  heard_makes c x es from bytes ns aside st Else spec.Nothing is a free = inl (record { serves = record { served = refl; owes = aside_none w ns aside }; stands = st })

  module _ (agree : (bytes : List ℕ) → Agree (role_heard w bytes) (spec.heard bytes)) where
    -- a datagram goes on with the conversation, or takes a request and answers it so that nobody reads it
    pub got_makes : (x y : ForeignState) (es : List DecidedRequest) (from : Address) (bytes : List ℕ) (sent : List Send) → Stands x es → (may : MaySendAt d x (Gram from bytes) sent y)
        → Makes (got_so from (role_heard w bytes)) es (exchange_at w d may.choice x (Gram from bytes)) sent y
    got_makes x y es from bytes sent st may =
        let c = may.choice in
        let P : List Send → ForeignState → Type 0 = λ l z. Makes (got_so from (role_heard w bytes)) es (exchange_at w d c x (Gram from bytes)) l z in
        let h = heard_makes c x es from bytes may.notices (notices_aside w rd y may.notices may.told) st (role_heard w bytes) (spec.heard bytes) refl (agree bytes) may.free in
        subst (λ l. P l y) (sym may.sends) (subst (λ z. P (transport.sends (foreign d c) x (Gram from bytes) ++ may.notices) z) (sym may.after) h)

  -- a turn goes on with it
  pub turn_makes : (x y : ForeignState) (es : List DecidedRequest) (sent : List Send) → Stands x es → MaySendAt d x Tick sent y → Goes Turns es [] sent y
  turn_makes x y es sent st may =
      let c = may.choice in
      let all : List Send = transport.sends (foreign d c) x Tick ++ may.notices in
      let P : List Send → ForeignState → Type 0 = λ l z. Goes Turns es [] l z in
      let h : Goes Turns es [] all (transport.after (foreign d c) x Tick) = record {
        serves = record { served = refl; owes = aside_none w all (aside_joined w (transport.sends (foreign d c) x Tick) may.notices (turn_aside w rd d c x may.free) (notices_aside w rd y may.notices may.told)) };
        stands = inner_stands (transport.is_open x.session) x (record x { quiet = transport.quieter x.quiet; inner = ((foreign d c).turns (transport.quieter x.quiet) x.inner).after }) es refl refl st;
      } in
      subst (λ l. P l y) (sym may.sends) (subst (λ z. P all z) (sym may.after) h)
