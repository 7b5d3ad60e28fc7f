-- What is known of the conversation of a slave whose model is not known, at each entry of an honest log.
use Rattle.std.proofs.Common.{◌≡◌, ℕ, ◌+◌, ◌%◌, ◌≤◌, Bool, true, if◌then◌else◌, ◌⊎◌, inl, inr, Option, Some, None, List, [], ◌∷◌, ◌++◌, map, length, refl, sym, ap, ◌∙◌, subst, arith}
use Rattle.std.specs.Prelude.{◌&&◌}
use Rattle.std.specs.List.{cons_option}
use Rattle.std.proofs.lemmas.Bool.{cond-true}
use Rattle.dcp_types.specs.declared.addresses.Address.{Address}
use Rattle.dcp_ends.specs.declared.entries.LogEntry.{LogEntry}
use Rattle.dcp_ends.specs.declared.entries.LogEntry.TheVariants.{Sent}
use Rattle.dcp_ends.specs.Events.{Gram, Tick, Send}
use Rattle.log_spec.specs.Messages.{Note, Role, Request, Answer, Value, Else}
use Rattle.log_spec.specs.Channel.{by_ordinal, IsRegularChannel}
use Rattle.log_spec.specs.Honest.{MayStandNewest}
use Rattle.log_spec.specs.Log.{Parties, same, role_heard, Requests, Answers, sent_in, sends_in, requests_sent, DecidedRequest}
use Rattle.log_spec.specs.Moves.{Move, Asks, Comes, Tells, Hears, Brings, Turns, Rests, Other, move, decided_exchanges}
use Rattle.log_spec.proofs.Channel.{IsAt, grown_again}
use Rattle.log_spec.proofs.Moves.{same_self, asked, Came, MoveMay, honest_move, requests_by_move, answers_by_move, comes_in}
use Rattle.lockstep_laws.specs.Slaves.{IsNoRequest, ServesNote, SlaveMay}
use Rattle.lockstep_laws.proofs.Talk.{Known, Arrives, AskMay, Behind, requests_of, taken_length, step}
use Rattle.master_laws.specs.Meets.Laws.{MayAsk, IsNextRequest}
use Rattle.run_laws.proofs.Runs.{accepts_it}
use Rattle.slave_desc.specs.declared.descriptions.SlaveDesc.{SlaveDesc}
use Rattle.slave_spec.specs.Heard as spec
use Rattle.slave_laws.specs.Talk.Desks.{Agree, post}
use Rattle.slave_laws.specs.Talk.Sends.{ReadsMessages}
use Rattle.slave_spec.specs.Foreign.{ForeignState, setup_for, MaySendAt}
use Rattle.slave_spec.specs.Allowed.{end_of_entry}
use Rattle.conform_laws.specs.Served.{exchange_at}
use Rattle.conform_laws.specs.Serving.{AsksNothing}
use Rattle.conform_laws.proofs.Taking.{desk, got_so, accepts, Stands, IsMuteOver, Goes, Makes, got_makes, turn_makes}
use Rattle.conform_laws.proofs.Muted.{at_is_old, newest_is, MutesOn, HeardOld, got_mutes, turn_mutes}

-- so far the master alone has sent requests
abbrev pub MasterAlone : Parties → List LogEntry → Type 0
MasterAlone w [] = Unit {0}
MasterAlone w (e ∷ log) = ((end_of_entry e ≡ w.master) ⊎ AsksNothing w e) × MasterAlone w log

-- what asks nothing is no request
no_request : (k : Role) (receiver : ℕ) (n : Note) → k ≡ Request receiver n → IsNoRequest k → ⊥
no_request k receiver n e h = let P : Role → Type 0 = IsNoRequest in subst P e h

-- so a request among what was sent is the master's
pub asked_by_master : (w : Parties) (later log : List LogEntry) (from to : Address) (bytes : List ℕ) (receiver : ℕ) (n : Note) → MasterAlone w (later ++ Sent from to bytes ∷ log) → role_heard w bytes ≡ Request receiver n → from ≡ w.master
asked_by_master w (e ∷ later) log from to bytes receiver n h r = asked_by_master w later log from to bytes receiver n h.1 r
asked_by_master w [] log from to bytes receiver n h r = by h.0
  where
    by : (from ≡ w.master) ⊎ IsNoRequest (role_heard w bytes) → from ≡ w.master
    by (inl e) = e
    by (inr none) = absurd (no_request (role_heard w bytes) receiver n r none)

-- no more is decided than was asked, so a request that is asked after a mute one was not closed
never_closed : (n : Note) (rs taken : List Note) (ds before : List DecidedRequest) → rs ≡ n ∷ taken → length taken ≡ length before → Behind ds before → length ds ≡ length rs → ⊥
never_closed n rs taken ds before is many (inl e) closed = omega (arith, ap length is, many, ap length e, closed)
never_closed n rs taken ds before is many (inr p) closed = omega (arith, ap length is, many, ap length p.1, closed)

-- no more is decided than was asked
few_decided : (rs : List Note) (ds served : List DecidedRequest) → length (requests_of served) ≡ length served → Behind (requests_of served) rs → Behind ds served → length ds ≤ length rs
few_decided rs ds served l p q = grind arith

module _ (w : Parties) (rd : ReadsMessages w) (agree : (bytes : List ℕ) → Agree (role_heard w bytes) (spec.heard bytes)) (s : ℕ) (d : SlaveDesc) where
  -- the network and the master do at an entry what they may
  pub record IsFair (e : LogEntry) (log : List LogEntry) : Type 0 where
    pub honest : MayStandNewest w e log
    pub asks : MayAsk w s d.uuid (move w s e) log

  -- what is known of the conversation after a log
  abbrev pub KnownAt : List LogEntry → List DecidedRequest → List Send → Type 0
  KnownAt log es owed = Known w (accepts w rd d) (sends_in w (Requests s) log) (sends_in w (Answers s) log) (decided_exchanges w s log) (desk es owed)

  -- ---- what honesty and the master give

  -- a request that comes, comes from the master
  from_master : (log : List LogEntry) (from : Address) (receiver : ℕ) (n : Note) → MasterAlone w log → Came w log (w.slave s) from (Request receiver n) → Came w log (w.slave s) w.master (Request receiver n)
  from_master log from receiver n alone c =
      let r = c.repeated in
      let Q : List LogEntry → Type 0 = MasterAlone w in
      let P : Address → Type 0 = λ a. Came w log (w.slave s) a (Request receiver n) in
      subst P (asked_by_master w r.later r.earlier from (w.slave s) c.bytes receiver n (subst Q r.is alone) c.read) c

  -- what comes was sent, and not long before
  arrives : (mv : Move) (log : List LogEntry) → MasterAlone w log → MoveMay w s log mv → IsRegularChannel (sends_in w (Requests s) log) → IsRegularChannel (sends_in w (Answers s) log) → Arrives mv (sends_in w (Requests s) log) (sends_in w (Answers s) log)
  arrives (Asks n) log b h p q = tt
  arrives (Comes from receiver n) log b h p q = comes_in w (Requests s) log (w.slave s) w.master (Request receiver n) n (here (same w.master w.master) (same (w.slave s) (w.slave s)) (same_self w.master) (same_self (w.slave s))) p (from_master log from receiver n b h)
    where
      here : (b c : Bool) → b ≡ true → c ≡ true → (if b && c then Some n else None) ≡ Some n
      here b c e f = grind arith
  arrives (Tells to bytes) log b h p q = tt
  arrives (Hears a) log b h p q = comes_in w (Answers s) log w.master (w.slave s) (Answer s a) a (cond-true (same (w.slave s) (w.slave s)) (Some a) None (same_self (w.slave s))) q h
  arrives (Brings from id n) log b h p q = tt
  arrives Turns log b h p q = tt
  arrives Rests log b h p q = tt
  arrives Other log b h p q = tt

  -- the same of an entry
  pub arrives_at : (e : LogEntry) (log : List LogEntry) (es : List DecidedRequest) (owed : List Send) → MasterAlone w log → IsFair e log → KnownAt log es owed → Arrives (move w s e) (sends_in w (Requests s) log) (sends_in w (Answers s) log)
  arrives_at e log es owed alone f k = arrives (move w s e) log alone (honest_move w s log e f.honest) k.requests k.answers

  -- the master asks as the laws of a conversation want it
  may_ask : (mv : Move) (log : List LogEntry) → MayAsk w s d.uuid mv log → AskMay (accepts w rd d) mv (requests_sent w s log) (decided_exchanges w s log)
  may_ask (Asks n) log (inl again) = inl again
  may_ask (Asks n) log (inr next) = inr (record { closed = next.closed; number = next.number; first = λ none. first next none })
    where
      first : IsNextRequest w s d.uuid n log → requests_sent w s log ≡ [] → accepts w rd d n ≡ true
      first next none = let P : Note → Type 0 = λ z. accepts w rd d z ≡ true in subst P (sym (next.first none)) (accepts_it (setup_for d) s)
  may_ask (Comes from receiver n) log h = tt
  may_ask (Tells to bytes) log h = tt
  may_ask (Hears a) log h = tt
  may_ask (Brings from id n) log h = tt
  may_ask Turns log h = tt
  may_ask Rests log h = tt
  may_ask Other log h = tt

  -- what is known goes on with an entry
  pub known_on : (e : LogEntry) (log : List LogEntry) (es es' : List DecidedRequest) (owed owed' : List Send) → MasterAlone w log → IsFair e log → SlaveMay (move w s e) (map post owed)
      → ServesNote w (accepts w rd d) (move w s e) (desk es owed) (desk es' owed') → KnownAt log es owed → KnownAt (e ∷ log) es' owed'
  known_on e log es es' owed owed' alone f may serves k =
      let mv = move w s e in
      let on = step w (accepts w rd d) mv (sends_in w (Requests s) log) (sends_in w (Answers s) log) (decided_exchanges w s log) (desk es owed) (desk es' owed') (arrives_at e log es owed alone f k) (may_ask mv log f.asks) may serves k in
      let P : Option Note → Option Note → Type 0 = λ n m. Known w (accepts w rd d) (cons_option n (sends_in w (Requests s) log)) (cons_option m (sends_in w (Answers s) log)) (decided_exchanges w s (e ∷ log)) (desk es' owed') in
      subst (λ n. P n (sent_in w (Answers s) e)) (sym (requests_by_move w s e)) (subst (λ m. P (asked mv) m) (sym (answers_by_move w s e)) on)

  -- ---- how it stands

  -- the slave and its desk have taken the same
  pub record Talks (log : List LogEntry) (x : ForeignState) (es : List DecidedRequest) (owed : List Send) : Type 0 where
    pub stands : Stands w rd d x es
    pub known : KnownAt log es owed

  -- the slave has answered its newest request so that nobody reads it; that is the last request which was sent
  pub record IsMute (log : List LogEntry) (x : ForeignState) (es : List DecidedRequest) (owed : List Send) : Type 0 where
    pub newest : DecidedRequest
    pub before : List DecidedRequest
    pub is : es ≡ newest ∷ before
    pub over : IsMuteOver w rd d x before
    pub known : KnownAt log before owed
    pub last : requests_sent w s log ≡ newest.request ∷ requests_of before

  -- it stands in one of the two ways
  abbrev pub Converse : List LogEntry → ForeignState → List DecidedRequest → List Send → Type 0
  Converse log x es owed = Talks log x es owed ⊎ IsMute log x es owed

  -- ---- the last request stays the last

  -- the master does not ask for anything else, while its last request is not decided
  stays_last : (mv : Move) (log : List LogEntry) (newest : DecidedRequest) (before : List DecidedRequest) (owed : List Send) → MayAsk w s d.uuid mv log → KnownAt log before owed → requests_sent w s log ≡ newest.request ∷ requests_of before
      → by_ordinal (cons_option (asked mv) (sends_in w (Requests s) log)) ≡ requests_sent w s log
  stays_last (Asks n) log newest before owed (inl again) k last = grown_again n (sends_in w (Requests s) log) k.requests again
  stays_last (Asks n) log newest before owed (inr next) k last = absurd (never_closed newest.request (requests_sent w s log) (requests_of before) (decided_exchanges w s log) before last (taken_length before) k.talk.decided next.closed)
  stays_last (Comes from receiver n) log newest before owed h k last = refl
  stays_last (Tells to bytes) log newest before owed h k last = refl
  stays_last (Hears a) log newest before owed h k last = refl
  stays_last (Brings from id n) log newest before owed h k last = refl
  stays_last Turns log newest before owed h k last = refl
  stays_last Rests log newest before owed h k last = refl
  stays_last Other log newest before owed h k last = refl

  -- so the last request stays the last with an entry
  last_on : (e : LogEntry) (log : List LogEntry) (newest : DecidedRequest) (before : List DecidedRequest) (owed : List Send) → IsFair e log → KnownAt log before owed → requests_sent w s log ≡ newest.request ∷ requests_of before
      → requests_sent w s (e ∷ log) ≡ newest.request ∷ requests_of before
  last_on e log newest before owed f k last =
      ap (λ n. by_ordinal (cons_option n (sends_in w (Requests s) log))) (requests_by_move w s e) ∙ stays_last (move w s e) log newest before owed f.asks k last ∙ last

  -- ---- an entry that is no event of the slave

  -- the slave stands as before
  pub passes : (e : LogEntry) (log : List LogEntry) (x : ForeignState) (es : List DecidedRequest) (owed owed' : List Send) → MasterAlone w log → IsFair e log → SlaveMay (move w s e) (map post owed)
      → ((served : List DecidedRequest) → ServesNote w (accepts w rd d) (move w s e) (desk served owed) (desk served owed')) → Converse log x es owed → Converse (e ∷ log) x es owed'
  passes e log x es owed owed' alone f may serves (inl t) = inl (record { stands = t.stands; known = known_on e log es es owed owed' alone f may (serves es) t.known })
  passes e log x es owed owed' alone f may serves (inr m) = inr (record {
    newest = m.newest;
    before = m.before;
    is = m.is;
    over = m.over;
    known = known_on e log m.before m.before owed owed' alone f may (serves m.before) m.known;
    last = last_on e log m.newest m.before owed f m.known m.last;
  })

  -- ---- an event

  -- an event of a slave that is heard
  makes_on : (e : LogEntry) (log : List LogEntry) (x y : ForeignState) (es exchange : List DecidedRequest) (sent : List Send) → MasterAlone w log → IsFair e log → SlaveMay (move w s e) []
      → Makes w rd d (move w s e) es exchange sent y → Talks log x es [] → Converse (e ∷ log) y (exchange ++ es) sent
  makes_on e log x y es exchange sent alone f may (inl g) t = inl (record { stands = g.stands; known = known_on e log es (exchange ++ es) [] sent alone f may g.serves t.known })
  makes_on e log x y es exchange sent alone f may (inr l) t =
      let A : Move → Type 0 = λ mv. Arrives mv (sends_in w (Requests s) log) (sends_in w (Answers s) log) in
      let at : IsAt (requests_sent w s log) l.request = subst A l.is (arrives_at e log es [] alone f t.known) in
      let newest : DecidedRequest = record { request = l.request; answer = l.answer } in
      let last = newest_is l.request (requests_sent w s log) (requests_of es) at (l.next ∙ ap (λ k. k % 65536) (sym (taken_length es))) t.known.talk.taken in
      inr (record {
        newest = newest;
        before = es;
        is = ap (λ z. z ++ es) l.one;
        over = l.mute;
        known = known_on e log es es [] sent alone f may l.serves t.known;
        last = last_on e log newest es [] f t.known last;
      })

  -- an event of a slave that is not
  mutes_on : (e : LogEntry) (log : List LogEntry) (y : ForeignState) (es exchange : List DecidedRequest) (newest : DecidedRequest) (before : List DecidedRequest) (sent : List Send) → MasterAlone w log → IsFair e log → SlaveMay (move w s e) []
      → MutesOn w rd d (move w s e) before exchange sent y → es ≡ newest ∷ before → KnownAt log before [] → requests_sent w s log ≡ newest.request ∷ requests_of before → Converse (e ∷ log) y (exchange ++ es) sent
  mutes_on e log y es exchange newest before sent alone f may m is k last = inr (record {
    newest = newest;
    before = before;
    is = ap (λ z. z ++ es) m.none ∙ is;
    over = m.mute;
    known = known_on e log before before [] sent alone f may m.serves k;
    last = last_on e log newest before [] f k last;
  })

  -- a request that comes is one of the last
  is_old : (from : Address) (k : Role) (log : List LogEntry) → Arrives (got_so from k) (sends_in w (Requests s) log) (sends_in w (Answers s) log) → HeardOld w rd d k (length (requests_sent w s log))
  is_old from (Request receiver n) log at = at_is_old (requests_sent w s log) n at
  is_old from (Answer sender n) log at = tt
  is_old from (Value id n) log at = tt
  is_old from Else log at = tt

  -- a datagram comes to the slave
  pub got_on : (e : LogEntry) (log : List LogEntry) (x y : ForeignState) (es : List DecidedRequest) (from : Address) (bytes : List ℕ) (sent : List Send) → MasterAlone w log → IsFair e log → move w s e ≡ got_so from (role_heard w bytes)
      → SlaveMay (move w s e) [] → (may : MaySendAt d x (Gram from bytes) sent y) → Converse log x es [] → Converse (e ∷ log) y (exchange_at w d may.choice x (Gram from bytes) ++ es) sent
  got_on e log x y es from bytes sent alone f is_got none may (inl t) =
      let M : Move → Type 0 = λ mv. Makes w rd d mv es (exchange_at w d may.choice x (Gram from bytes)) sent y in
      makes_on e log x y es (exchange_at w d may.choice x (Gram from bytes)) sent alone f none (subst M (sym is_got) (got_makes w rd d agree x y es from bytes sent t.stands may)) t
  got_on e log x y es from bytes sent alone f is_got none may (inr m) =
      let A : Move → Type 0 = λ mv. Arrives mv (sends_in w (Requests s) log) (sends_in w (Answers s) log) in
      let M : Move → Type 0 = λ mv. MutesOn w rd d mv m.before (exchange_at w d may.choice x (Gram from bytes)) sent y in
      let O : ℕ → Type 0 = λ many. HeardOld w rd d (role_heard w bytes) many in
      let many : length (requests_sent w s log) ≡ length m.before + 1 = omega (arith, ap length m.last, taken_length m.before) in
      let old = subst O many (is_old from (role_heard w bytes) log (subst A is_got (arrives_at e log m.before [] alone f m.known))) in
      mutes_on e log y es (exchange_at w d may.choice x (Gram from bytes)) m.newest m.before sent alone f none (subst M (sym is_got) (got_mutes w rd d agree x y m.before from bytes sent m.over old may)) m.is m.known m.last

  -- the slave has its turn
  pub turn_on : (e : LogEntry) (log : List LogEntry) (x y : ForeignState) (es : List DecidedRequest) (sent : List Send) → MasterAlone w log → IsFair e log → move w s e ≡ Turns
      → SlaveMay (move w s e) [] → MaySendAt d x Tick sent y → Converse log x es [] → Converse (e ∷ log) y es sent
  turn_on e log x y es sent alone f is_turn none may (inl t) =
      let M : Move → Type 0 = λ mv. Goes w rd d mv es [] sent y in
      makes_on e log x y es [] sent alone f none (inl (subst M (sym is_turn) (turn_makes w rd d x y es sent t.stands may))) t
  turn_on e log x y es sent alone f is_turn none may (inr m) =
      let M : Move → Type 0 = λ mv. MutesOn w rd d mv m.before [] sent y in
      mutes_on e log y es [] m.newest m.before sent alone f none (subst M (sym is_turn) (turn_mutes w rd d x y m.before sent m.over may)) m.is m.known m.last

  -- ---- what comes of it

  -- the requests so far are some later ones, and then all that the slave took
  pub taken_in_order : (log : List LogEntry) (x : ForeignState) (es : List DecidedRequest) (owed : List Send) → Converse log x es owed → (later : List Note) × (requests_sent w s log ≡ later ++ requests_of es)
  taken_in_order log x es owed (inl t) = by t.known.talk.taken
    where
      by : Behind (requests_of es) (requests_sent w s log) → (later : List Note) × (requests_sent w s log ≡ later ++ requests_of es)
      by (inl e) = ([], sym e)
      by (inr p) = (p.0 ∷ [], p.1)
  taken_in_order log x es owed (inr m) = ([], m.last ∙ ap requests_of (sym m.is))

  -- what the slave took are some later exchanges, and then all that is decided
  pub decided_as_taken : (log : List LogEntry) (x : ForeignState) (es : List DecidedRequest) (owed : List Send) → Converse log x es owed → (later : List DecidedRequest) × (es ≡ later ++ decided_exchanges w s log)
  decided_as_taken log x es owed (inl t) = by t.known.talk.decided
    where
      by : Behind (decided_exchanges w s log) es → (later : List DecidedRequest) × (es ≡ later ++ decided_exchanges w s log)
      by (inl e) = ([], sym e)
      by (inr p) = (p.0 ∷ [], p.1)
  decided_as_taken log x es owed (inr m) = by m.known.talk.decided
    where
      by : Behind (decided_exchanges w s log) m.before → (later : List DecidedRequest) × (es ≡ later ++ decided_exchanges w s log)
      by (inl e) = (m.newest ∷ [], m.is ∙ ap (λ z. m.newest ∷ z) (sym e))
      by (inr p) = (m.newest ∷ (p.0 ∷ []), m.is ∙ ap (λ z. m.newest ∷ z) p.1)

  -- the requests are numbered in order, and all but one are decided at least
  pub is_ordered : (log : List LogEntry) (x : ForeignState) (es : List DecidedRequest) (owed : List Send) → Converse log x es owed
      → IsRegularChannel (sends_in w (Requests s) log) × (length (decided_exchanges w s log) ≤ length (requests_sent w s log)) × (length (requests_sent w s log) ≤ length (decided_exchanges w s log) + 1)
  is_ordered log x es owed (inl t) = (t.known.requests, few_decided (requests_sent w s log) (decided_exchanges w s log) es (taken_length es) t.known.talk.taken t.known.talk.decided, t.known.talk.asked)
  is_ordered log x es owed (inr m) = (m.known.requests, few_decided (requests_sent w s log) (decided_exchanges w s log) m.before (taken_length m.before) m.known.talk.taken m.known.talk.decided, m.known.talk.asked)
