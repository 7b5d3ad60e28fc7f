-- What a slave sends whose model is not known, as a run reads it: one answer to a request, and all else aside.
use Rattle.std.proofs.Common.{◌≡◌, ℕ, zero, suc, ◌+◌, ◌<◌, ◌≤◌, Bool, true, false, ◌⊎◌, inl, inr, if◌then◌else◌, Option, Some, None, List, [], ◌∷◌, ◌++◌, map, length, refl, sym, ap, ◌∙◌, subst, arith, MatchBool, Contains}
use Rattle.std.specs.Prelude.{◌&&◌, nat_lt, nat_le}
use Rattle.std.specs.List.{cons_option, list_all}
use Rattle.std.proofs.lemmas.Bool.Decides.{nat_tests}
use Rattle.std.proofs.lemmas.Bool.{and_parts}
use Rattle.std.proofs.lemmas.List.{length-append, append-nil}
use Rattle.std.proofs.lemmas.List.Folds.{list_all-append}
use Rattle.dcp_types.specs.Values.{digits}
use Rattle.dcp_types.specs.declared.addresses.Address.{Address}
use Rattle.dcp_types.specs.declared.states.State.{State}
use Rattle.dcp_types.specs.declared.states.State.TheVariants.{ErrorHandling}
use Rattle.dcp_types.specs.declared.error_codes.ErrorCode.{ErrorCode}
use Rattle.dcp_types.specs.declared.error_codes.ErrorCode.TheVariants.{NotSupported, ValueRange}
use Rattle.dcp_types.specs.declared.fault_codes.FaultCode.{FaultCode}
use Rattle.dcp_types.specs.Codes.{fault_code}
use Rattle.dcp_ends.specs.Events.{Event, Gram, Tick, Send}
use Rattle.pdu_layout.specs.declared.fields.FieldKind.{FieldKind}
use Rattle.pdu_layout.specs.declared.fields.FieldKind.TheVariants.{U8, U16, Rest}
use Rattle.pdu_layout.specs.declared.messages.Cfg.{Cfg}
use Rattle.pdu_layout.specs.declared.messages.Cfg.TheVariants as cfg
use Rattle.pdu_layout.specs.declared.messages.Inf.TheVariants as inf
use Rattle.pdu_layout.specs.Fields.{spelled}
use Rattle.pdu_layout.specs.Message.{Message}
use Rattle.pdu_layout.specs.Reading.{message_in, message_with, spelling}
use Rattle.pdu_layout.specs.Table.{kinds_for}
use Rattle.pdu_codec.proofs.Told.{read_as_spelled, has_spelling}
use Rattle.log_spec.specs.Messages.{Role, Request, Answer, Value, Else, Answering, Carrying, Noting, class_of, answer_in, role_read}
use Rattle.log_spec.specs.Log.{Parties, role_heard}
use Rattle.lockstep_laws.specs.Slaves.{answers_of, IsNoRequest, AskNothing}
use Rattle.slave_desc.specs.declared.descriptions.SlaveDesc.{SlaveDesc}
use Rattle.slave_spec.specs.Changes as wiring
use Rattle.slave_spec.specs.Changes.{target, ordinal, output}
use Rattle.slave_spec.specs.Payloads.{data_message}
use Rattle.slave_spec.specs.declared.words.SlaveRequest.{SlaveRequest}
use Rattle.slave_spec.specs.declared.words.Asked.{Asked}
use Rattle.slave_spec.specs.declared.words.Asked.TheVariants.{Change, Setting, Question}
use Rattle.slave_spec.specs.declared.words.Session.{Session}
use Rattle.slave_spec.specs.declared.words.Session.TheVariants.{Before, During, After}
use Rattle.slave_spec.specs.declared.words.Fate.{Fate}
use Rattle.slave_spec.specs.declared.words.Fate.TheVariants.{Dropped, Refused, Repeated, Taken}
use Rattle.slave_spec.specs.Heard.{Heard, Asks, Brings, Nothing, heard}
use Rattle.slave_spec.specs.Transport.{SlaveAnswer, Ack, Nack, StateAck, ErrorAck, LogAck, Changed, Exchange, Parcel, answer_message, notice_message, expected, fate, again, send, parcel_send, notice_sends, turned_sends, turn_sends, request_sends, heard_sends, sends, quieter, is_open}
use Rattle.slave_spec.specs.Turns.{is_sending_state}
use Rattle.slave_spec.specs.Requests.{is_category}
use Rattle.slave_laws.specs.Talk.Desks.{post, IsAnswer}
use Rattle.slave_laws.specs.Talk.Ranges.{AreBytes, RequestFits, AnswerFits}
use Rattle.slave_laws.specs.Talk.Sends.{ReadsMessages}
use Rattle.slave_laws.proofs.Talk.Bytes.{bytes_at}
use Rattle.slave_laws.proofs.Talk.Spelt.{answer_is, fault_small}
use Rattle.slave_spec.specs.Foreign.{ForeignPlant, ForeignState, ForeignAct, Stays, Passes, Falls, Choice, passed, foreign, foreign_answers, setting_answers, parameter_answers, logging_answers, fault_answers, log_answers, verdict, table_refusal, MayAnswer, foreign_turned, IsParcel, AreParcels, FirstThen, due_ids, ActSends, IsNotice, notice_from, AreNoticesFrom, AreNoticesIn, AreNotices, IsChoice, IsTurnChoice, MaySendAt}
use Rattle.conform_laws.proofs.Roles.{IsAside, IsOfClass, spelled_fits}

-- ---- sends that are neither requests nor answers

-- all of these are neither requests nor answers
abbrev pub AreAside : Parties → List Send → Type 0
AreAside w [] = Unit {0}
AreAside w (p ∷ ps) = IsAside (role_heard w p.bytes) × AreAside w ps

-- what is aside has no answer
aside_answer : (k : Role) → IsAside k → answer_in k ≡ None
aside_answer (Request receiver n) h = absurd h
aside_answer (Answer sender n) h = absurd h
aside_answer (Value id n) h = refl
aside_answer Else h = refl

-- what is aside is no request
aside_asks : (k : Role) → IsAside k → IsNoRequest k
aside_asks (Request receiver n) h = absurd h
aside_asks (Answer sender n) h = absurd h
aside_asks (Value id n) h = tt
aside_asks Else h = tt

-- no answer is among them
pub aside_none : (w : Parties) (ps : List Send) → AreAside w ps → answers_of w (map post ps) ≡ []
aside_none w [] h = refl
aside_none w (p ∷ ps) h = ap (λ o. cons_option o (answers_of w (map post ps))) (aside_answer (role_heard w p.bytes) h.0) ∙ aside_none w ps h.1

-- and no request
pub aside_ask_nothing : (w : Parties) (ps : List Send) → AreAside w ps → AskNothing w (map post ps)
aside_ask_nothing w [] h = tt
aside_ask_nothing w (p ∷ ps) h = (aside_asks (role_heard w p.bytes) h.0, aside_ask_nothing w ps h.1)

-- two lists that are aside are aside as one
pub aside_joined : (w : Parties) (ps qs : List Send) → AreAside w ps → AreAside w qs → AreAside w (ps ++ qs)
aside_joined w [] qs h k = k
aside_joined w (p ∷ ps) qs h k = (h.0, aside_joined w ps qs h.1 k)

-- two lists without a request have none as one
ask_joined : (w : Parties) (ps qs : List Send) → AskNothing w (map post ps) → AskNothing w (map post qs) → AskNothing w (map post (ps ++ qs))
ask_joined w [] qs h k = k
ask_joined w (p ∷ ps) qs h k = (h.0, ask_joined w ps qs h.1 k)

-- an answer is no request
answer_no_request : (k : Role) → IsOfClass Answering k → IsNoRequest k
answer_no_request (Request receiver n) h = absurd h
answer_no_request (Answer sender n) h = tt
answer_no_request (Value id n) h = tt
answer_no_request Else h = tt

-- each answer has the code of one
answer_class : (r : SlaveRequest) (next : ℕ) (a : SlaveAnswer) → class_of (answer_message r next a).code ≡ Answering
answer_class r next Ack = refl
answer_class r next (Nack code) = refl
answer_class r next (StateAck state) = refl
answer_class r next (ErrorAck code) = refl
answer_class r next (LogAck entries) = refl

module _ (w : Parties) (rd : ReadsMessages w) where
  answer_asks : (to : Address) (r : SlaveRequest) (next : ℕ) (a : SlaveAnswer) → IsNoRequest (role_heard w (send to (answer_message r next a)).bytes)
  answer_asks to r next a = answer_no_request (role_heard w (spelling (answer_message r next a))) (spelled_fits w rd (answer_message r next a) Answering (answer_class r next a))

  -- ---- notices and data

  -- a notice of a log entry is aside
  notice_aside : (master : Address) (id : ℕ) (sent : Send) → IsNotice master id sent → IsAside (role_heard w sent.bytes)
  notice_aside master id sent h =
      let P : Send → Type 0 = λ z. IsAside (role_heard w z.bytes) in
      subst P (sym h.same) (spelled_fits w rd (notice_from id h.category h.level h.text) Noting refl)

  -- several are
  notices_from_aside : (master : Address) (id : ℕ) (ps : List Send) → AreNoticesFrom master id ps → AreAside w ps
  notices_from_aside master id [] h = tt
  notices_from_aside master id (p ∷ ps) h = (notice_aside master id p h.0, notices_from_aside master id ps h.1)

  -- so is nothing
  none_aside : (ps : List Send) → ps ≡ [] → AreAside w ps
  none_aside ps e = let P : List Send → Type 0 = AreAside w in subst P (sym e) tt

  -- and what is told in any session
  notices_in_aside : (session : Session) (ps : List Send) → AreNoticesIn session ps → AreAside w ps
  notices_in_aside Before ps h = none_aside ps h
  notices_in_aside (During master id) ps h = notices_from_aside master id ps h
  notices_in_aside (After master id) ps h = notices_from_aside master id ps h

  -- notices of log entries are aside
  pub notices_aside : (y : ForeignState) (ps : List Send) → AreNotices y ps → AreAside w ps
  notices_aside y ps h = by y.inner.logs h
    where
      by : (b : Bool) → MatchBool b (AreNoticesIn y.session ps) (ps ≡ []) → AreAside w ps
      by true k = notices_in_aside y.session ps k
      by false k = none_aside ps k

  -- a new state that is told is aside
  changed_aside : (to : Address) (id : ℕ) (state : State) → IsAside (role_heard w (send to (notice_message id (Changed state))).bytes)
  changed_aside to id state = spelled_fits w rd (notice_message id (Changed state)) Noting refl

  -- a data message is aside
  parcel_aside : (d : SlaveDesc) (changes : List wiring.Change) (steps id : ℕ) (to : Address) (p : Parcel) → IsParcel d changes steps id to p → IsAside (role_heard w (parcel_send p).bytes)
  parcel_aside d changes steps id to p h =
      let P : Parcel → Type 0 = λ z. IsAside (role_heard w (parcel_send z).bytes) in
      subst P (sym h.same) (spelled_fits w rd (data_message _ id h.payload) Carrying refl)

  -- several are
  parcels_aside : (d : SlaveDesc) (changes : List wiring.Change) (steps : ℕ) (due : List ℕ) (ps : List Parcel) → AreParcels d changes steps due ps → AreAside w (map parcel_send ps)
  parcels_aside d changes steps [] ps h = none_aside (map parcel_send ps) (ap (map parcel_send) h)
  parcels_aside d changes steps (id ∷ due) ps h = by (target id changes) (λ qs k. parcels_aside d changes steps due qs k) h
    where
      by : (o : Option Address) → ((qs : List Parcel) → AreParcels d changes steps due qs → AreAside w (map parcel_send qs))
          → FirstThen o (IsParcel d changes steps id) (AreParcels d changes steps due) ps → AreAside w (map parcel_send ps)
      by None f k = f ps k
      by (Some to) f k =
          let P : List Parcel → Type 0 = λ z. AreAside w (map parcel_send z) in
          subst P (sym k.2) (parcel_aside d changes steps id to k.0 k.3, f k.1 k.4)

  -- so is all that an act sends
  act_aside : (d : SlaveDesc) (quiet : ℕ) (p : ForeignPlant) (act : ForeignAct) (ps : List Parcel) → ActSends d p act ps → (master : Address) (id : ℕ) → AreAside w (turned_sends master id (foreign_turned d quiet p act ps))
  act_aside d quiet p Stays ps h master id = tt
  act_aside d quiet p Falls ps h master id = (changed_aside master id ErrorHandling, tt)
  act_aside d quiet p Passes ps h master id = aside_joined w (map parcel_send ps) (notice_sends master id (Changed (passed p).state ∷ [])) (by (is_sending_state p.state) h) (changed_aside master id (passed p).state, tt)
    where
      by : (b : Bool) → MatchBool b (AreParcels d p.wires.changes p.steps (due_ids p.wires.changes p.steps) ps) (ps ≡ []) → AreAside w (map parcel_send ps)
      by true k = parcels_aside d p.wires.changes p.steps (due_ids p.wires.changes p.steps) ps k
      by false k = none_aside (map parcel_send ps) (ap (map parcel_send) k)

  -- all that a turn sends is aside
  pub turn_aside : (d : SlaveDesc) (c : Choice) (x : ForeignState) → IsChoice d x Tick c → AreAside w (sends (foreign d c) x Tick)
  turn_aside d c x free = by x.session free
    where
      by : (session : Session) → MatchBool (is_open session) (IsTurnChoice d (quieter x.quiet) x.inner c) (Unit {0}) → AreAside w (turn_sends (foreign d c) session x)
      by Before k = tt
      by (During master id) k = act_aside d (quieter x.quiet) x.inner c.act c.parcels k.1 master id
      by (After master id) k = tt

  -- ---- nothing of it is a request

  -- an answer sent again is no request
  again_asks : (to : Address) (served : List Exchange) → AskNothing w (map post (again to served))
  again_asks to [] = tt
  again_asks to (e ∷ served) = (answer_asks to e.request (expected (e ∷ served)) e.answer, tt)

  -- what is sent for a request is none
  request_asks : (d : SlaveDesc) (c : Choice) (x : ForeignState) (from : Address) (r : SlaveRequest) (f : Fate) → AskNothing w (map post (request_sends (foreign d c) x from r f))
  request_asks d c x from r Dropped = tt
  request_asks d c x from r (Refused code) = (answer_asks from r (expected x.served) (Nack code), tt)
  request_asks d c x from r Repeated = again_asks from x.served
  request_asks d c x from r Taken = (answer_asks from r (expected (record { request = r; answer = c.answer } ∷ x.served)) c.answer, tt)

  -- nor what is sent for any datagram
  heard_asks : (d : SlaveDesc) (c : Choice) (x : ForeignState) (from : Address) (h : Heard) → AskNothing w (map post (heard_sends (foreign d c) x from h))
  heard_asks d c x from (Asks r) = request_asks d c x from r (fate (foreign d c) x from r)
  heard_asks d c x from (Brings number id payload) = tt
  heard_asks d c x from Nothing = tt

  -- nor what is sent at any event
  event_asks : (d : SlaveDesc) (c : Choice) (x : ForeignState) (event : Event) → IsChoice d x event c → AskNothing w (map post (sends (foreign d c) x event))
  event_asks d c x (Gram from bytes) free = heard_asks d c x from (heard bytes)
  event_asks d c x Tick free = aside_ask_nothing w (sends (foreign d c) x Tick) (turn_aside d c x free)

  -- what it may send at an event asks nothing
  pub sends_ask_nothing : (d : SlaveDesc) (x y : ForeignState) (event : Event) (sent : List Send) → MaySendAt d x event sent y → AskNothing w (map post sent)
  sends_ask_nothing d x y event sent may =
      let P : List Send → Type 0 = λ z. AskNothing w (map post z) in
      subst P (sym may.sends) (ask_joined w (sends (foreign d may.choice) x event) may.notices (event_asks d may.choice x event may.free) (aside_ask_nothing w may.notices (notices_aside y may.notices may.told)))

  -- ---- answers

  -- tested bytes are bytes
  tested : (bytes : List ℕ) → list_all (λ b. nat_lt b 256) bytes ≡ true → AreBytes bytes
  tested [] h = tt
  tested (b ∷ bytes) h = let p = and_parts (nat_lt b 256) (list_all (λ b. nat_lt b 256) bytes) h in (let q = p.0 in grind (arith, nat_tests, q), tested bytes p.1)

  -- so many log entries fit into a message
  rest_length : (xs : List ℕ) → length xs ≤ 1020 → 4 + length (xs ++ []) ≤ 1024
  rest_length xs le = omega (arith, length-append xs [], le)

  -- an answer with bytes as log entries is read from its bytes
  log_reads : (r : SlaveRequest) (next : ℕ) (entries : List ℕ) → RequestFits r → AreBytes entries → length entries ≤ 1020 → message_in (spelling (answer_message r next (LogAck entries))) ≡ Some (answer_message r next (LogAck entries))
  unfolding digits
  log_reads r next entries f b le =
      let m = answer_message r next (LogAck entries) in
      let ks : List FieldKind = U16 ∷ U8 ∷ Rest ∷ [] in
      (read_as_spelled m (spelling m)).1 (has_spelling m (m.code ∷ spelled ks 0 m.values, record { kinds = ks; listed = refl; fits = (f.number, (f.receiver, (bytes_at entries b, tt))); bytes = refl; at_most = omega (arith, rest_length entries le) }))

  -- so it is an answer in a run
  log_is : (to : Address) (r : SlaveRequest) (next : ℕ) (entries : List ℕ) → RequestFits r → AreBytes entries → length entries ≤ 1020 → IsAnswer w to r next (LogAck entries)
  log_is to r next entries f b le = ap role_read (rd (spelling (answer_message r next (LogAck entries))) ∙ log_reads r next entries f b le)

  -- what is read of bytes are bytes
  read_all : (code : ℕ) (bytes : List ℕ) (p : Message) → message_in (code ∷ bytes) ≡ Some p → list_all (λ b. nat_lt b 256) bytes ≡ true
  unfolding message_in
  read_all code bytes p h = by (list_all (λ b. nat_lt b 256) (code ∷ bytes) && nat_le (length (code ∷ bytes)) 1024) refl h
    where
      by : (b : Bool) → (list_all (λ b. nat_lt b 256) (code ∷ bytes) && nat_le (length (code ∷ bytes)) 1024) ≡ b → (if b then message_with code bytes (kinds_for code) else None) ≡ Some p → list_all (λ b. nat_lt b 256) bytes ≡ true
      by true e k = (and_parts (nat_lt code 256) (list_all (λ b. nat_lt b 256) bytes) (and_parts (list_all (λ b. nat_lt b 256) (code ∷ bytes)) (nat_le (length (code ∷ bytes)) 1024) e).0).1
      by false e k = absurd cc

  -- where two lists are bytes, the last one is
  all_last : (xs ys : List ℕ) → list_all (λ b. nat_lt b 256) (xs ++ ys) ≡ true → list_all (λ b. nat_lt b 256) ys ≡ true
  all_last xs ys h = (and_parts (list_all (λ b. nat_lt b 256) xs) (list_all (λ b. nat_lt b 256) ys) (sym (list_all-append (λ b. nat_lt b 256) xs ys) ∙ h)).1

  -- how an answer with log entries is spelled
  log_spelled : (r : SlaveRequest) (next : ℕ) (entries : List ℕ) → spelling (answer_message r next (LogAck entries)) ≡ 180 ∷ (digits 2 r.number ++ (digits 1 r.receiver ++ (entries ++ [])))
  unfolding spelling
  log_spelled r next entries = refl

  -- where it is read, its log entries are bytes
  log_bytes : (r : SlaveRequest) (next : ℕ) (entries : List ℕ) (p : Message) → message_in (spelling (answer_message r next (LogAck entries))) ≡ Some p → list_all (λ b. nat_lt b 256) entries ≡ true
  log_bytes r next entries p h =
      let P : List ℕ → Type 0 = λ l. message_in l ≡ Some p in
      let Q : List ℕ → Type 0 = λ l. list_all (λ b. nat_lt b 256) l ≡ true in
      let tail : List ℕ = entries ++ [] in
      let all = read_all 180 (digits 2 r.number ++ (digits 1 r.receiver ++ tail)) p (subst P (log_spelled r next entries) h) in
      subst Q (append-nil entries) (all_last (digits 1 r.receiver) tail (all_last (digits 2 r.number) (digits 1 r.receiver ++ tail) all))

  -- an answer that nobody reads as one
  abbrev pub IsMute : SlaveAnswer → Type 0
  IsMute a = (to : Address) (r : SlaveRequest) (next : ℕ) → IsAside (role_heard w (send to (answer_message r next a)).bytes)

  -- log entries that are no bytes are read by nobody
  log_mute : (entries : List ℕ) → list_all (λ b. nat_lt b 256) entries ≡ false → IsMute (LogAck entries)
  log_mute entries h to r next = let P : Option Message → Type 0 = λ o. IsAside (role_read o) in subst P (sym (rd (spelling (answer_message r next (LogAck entries))))) (by (message_in (spelling (answer_message r next (LogAck entries)))) refl)
    where
      clash : list_all (λ b. nat_lt b 256) entries ≡ true → ⊥
      clash e = absurd cc

      by : (o : Option Message) → message_in (spelling (answer_message r next (LogAck entries))) ≡ o → IsAside (role_read o)
      by None e = tt
      by (Some p) e = absurd (clash (log_bytes r next entries p e))

  -- an answer that is read as it was meant
  abbrev pub IsRead : SlaveAnswer → Type 0
  IsRead a = (to : Address) (r : SlaveRequest) (next : ℕ) → RequestFits r → next < 65536 → IsAnswer w to r next a

  -- log entries are read as they were meant, or by nobody
  log_or : (entries : List ℕ) → length entries ≤ 1020 → IsRead (LogAck entries) ⊎ IsMute (LogAck entries)
  log_or entries le = by (list_all (λ b. nat_lt b 256) entries) refl
    where
      by : (b : Bool) → list_all (λ b. nat_lt b 256) entries ≡ b → IsRead (LogAck entries) ⊎ IsMute (LogAck entries)
      by true e = inl (λ to r next f small. log_is to r next entries f (tested entries e) le)
      by false e = inr (log_mute entries e)

  -- an answer that fits its fields is read as it was meant
  fits_read : (a : SlaveAnswer) → AnswerFits a → IsRead a
  fits_read a g to r next f small = answer_is w rd to r next a f small g

-- ---- which answers are free

-- each of these answers fits its fields
abbrev EachFits : List SlaveAnswer → Type 0
EachFits [] = Unit {0}
EachFits (a ∷ as') = AnswerFits a × EachFits as'

-- so does one of them
found : (l : List SlaveAnswer) (a : SlaveAnswer) → Contains l a → EachFits l → AnswerFits a
found [] a (k, lt, e) h = absurd (omega (arith, lt))
found (b ∷ l) a (zero, lt, e) h = let P : SlaveAnswer → Type 0 = AnswerFits in subst P e h.0
found (b ∷ l) a (suc k, lt, e) h = found l a (k, omega (arith, lt), e) h.1

-- an acknowledgement or a refusal fits
verdict_fits : (o : Option ErrorCode) → AnswerFits (verdict o)
verdict_fits None = tt
verdict_fits (Some code) = tt

-- what may be answered to a parameter fits
parameter_fit : (o : Option ErrorCode) → EachFits (parameter_answers o)
parameter_fit None = (tt, (tt, tt))
parameter_fit (Some ValueRange) = (tt, (tt, tt))
parameter_fit (Some _) = (tt, tt)

-- to a setting of the log
logging_fit : (b : Bool) (o : Option ErrorCode) → EachFits (logging_answers b o)
logging_fit true o = (verdict_fits o, tt)
logging_fit false o = (tt, (verdict_fits o, tt))

-- to any setting
setting_fit : (d : SlaveDesc) (p : ForeignPlant) (body : Cfg) → EachFits (setting_answers d p body)
setting_fit d p (cfg.Parameter vr kind value) = parameter_fit (table_refusal d p (Setting (cfg.Parameter vr kind value)))
setting_fit d p (cfg.Logging category level mode) = logging_fit _ (table_refusal d p (Setting (cfg.Logging category level mode)))
setting_fit d p body = (verdict_fits (table_refusal d p (Setting body)), tt)

-- to a question for a fault among these
codes_fit : (codes : List FaultCode) → EachFits (map (λ c. ErrorAck (fault_code c)) codes)
codes_fit [] = tt
codes_fit (c ∷ codes) = (omega (arith, fault_small c), codes_fit codes)

-- among any
fault_fit : (faults : List FaultCode) → EachFits (fault_answers faults)
fault_fit [] = (omega arith, tt)
fault_fit (code ∷ codes) = codes_fit (code ∷ codes)

-- to a question for log entries
log_fit : (category : ℕ) → EachFits (log_answers category)
log_fit category = by (is_category category)
  where
    by : (b : Bool) → EachFits (if b then Nack NotSupported ∷ [] else Nack NotSupported ∷ Nack ValueRange ∷ [])
    by true = (tt, tt)
    by false = (tt, (tt, tt))

-- to any request
answers_fit : (d : SlaveDesc) (p : ForeignPlant) (asked : Asked) → EachFits (foreign_answers d p asked)
answers_fit d p (Setting body) = setting_fit d p body
answers_fit d p (Question inf.State) = (tt, tt)
answers_fit d p (Question inf.Error) = fault_fit p.faults
answers_fit d p (Question (inf.Log category most)) = log_fit category
answers_fit d p (Change named request) = (verdict_fits (table_refusal d p (Change named request)), tt)

-- a free answer is read as it was meant, or as none
pub read_or_mute : (w : Parties) (rd : ReadsMessages w) (d : SlaveDesc) (p : ForeignPlant) (asked : Asked) (a : SlaveAnswer) → MayAnswer d p asked a → IsRead w rd a ⊎ IsMute w rd a
read_or_mute w rd d p asked (LogAck entries) h = log_or w rd entries h.1
read_or_mute w rd d p asked Ack h = inl (fits_read w rd Ack (found (foreign_answers d p asked) Ack h (answers_fit d p asked)))
read_or_mute w rd d p asked (Nack code) h = inl (fits_read w rd (Nack code) (found (foreign_answers d p asked) (Nack code) h (answers_fit d p asked)))
read_or_mute w rd d p asked (StateAck state) h = inl (fits_read w rd (StateAck state) (found (foreign_answers d p asked) (StateAck state) h (answers_fit d p asked)))
read_or_mute w rd d p asked (ErrorAck code) h = inl (fits_read w rd (ErrorAck code) (found (foreign_answers d p asked) (ErrorAck code) h (answers_fit d p asked)))
