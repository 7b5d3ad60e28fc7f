-- The slave's end of its conversation with the master, over any machine that answers requests, has turns and takes data. The
-- transport numbers the requests, gives the answer kept to a repeated one, and keeps the session; it knows nothing of states.
use Rattle.std.specs.Prelude.{ℕ, ◌+◌, ◌-◌, ◌%◌, ◌^◌, min, ◌==◌, ◌&&◌, Bool, true, false, List, [], ◌∷◌, ◌++◌, map, length, Option, Some, None, if◌then◌else◌}
use Rattle.dcp_types.specs.declared.addresses.Address.{Address}
use Rattle.dcp_types.specs.declared.states.State.{State}
use Rattle.dcp_types.specs.declared.error_codes.ErrorCode.{ErrorCode}
use Rattle.dcp_types.specs.declared.error_codes.ErrorCode.TheVariants.{Sequence}
use Rattle.dcp_types.specs.Codes.{state_code, error_code}
use Rattle.dcp_ends.specs.Events.{Event, Gram, Tick, Send}
use Rattle.pdu_layout.specs.declared.messages.Stc.TheVariants as stc
use Rattle.pdu_layout.specs.Fields.FieldValue.{Number, Bytes}
use Rattle.pdu_layout.specs.Message.{Message}
use Rattle.pdu_layout.specs.Reading.{spelling}
use Rattle.seq_window.specs.declared.places.Place.{Place}
use Rattle.seq_window.specs.declared.places.Place.TheVariants.{Next, Repeat, Old, Ahead}
use Rattle.seq_window.specs.Window.{place}
use Rattle.slave_log.specs.declared.lines.LogLine.{LogLine}
use Rattle.slave_log.specs.Shelves.{notice_bytes}
pub use Rattle.slave_spec.specs.declared.words.Session.{Session}
pub use Rattle.slave_spec.specs.declared.words.Session.TheVariants.{Before, During, After}
pub use Rattle.slave_spec.specs.declared.words.Fate.{Fate}
pub use Rattle.slave_spec.specs.declared.words.Fate.TheVariants.{Dropped, Refused, Repeated, Taken}
use Rattle.slave_spec.specs.Heard.{Asked, Change, Setting, Question, SlaveRequest, Heard, Asks, Brings, Nothing, heard}

-- what an answer says; a fault is told by its code, and entries by their bytes
pub data SlaveAnswer : Type 0 where
  Ack : SlaveAnswer
  Nack : ErrorCode → SlaveAnswer
  StateAck : State → SlaveAnswer
  ErrorAck : ℕ → SlaveAnswer
  LogAck : List ℕ → SlaveAnswer

-- a request that was taken, and the answer to it
pub record Exchange : Type 0 where
  pub request : SlaveRequest
  pub answer : SlaveAnswer

-- what a slave tells on its own
pub data Notice : Type 0 where
  Changed : State → Notice
  Noted : LogLine → Notice

-- a message to another end
pub record Parcel : Type 0 where
  pub to : Address
  pub message : Message

-- what a request makes of a machine, and what a turn makes of it
pub record Answered (S : Type 0) : Type 0 where
  pub answer : SlaveAnswer
  pub notices : List Notice
  pub after : S

pub record Turned (S : Type 0) : Type 0 where
  pub parcels : List Parcel
  pub notices : List Notice
  pub after : S

-- A machine: where it starts, why it refuses to begin a session with a request, how it answers a request that is taken, what it
-- does at a turn after so many quiet ones (this one counted), and what it keeps of a data message.
pub record Machine (S : Type 0) : Type 0 where
  pub start : S
  pub refuses : Asked → Option ErrorCode
  pub answers : Asked → S → Answered S
  pub turns : (quiet : ℕ) → S → Turned S
  pub brings : Address → (number id : ℕ) → List ℕ → S → S

-- the requests that were taken, each with its answer, the newest first; and the turns since the last of them
pub record SlaveState (S : Type 0) : Type 0 where
  pub session : Session
  pub served : List Exchange
  pub quiet : ℕ
  pub inner : S

abbrev pub fresh : {S : Type 0} → Machine S → SlaveState S
fresh m = record { session = Before; served = []; quiet = 0; inner = m.start }

-- the number of the next request, of sixteen bits
abbrev pub expected : List Exchange → ℕ
expected served = length served % 65536

abbrev pub is_register : Asked → Bool
is_register (Change named (stc.Register uuid op_mode major minor)) = true
is_register asked = false

abbrev pub admitted : Option ErrorCode → Fate
admitted None = Taken
admitted (Some code) = Refused code

abbrev pub placed : Place → Fate
placed Next = Taken
placed Repeat = Repeated
placed Old = Dropped
placed Ahead = Refused Sequence

abbrev pub placed_late : Place → Fate
placed_late Repeat = Repeated
placed_late p = Dropped

abbrev pub same_address : Address → Address → Bool
same_address a b = (a.ip == b.ip) && (a.port == b.port)

abbrev pub fate_in : {S : Type 0} → Machine S → Session → List Exchange → Address → SlaveRequest → Fate
fate_in m Before served from r = if is_register r.asked && (r.number == 0) then admitted (m.refuses r.asked) else Dropped
fate_in m (During master id) served from r =
    if same_address from master && (r.receiver == id) then placed (place r.number (expected served)) else Dropped
fate_in m (After master id) served from r =
    if same_address from master && (r.receiver == id) then placed_late (place r.number (expected served)) else Dropped

abbrev pub fate : {S : Type 0} → Machine S → SlaveState S → Address → SlaveRequest → Fate
fate m x from r = fate_in m x.session x.served from r

abbrev pub is_last : Asked → SlaveAnswer → Bool
is_last (Change named stc.Deregister) Ack = true
is_last asked answer = false

abbrev pub session_after : Session → Address → SlaveRequest → SlaveAnswer → Session
session_after Before from r answer = During from r.receiver
session_after (During master id) from r answer = if is_last r.asked answer then After master id else During master id
session_after (After master id) from r answer = After master id

abbrev pub taken_with : {S : Type 0} → SlaveState S → Address → SlaveRequest → Answered S → SlaveState S
taken_with x from r a = record {
  session = session_after x.session from r a.answer;
  served = record { request = r; answer = a.answer } ∷ x.served;
  quiet = 0;
  inner = a.after;
}

abbrev pub after_request : {S : Type 0} → Machine S → SlaveState S → Address → SlaveRequest → Fate → SlaveState S
after_request m x from r Dropped = x
after_request m x from r (Refused code) = x
after_request m x from r Repeated = x
after_request m x from r Taken = taken_with x from r (m.answers r.asked x.inner)

abbrev pub is_open : Session → Bool
is_open Before = false
is_open (During master id) = true
is_open (After master id) = false

abbrev pub after_heard : {S : Type 0} → Machine S → SlaveState S → Address → Heard → SlaveState S
after_heard m x from (Asks r) = after_request m x from r (fate m x from r)
after_heard m x from (Brings number id payload) = if is_open x.session then record x { inner = m.brings from number id payload x.inner } else x
after_heard m x from Nothing = x

-- one more turn without a request; the count stands still at its last number
abbrev pub quieter : ℕ → ℕ
quieter quiet = min (quiet + 1) (2 ^ 32 - 1)

abbrev pub after_turn : {S : Type 0} → Machine S → SlaveState S → SlaveState S
after_turn m x = if is_open x.session then record x { quiet = quieter x.quiet; inner = (m.turns (quieter x.quiet) x.inner).after } else x

-- one event
abbrev pub after : {S : Type 0} → Machine S → SlaveState S → Event → SlaveState S
after m x (Gram from bytes) = after_heard m x from (heard bytes)
after m x Tick = after_turn m x

-- all events, the oldest first
abbrev pub after_all : {S : Type 0} → Machine S → SlaveState S → List Event → SlaveState S
after_all m x [] = x
after_all m x (event ∷ events) = after_all m (after m x event) events

-- where a slave stands after its whole list of events
abbrev pub slave : {S : Type 0} → Machine S → List Event → SlaveState S
slave m events = after_all m (fresh m) events

-- the requests that it took, the newest first
abbrev pub taken : {S : Type 0} → Machine S → List Event → List SlaveRequest
taken m events = map (λ e. e.request) (slave m events).served

-- The messages. An answer has the number of its request, and its receiver as the sender.
abbrev pub answer_message : SlaveRequest → (next : ℕ) → SlaveAnswer → Message
answer_message r next Ack = record { code = 176; values = Number r.number ∷ Number r.receiver ∷ [] }
answer_message r next (Nack code) = record { code = 177; values = Number r.number ∷ Number r.receiver ∷ Number next ∷ Number (error_code code) ∷ [] }
answer_message r next (StateAck state) = record { code = 178; values = Number r.number ∷ Number r.receiver ∷ Number (state_code state) ∷ [] }
answer_message r next (ErrorAck code) = record { code = 179; values = Number r.number ∷ Number r.receiver ∷ Number code ∷ [] }
answer_message r next (LogAck entries) = record { code = 180; values = Number r.number ∷ Number r.receiver ∷ Bytes entries ∷ [] }

abbrev pub notice_message : (id : ℕ) → Notice → Message
notice_message id (Changed state) = record { code = 224; values = Number id ∷ Number (state_code state) ∷ [] }
notice_message id (Noted e) = record { code = 225; values = Number id ∷ Number e.category ∷ Number e.level ∷ Bytes (notice_bytes e) ∷ [] }

abbrev pub send : Address → Message → Send
send to message = record { to = to; bytes = spelling message }

abbrev pub notice_sends : Address → (id : ℕ) → List Notice → List Send
notice_sends to id notices = map (λ notice. send to (notice_message id notice)) notices

abbrev pub parcel_send : Parcel → Send
parcel_send p = send p.to p.message

-- the answer to the newest request that was taken
abbrev pub again : Address → List Exchange → List Send
again to [] = []
again to (e ∷ served) = send to (answer_message e.request (expected (e ∷ served)) e.answer) ∷ []

-- what is sent for a taken request: the answer, in which the next number is already the one after it, and then what is told besides
abbrev pub answer_sends : {S : Type 0} → SlaveState S → Address → SlaveRequest → Answered S → List Send
answer_sends x from r a =
    send from (answer_message r (expected (record { request = r; answer = a.answer } ∷ x.served)) a.answer) ∷ notice_sends from r.receiver a.notices

abbrev pub request_sends : {S : Type 0} → Machine S → SlaveState S → Address → SlaveRequest → Fate → List Send
request_sends m x from r Dropped = []
request_sends m x from r (Refused code) = send from (answer_message r (expected x.served) (Nack code)) ∷ []
request_sends m x from r Repeated = again from x.served
request_sends m x from r Taken = answer_sends x from r (m.answers r.asked x.inner)

abbrev pub heard_sends : {S : Type 0} → Machine S → SlaveState S → Address → Heard → List Send
heard_sends m x from (Asks r) = request_sends m x from r (fate m x from r)
heard_sends m x from (Brings number id payload) = []
heard_sends m x from Nothing = []

-- data messages go first, then what is told to the master
abbrev pub turned_sends : {S : Type 0} → Address → (id : ℕ) → Turned S → List Send
turned_sends master id t = map parcel_send t.parcels ++ notice_sends master id t.notices

abbrev pub turn_sends : {S : Type 0} → Machine S → Session → SlaveState S → List Send
turn_sends m Before x = []
turn_sends m (During master id) x = turned_sends master id (m.turns (quieter x.quiet) x.inner)
turn_sends m (After master id) x = []

-- what a slave sends at an event
abbrev pub sends : {S : Type 0} → Machine S → SlaveState S → Event → List Send
sends m x (Gram from bytes) = heard_sends m x from (heard bytes)
sends m x Tick = turn_sends m x.session x
