-- The slave of the definition as the laws over a run see it: what it has served, and what it owes.
use Rattle.std.specs.Prelude.{◌≡◌, ℕ, ◌<◌, ◌==◌, ◌&&◌, Bool, false, if◌then◌else◌, Option, Some, None, List, [], ◌∷◌, ◌++◌, map}
use Rattle.dcp_types.specs.declared.addresses.Address.{Address}
use Rattle.dcp_types.specs.declared.error_codes.ErrorCode.{ErrorCode}
use Rattle.dcp_ends.specs.Events.{Event, Gram, Tick, Send}
use Rattle.log_spec.specs.Messages.{Note, Role, Request, Answer, Value, Else}
use Rattle.dcp_ends.specs.declared.entries.LogEntry.{LogEntry}
use Rattle.dcp_ends.specs.declared.entries.LogEntry.TheVariants.{Sent, Got, Idle, Turn}
use Rattle.log_spec.specs.Log.{Parties, same, role_heard, DecidedRequest}
use Rattle.log_spec.specs.Moves.{Move, Asks, Comes, Tells, Hears, Brings, Turns, Rests, Other, move}
use Rattle.lockstep_laws.specs.Slaves.{Post, Desk, tail}
use Rattle.lockstep_laws.specs.Steps.{event_asked}
use Rattle.slave_laws.specs.Talk.Plants.{event_wanted}
use Rattle.slave_spec.specs.Heard as spec
use Rattle.slave_spec.specs.Transport as transport
use Rattle.slave_spec.specs.Transport.{Machine, SlaveState, Answered, Turned}
use Rattle.slave_spec.specs.declared.words.SlaveRequest as req
use Rattle.slave_spec.specs.declared.words.Asked as ask
use Rattle.slave_spec.specs.declared.words.Session.TheVariants.{During}
use Rattle.slave_spec.specs.declared.words.Fate.{Fate}
use Rattle.slave_spec.specs.declared.words.Fate.TheVariants.{Dropped, Refused, Repeated, Taken}

abbrev pub post : Send → Post
post p = record { to = p.to; bytes = p.bytes }

-- the answer to a request as a numbered message
abbrev pub answer_note : req.SlaveRequest → ℕ → transport.SlaveAnswer → Note
answer_note r next a = record { number = r.number; message = transport.answer_message r next a }

abbrev pub served_with : {S : Type 0} → SlaveState S → List DecidedRequest → Note → req.SlaveRequest → Answered S → List DecidedRequest
served_with x es n r a = record { request = n; answer = answer_note r (transport.expected (record { request = r; answer = a.answer } ∷ x.served)) a.answer } ∷ es

abbrev pub served_by : {S : Type 0} → Machine S → SlaveState S → List DecidedRequest → Note → req.SlaveRequest → Fate → List DecidedRequest
served_by m x es n r Taken = served_with x es n r (m.answers r.asked x.inner)
served_by m x es n r Dropped = es
served_by m x es n r (Refused code) = es
served_by m x es n r Repeated = es

abbrev pub served_after : {S : Type 0} → Machine S → SlaveState S → List DecidedRequest → Address → Role → spec.Heard → List DecidedRequest
served_after m x es from (Request receiver n) (spec.Asks r) = served_by m x es n r (transport.fate m x from r)
served_after m x es from _ _ = es

-- the slave of the definition, and its desk
pub record Both (S : Type 0) : Type 0 where
  pub slave : SlaveState S
  pub desk : Desk

module _ {S : Type 0} (m : Machine S) (w : Parties) (s : ℕ) where
  abbrev pub got : Address → List ℕ → Both S → Both S
  got from bytes x = record {
    slave = transport.after m x.slave (Gram from bytes);
    desk = record { served = served_after m x.slave x.desk.served from (role_heard w bytes) (spec.heard bytes); owed = map post (transport.sends m x.slave (Gram from bytes)) };
  }

  abbrev pub ticked : Both S → Both S
  ticked x = record { slave = transport.after m x.slave Tick; desk = record { served = x.desk.served; owed = map post (transport.sends m x.slave Tick) } }

  abbrev pub told : Both S → Both S
  told x = record { slave = x.slave; desk = record { served = x.desk.served; owed = tail x.desk.owed } }

  abbrev pub sent_next : Move → Both S → Both S
  sent_next (Tells to bytes) x = told x
  sent_next (Asks n) x = x
  sent_next (Comes from receiver n) x = x
  sent_next (Hears n) x = x
  sent_next (Brings from id n) x = x
  sent_next Turns x = x
  sent_next Rests x = x
  sent_next Other x = x

  abbrev pub next : LogEntry → Both S → Both S
  next (Sent from to bytes) x = sent_next (move w s (Sent from to bytes)) x
  next (Got at from bytes) x = if same at (w.slave s) then got from bytes x else x
  next (Idle at) x = x
  next (Turn at) x = if same at (w.slave s) then ticked x else x

  -- after a log, the newest entry first
  abbrev pub at : List LogEntry → Both S
  at [] = record { slave = transport.fresh m; desk = record { served = []; owed = [] } }
  at (e ∷ log) = next e (at log)

  abbrev pub desk_at : List LogEntry → Desk
  desk_at log = (at log).desk

-- the register that the slave accepts, read off the message
abbrev pub accepts_asked : {S : Type 0} → Machine S → ℕ → ask.Asked → Option ErrorCode → Bool
accepts_asked m number asked None = transport.is_register asked && (number == 0)
accepts_asked m number asked (Some code) = false

abbrev pub accepts_heard : {S : Type 0} → Machine S → spec.Heard → Bool
accepts_heard m (spec.Asks r) = accepts_asked m r.number r.asked (m.refuses r.asked)
accepts_heard m (spec.Brings number id payload) = false
accepts_heard m spec.Nothing = false

abbrev pub accepts_note : {S : Type 0} → Machine S → Note → Bool
accepts_note m n = accepts_heard m (spec.heard_as (Some n.message))

-- ---- what is wanted of messages and their bytes

-- both readings of a datagram agree
abbrev pub Agree : Role → spec.Heard → Type 0
Agree (Request receiver n) (spec.Asks r) = (r.number ≡ n.number) × (n.number < 65536) × (spec.heard_as (Some n.message) ≡ spec.Asks r) × (event_asked n ≡ event_wanted r.asked)
Agree (Answer sender n) spec.Nothing = Unit {0}
Agree (Value id n) (spec.Brings number i payload) = Unit {0}
Agree Else spec.Nothing = Unit {0}
Agree _ _ = ⊥

-- data messages are read as data
abbrev pub AreData : Parties → List transport.Parcel → Type 0
AreData w [] = Unit {0}
AreData w (p ∷ ps) = ((id : ℕ) × (n : Note) × (role_heard w (transport.parcel_send p).bytes ≡ Value id n)) × AreData w ps

-- notices are read as neither
abbrev pub AreElse : Parties → List Send → Type 0
AreElse w [] = Unit {0}
AreElse w (p ∷ ps) = (role_heard w p.bytes ≡ Else) × AreElse w ps

abbrev pub IsAnswer : Parties → Address → req.SlaveRequest → ℕ → transport.SlaveAnswer → Type 0
IsAnswer w to r next a = role_heard w (transport.send to (transport.answer_message r next a)).bytes ≡ Answer r.receiver (answer_note r next a)

abbrev pub AreAnswersKept : Parties → Address → List transport.Exchange → Type 0
AreAnswersKept w to [] = Unit {0}
AreAnswersKept w to (e ∷ served) = IsAnswer w to e.request (transport.expected (e ∷ served)) e.answer

-- what this slave sends at its next event is read as it was meant: answers as answers, data as data, and notices as neither
pub record IsReadBack {S : Type 0} (m : Machine S) (w : Parties) (x : SlaveState S) : Type 0 where
  pub answer : (bytes : List ℕ) (r : req.SlaveRequest) → spec.heard bytes ≡ spec.Asks r → (to : Address)
      → IsAnswer w to r (transport.expected (record { request = r; answer = (m.answers r.asked x.inner).answer } ∷ x.served)) (m.answers r.asked x.inner).answer × AreElse w (transport.notice_sends to r.receiver (m.answers r.asked x.inner).notices)
  pub refusal : (bytes : List ℕ) (r : req.SlaveRequest) → spec.heard bytes ≡ spec.Asks r → (to : Address) (code : ErrorCode) → IsAnswer w to r (transport.expected x.served) (transport.Nack code)
  pub again : (to : Address) → AreAnswersKept w to x.served
  pub turn : (master : Address) (id : ℕ) → x.session ≡ During master id
      → AreData w (m.turns (transport.quieter x.quiet) x.inner).parcels × AreElse w (transport.notice_sends master id (m.turns (transport.quieter x.quiet) x.inner).notices)

-- ---- the events of the slave in the order in which they happened
abbrev pub event_of : Parties → ℕ → LogEntry → List Event
event_of w s (Sent from to bytes) = []
event_of w s (Got at from bytes) = if same at (w.slave s) then Gram from bytes ∷ [] else []
event_of w s (Idle at) = []
event_of w s (Turn at) = if same at (w.slave s) then Tick ∷ [] else []

abbrev pub events_of_slave : Parties → ℕ → List LogEntry → List Event
events_of_slave w s [] = []
events_of_slave w s (e ∷ log) = events_of_slave w s log ++ event_of w s e

-- both readings of each datagram agree, and what the slave sends is read back, wherever it stands
pub record ReadsAnswersBack {S : Type 0} (m : Machine S) (w : Parties) (s : ℕ) : Type 0 where
  pub agree : (bytes : List ℕ) → Agree (role_heard w bytes) (spec.heard bytes)
  pub sends : (log : List LogEntry) → IsReadBack m w (at m w s log).slave
