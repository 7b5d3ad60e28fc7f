-- A slave whose model is not known: what it may answer, and what it may do at a turn. All that does not hang on the model is
-- the slave of the definitions.
use Rattle.std.specs.Prelude.{◌≡◌, ℕ, ◌≤◌, ◌%◌, ◌==◌, not, Bool, true, false, List, [], ◌∷◌, ◌++◌, length, map, filter, sum_by, Option, Some, None, if◌then◌else◌, MatchBool}
use Rattle.std.specs.List.{Contains}
use Rattle.dcp_types.specs.declared.addresses.Address.{Address}
use Rattle.dcp_types.specs.declared.states.State.{State}
use Rattle.dcp_types.specs.declared.states.State.TheVariants.{Alive, Initializing, Computing, ErrorHandling}
use Rattle.dcp_types.specs.declared.error_codes.ErrorCode.{ErrorCode}
use Rattle.dcp_types.specs.declared.error_codes.ErrorCode.TheVariants.{NotSupported, ValueRange}
use Rattle.dcp_types.specs.declared.fault_codes.FaultCode.{FaultCode}
use Rattle.dcp_types.specs.declared.fault_codes.FaultCode.TheVariants.{ModelOverflow, DivideByZero, OutOfRange, HeartbeatMissed}
use Rattle.dcp_types.specs.Codes.{fault_code}
use Rattle.dcp_types.specs.Values.{width}
use Rattle.dcp_ends.specs.Events.{Event, Gram, Tick, Send}
use Rattle.pdu_layout.specs.declared.messages.Cfg.{Cfg}
use Rattle.pdu_layout.specs.declared.messages.Cfg.TheVariants as cfg
use Rattle.pdu_layout.specs.declared.messages.Inf.TheVariants as inf
use Rattle.pdu_layout.specs.Message.{Message}
use Rattle.pdu_layout.specs.Fields.FieldValue.{Number, Bytes}
use Rattle.slave_desc.specs.declared.descriptions.SlaveDesc.{SlaveDesc}
use Rattle.slave_states.specs.Transitions.{is_passing, next_on_turn}
use Rattle.slave_spec.specs.Changes as wiring
use Rattle.slave_spec.specs.Changes.{output, ids, entries, target, is_due, ordinal}
use Rattle.slave_spec.specs.Payloads.{WiringState, bare_wires, types_in, data_message, brought}
use Rattle.slave_spec.specs.declared.words.SlaveSetup.{SlaveSetup}
use Rattle.slave_spec.specs.declared.words.SlaveRequest.{SlaveRequest}
use Rattle.slave_spec.specs.declared.words.Asked.{Asked}
use Rattle.slave_spec.specs.declared.words.Asked.TheVariants.{Setting, Question}
use Rattle.slave_spec.specs.declared.words.Session.{Session}
use Rattle.slave_spec.specs.declared.words.Session.TheVariants.{Before, During, After}
use Rattle.slave_spec.specs.declared.words.Fate.{Fate}
use Rattle.slave_spec.specs.declared.words.Fate.TheVariants.{Taken}
use Rattle.slave_spec.specs.Heard.{Heard, Asks, Brings, Nothing, heard}
use Rattle.slave_spec.specs.Transport.{Machine, SlaveState, SlaveAnswer, Ack, Nack, StateAck, ErrorAck, LogAck, Changed, Parcel, Turned, fate, after, sends, send, answer_message, expected, taken_with, quieter, is_open}
use Rattle.slave_spec.specs.Plants.{Plant, start_plant}
use Rattle.slave_spec.specs.Requests.{register_refusal, refusal, accepted, is_in_error, is_category}
use Rattle.slave_spec.specs.Turns.{is_missed, is_sending_state, sent_after, counted, is_listening}

-- What is known of the machine.
pub record ForeignPlant : Type 0 where
  pub state : State
  pub steps : ℕ
  pub outputs_sent : Bool
  pub wires : WiringState
  -- the codes of which an answer may name one as the fault; none where there was no fault
  pub faults : List FaultCode
  -- a setting of the log was accepted
  pub logs : Bool

abbrev pub start_foreign : ForeignPlant
start_foreign = record { state = Alive; steps = 0; outputs_sent = false; wires = bare_wires; faults = []; logs = false }

-- ---- what it may answer

-- a slave of the definitions that stands there; its model and its log are those at first, and count for nothing
abbrev pub setup_for : SlaveDesc → SlaveSetup
setup_for d = record { desc = d; micro = 1 }

abbrev pub known_plant : SlaveDesc → ForeignPlant → Plant
known_plant d p = record (start_plant (setup_for d)) { state = p.state; steps = p.steps; outputs_sent = p.outputs_sent; wires = p.wires }

-- by the table of refusals
abbrev pub table_refusal : SlaveDesc → ForeignPlant → Asked → Option ErrorCode
table_refusal d p asked = refusal (setup_for d) (known_plant d p) asked

abbrev pub verdict : Option ErrorCode → SlaveAnswer
verdict None = Ack
verdict (Some code) = Nack code

-- a parameter that the description has, in its type, is accepted or is out of range: nobody knows what the model takes
abbrev pub parameter_answers : Option ErrorCode → List SlaveAnswer
parameter_answers None = Ack ∷ Nack ValueRange ∷ []
parameter_answers (Some ValueRange) = Ack ∷ Nack ValueRange ∷ []
parameter_answers (Some code) = Nack code ∷ []

-- a slave may have no log: then it says so where it would look at the state, but not before an error
abbrev pub logging_answers : (in_error : Bool) → Option ErrorCode → List SlaveAnswer
logging_answers true refused = verdict refused ∷ []
logging_answers false refused = Nack NotSupported ∷ verdict refused ∷ []

abbrev pub setting_answers : SlaveDesc → ForeignPlant → Cfg → List SlaveAnswer
setting_answers d p (cfg.Parameter vr kind value) = parameter_answers (table_refusal d p (Setting (cfg.Parameter vr kind value)))
setting_answers d p (cfg.Logging category level mode) = logging_answers (is_in_error p.state) (table_refusal d p (Setting (cfg.Logging category level mode)))
setting_answers d p body = verdict (table_refusal d p (Setting body)) ∷ []

-- no fault, or one of these
abbrev pub fault_answers : List FaultCode → List SlaveAnswer
fault_answers [] = ErrorAck 0 ∷ []
fault_answers (code ∷ codes) = map (λ c. ErrorAck (fault_code c)) (code ∷ codes)

-- without a log, or with one; the entries that it hands out are not among these
abbrev pub log_answers : (category : ℕ) → List SlaveAnswer
log_answers category = if is_category category then Nack NotSupported ∷ [] else Nack NotSupported ∷ Nack ValueRange ∷ []

-- what may be answered to a request that was taken, but for log entries
abbrev pub foreign_answers : SlaveDesc → ForeignPlant → Asked → List SlaveAnswer
foreign_answers d p (Setting body) = setting_answers d p body
foreign_answers d p (Question inf.State) = StateAck p.state ∷ []
foreign_answers d p (Question inf.Error) = fault_answers p.faults
foreign_answers d p (Question (inf.Log category most)) = log_answers category
foreign_answers d p asked = verdict (table_refusal d p asked) ∷ []

-- it may be answered with log entries: any bytes, so many that they fit into a message
abbrev pub hands_out : Asked → Bool
hands_out (Question (inf.Log category most)) = is_category category
hands_out asked = false

abbrev pub MayAnswer : SlaveDesc → ForeignPlant → Asked → SlaveAnswer → Type 0
MayAnswer d p asked (LogAck entries) = (hands_out asked ≡ true) × (length entries ≤ 1020)
MayAnswer d p asked answer = Contains (foreign_answers d p asked) answer

abbrev pub logs_after : Asked → Bool → Bool
logs_after (Setting (cfg.Logging category level mode)) before = true
logs_after asked before = before

-- an accepted request, by the table
abbrev pub taken_over : Asked → ForeignPlant → Plant → ForeignPlant
taken_over asked p q =
    record p { state = q.state; steps = q.steps; outputs_sent = q.outputs_sent; wires = q.wires; logs = logs_after asked p.logs }

-- after an answer; a fault that was named is the fault
abbrev pub foreign_answered : SlaveDesc → ForeignPlant → Asked → SlaveAnswer → ForeignPlant
foreign_answered d p asked Ack = taken_over asked p (accepted (setup_for d) (known_plant d p) asked)
foreign_answered d p asked (ErrorAck code) = record p { faults = filter (λ c. fault_code c == code) p.faults }
foreign_answered d p asked answer = p

-- ---- what it may do at a turn

-- it stays as it is, passes on to the next state, or falls into the error state
pub data ForeignAct : Type 0 where
  Stays : ForeignAct
  Passes : ForeignAct
  Falls : ForeignAct

-- a step is computed for any number of turns, and may fault; initial outputs may fault; the other states are as the table has them
abbrev pub may_turn : State → ForeignAct → Bool
may_turn Computing act = true
may_turn Initializing Stays = false
may_turn Initializing act = true
may_turn state Stays = not (is_passing state)
may_turn state Passes = is_passing state
may_turn state Falls = false

abbrev pub is_fall : ForeignAct → Bool
is_fall Falls = true
is_fall act = false

-- a missed heartbeat is a fault whatever the model does
abbrev pub may_act : SlaveDesc → (quiet : ℕ) → State → ForeignAct → Bool
may_act d quiet state act = if is_missed d state quiet then is_fall act else may_turn state act

-- the faults of a model in a state
abbrev pub model_faults : State → List FaultCode
model_faults Computing = ModelOverflow ∷ DivideByZero ∷ OutOfRange ∷ []
model_faults Initializing = OutOfRange ∷ []
model_faults state = []

abbrev pub turn_faults : SlaveDesc → (quiet : ℕ) → State → List FaultCode
turn_faults d quiet state = if is_missed d state quiet then HeartbeatMissed ∷ [] else model_faults state

abbrev pub steps_passed : State → ℕ → ℕ
steps_passed Computing steps = counted steps
steps_passed state steps = steps

abbrev pub passed : ForeignPlant → ForeignPlant
passed p = record p { state = next_on_turn p.state 0; steps = steps_passed p.state p.steps; outputs_sent = sent_after p.state p.outputs_sent }

abbrev pub fallen : SlaveDesc → (quiet : ℕ) → ForeignPlant → ForeignPlant
fallen d quiet p = record p { state = ErrorHandling; faults = turn_faults d quiet p.state }

-- what a turn makes of it; a state that is newly reached is told after the data
abbrev pub foreign_turned : SlaveDesc → (quiet : ℕ) → ForeignPlant → ForeignAct → List Parcel → Turned ForeignPlant
foreign_turned d quiet p Stays ps = record { parcels = []; notices = []; after = p }
foreign_turned d quiet p Passes ps = record { parcels = ps; notices = Changed (passed p).state ∷ []; after = passed p }
foreign_turned d quiet p Falls ps = record { parcels = []; notices = Changed ErrorHandling ∷ []; after = fallen d quiet p }

-- how many bytes the values of an output id have
abbrev pub values_size : SlaveDesc → List wiring.Change → ℕ → ℕ
values_size d changes id = sum_by width (types_in d.outputs (entries output id changes))

-- a data message of an id: it has its number and its length, and any bytes as values
pub record IsParcel (d : SlaveDesc) (changes : List wiring.Change) (steps id : ℕ) (to : Address) (parcel : Parcel) : Type 0 where
  pub payload : List ℕ
  pub same : parcel ≡ record { to = to; message = data_message (ordinal output id changes steps % 65536) id payload }
  pub size : length payload ≡ values_size d changes id

-- one parcel and then more, where there is an address to which it goes
abbrev pub FirstThen : Option Address → (Address → Parcel → Type 0) → (List Parcel → Type 0) → List Parcel → Type 0
FirstThen None IsFirst AreMore ps = AreMore ps
FirstThen (Some to) IsFirst AreMore ps = (first : Parcel) × (more : List Parcel) × (ps ≡ first ∷ more) × IsFirst to first × AreMore more

-- a data message of each of these ids, in order
abbrev pub AreParcels : SlaveDesc → List wiring.Change → (steps : ℕ) → List ℕ → List Parcel → Type 0
AreParcels d changes steps [] ps = ps ≡ []
AreParcels d changes steps (id ∷ ids) ps = FirstThen (target id changes) (IsParcel d changes steps id) (AreParcels d changes steps ids) ps

-- the ids of which a message is due
abbrev pub due_ids : List wiring.Change → (steps : ℕ) → List ℕ
due_ids changes steps = filter (λ id. is_due output id changes steps) (ids output changes)

-- what is sent in a sending state
abbrev pub SendsData : SlaveDesc → ForeignPlant → List Parcel → Type 0
SendsData d p ps = MatchBool (is_sending_state p.state) (AreParcels d p.wires.changes p.steps (due_ids p.wires.changes p.steps) ps) (ps ≡ [])

abbrev pub ActSends : SlaveDesc → ForeignPlant → ForeignAct → List Parcel → Type 0
ActSends d p Stays ps = ps ≡ []
ActSends d p Passes ps = SendsData d p ps
ActSends d p Falls ps = ps ≡ []

-- ---- what it may send at an event

-- What is free at an event: an answer, or what a turn does and the data messages that it sends.
pub record Choice : Type 0 where
  pub answer : SlaveAnswer
  pub act : ForeignAct
  pub parcels : List Parcel

abbrev pub foreign_brings : SlaveDesc → Address → (number id : ℕ) → List ℕ → ForeignPlant → ForeignPlant
foreign_brings d from number id payload p =
    if is_listening p.state then record p { wires = brought d p.wires from number id payload p.steps } else p

-- the machine that chooses so
abbrev pub foreign : SlaveDesc → Choice → Machine ForeignPlant
foreign d c = record {
  start = start_foreign;
  refuses = register_refusal d.uuid;
  answers = λ asked p. record { answer = c.answer; notices = []; after = foreign_answered d p asked c.answer };
  turns = λ quiet p. foreign_turned d quiet p c.act c.parcels;
  brings = foreign_brings d;
}

abbrev pub ForeignState : Type 0
ForeignState = SlaveState ForeignPlant

abbrev pub IsFateChoice : SlaveDesc → ForeignPlant → Asked → Fate → Choice → Type 0
IsFateChoice d p asked Taken c = MayAnswer d p asked c.answer
IsFateChoice d p asked fate' c = Unit {0}

abbrev pub IsHeardChoice : SlaveDesc → ForeignState → Address → Heard → Choice → Type 0
IsHeardChoice d x from (Asks r) c = IsFateChoice d x.inner r.asked (fate (foreign d c) x from r) c
IsHeardChoice d x from (Brings number id payload) c = Unit {0}
IsHeardChoice d x from Nothing c = Unit {0}

abbrev pub IsTurnChoice : SlaveDesc → (quiet : ℕ) → ForeignPlant → Choice → Type 0
IsTurnChoice d quiet p c = (may_act d quiet p.state c.act ≡ true) × ActSends d p c.act c.parcels

-- this is free at an event
abbrev pub IsChoice : SlaveDesc → ForeignState → Event → Choice → Type 0
IsChoice d x (Gram from bytes) c = IsHeardChoice d x from (heard bytes) c
IsChoice d x Tick c = MatchBool (is_open x.session) (IsTurnChoice d (quieter x.quiet) x.inner c) (Unit {0})

-- a notice of a log entry, from the slave with this id
abbrev pub notice_from : (id category level : ℕ) → List ℕ → Message
notice_from id category level text = record { code = 225; values = Number id ∷ Number category ∷ Number level ∷ Bytes text ∷ [] }

-- any such notice that fits into a message
pub record IsNotice (master : Address) (id : ℕ) (sent : Send) : Type 0 where
  pub category : ℕ
  pub level : ℕ
  pub text : List ℕ
  pub few : length text ≤ 1020
  pub same : sent ≡ send master (notice_from id category level text)

abbrev pub AreNoticesFrom : Address → (id : ℕ) → List Send → Type 0
AreNoticesFrom master id [] = Unit {0}
AreNoticesFrom master id (notice ∷ notices) = IsNotice master id notice × AreNoticesFrom master id notices

abbrev pub AreNoticesIn : Session → List Send → Type 0
AreNoticesIn Before notices = notices ≡ []
AreNoticesIn (During master id) notices = AreNoticesFrom master id notices
AreNoticesIn (After master id) notices = AreNoticesFrom master id notices

-- notices of log entries, to its master, where a setting of the log was accepted
abbrev pub AreNotices : ForeignState → List Send → Type 0
AreNotices x notices = MatchBool x.inner.logs (AreNoticesIn x.session notices) (notices ≡ [])

-- At an event a slave may send this, and stands there then: what the definitions send over a machine that chooses so, and then
-- any notices of log entries.
pub record MaySendAt (d : SlaveDesc) (x : ForeignState) (event : Event) (sent : List Send) (y : ForeignState) : Type 0 where
  pub choice : Choice
  pub free : IsChoice d x event choice
  pub notices : List Send
  pub told : AreNotices y notices
  pub sends : sent ≡ sends (foreign d choice) x event ++ notices
  pub after : y ≡ after (foreign d choice) x event

-- the answer to a request that was taken, and where the slave stands after it
abbrev pub answer_to : ForeignState → Address → SlaveRequest → SlaveAnswer → Send
answer_to x from r answer = send from (answer_message r (expected (record { request = r; answer = answer } ∷ x.served)) answer)

abbrev pub after_answer : SlaveDesc → ForeignState → Address → SlaveRequest → SlaveAnswer → ForeignState
after_answer d x from r answer = taken_with x from r (record { answer = answer; notices = []; after = foreign_answered d x.inner r.asked answer })

-- to which nothing has come
abbrev pub foreign_fresh : ForeignState
foreign_fresh = record { session = Before; served = []; quiet = 0; inner = start_foreign }
