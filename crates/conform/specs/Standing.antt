-- Where a follower stands: for a slave between two events, or for one within an event.
use Rattle.std.specs.Prelude.{◌≡◌, ◌≤◌, ◌+◌, ℕ, Bool, true, false, List, [], ◌∷◌, ◌++◌, length, take, map, slice_get, Some}
use Rattle.dcp_types.specs.declared.addresses.Address.{Address}
use Rattle.dcp_ends.specs.Events.{Event, Gram, Tick, Send}
use Rattle.slave_desc.specs.declared.descriptions.SlaveDesc.{SlaveDesc}
use Rattle.slave_spec.specs.declared.words.Fate.TheVariants.{Taken}
use Rattle.slave_spec.specs.declared.words.SlaveRequest.{SlaveRequest}
use Rattle.slave_spec.specs.Heard.{Asks, heard}
use Rattle.slave_spec.specs.declared.words.Session.TheVariants.{During}
use Rattle.slave_spec.specs.Transport.{Ack, Parcel, Changed, fate, sends, after, expected, send, notice_message, parcel_send, quieter}
use Rattle.slave_spec.specs.Turns.{is_missed}
use Rattle.slave_states.specs.Transitions.{next_on_turn}
use Rattle.slave_spec.specs.Changes.{output, ids}
use Rattle.conform.specs.Sending.{goes_out, ids_from}
use Rattle.dcp_types.specs.declared.states.State.{State}
use Rattle.dcp_types.specs.declared.states.State.TheVariants.{Initializing, Computing, ErrorHandling}
use Rattle.slave_core.specs.Standing.{newest_answer, session_with}
use Rattle.slave_spec.specs.Foreign.{ForeignState, ForeignPlant, Choice, Stays, foreign, IsChoice, AreNotices, AreParcels, MaySendAt}
use Rattle.conform.specs.declared.meanings.Meaning.{Meaning}
use Rattle.conform.specs.declared.plants.ForeignDevice.{ForeignDevice}
use Rattle.conform.specs.declared.followers.Awaited.{Awaited}
use Rattle.conform.specs.declared.followers.Awaited.TheVariants as awaited
use Rattle.conform.specs.declared.followers.Follower.{Follower}
use Rattle.conform.specs.Plants.{ForeignFor}
use Rattle.conform.specs.Asking.{HasAnswersOut, is_ending}

-- the same, but for the machine and the answer that is kept
pub record FollowerAt (c : Follower) (plant : ForeignDevice) (kept : List ℕ) (d : SlaveDesc) (x : ForeignState) : Type 0 where
  pub desc : c.desc.now ≡ d
  pub session : c.session ≡ x.session
  pub number : c.expected ≡ expected x.served
  pub newest : kept ≡ newest_answer x.served
  pub quiet : c.quiet ≡ x.quiet
  pub inner : ForeignFor plant d x.inner

abbrev pub StandsBetween : Follower → SlaveDesc → ForeignState → Type 0
StandsBetween c d x = FollowerAt c c.plant c.kept d x

-- where nothing is free
abbrev pub no_choice : Choice
no_choice = record { answer = Ack; act = Stays; parcels = [] }

-- after these Sents of an event notices alone may follow
pub record IsOver (d : SlaveDesc) (x : ForeignState) (event : Event) (gone : List Send) (y : ForeignState) : Type 0 where
  pub onward : (rest : List Send) (z : ForeignState) → MaySendAt d x event (gone ++ rest) z → (z ≡ y) × AreNotices y rest
  pub back : (rest : List Send) → AreNotices y rest → MaySendAt d x event (gone ++ rest) y

-- after these Sents of an event one message is sent, and then notices
pub record HasOne (d : SlaveDesc) (x : ForeignState) (event : Event) (gone : List Send) (send : Send) (y : ForeignState) : Type 0 where
  pub onward : (sent : List Send) (z : ForeignState) → MaySendAt d x event (gone ++ sent) z → (rest : List Send) × (sent ≡ send ∷ rest) × (z ≡ y) × AreNotices y rest
  pub back : (rest : List Send) → AreNotices y rest → MaySendAt d x event (gone ++ send ∷ rest) y

-- data messages of these ids are sent, then one message, and then notices
pub record EndsData (d : SlaveDesc) (left : List ℕ) (send : Send) (y : ForeignState) (sent : List Send) (z : ForeignState) : Type 0 where
  pub parcels : List Parcel
  pub are : AreParcels d y.inner.wires.changes y.inner.steps left parcels
  pub rest : List Send
  pub sent_is : sent ≡ map parcel_send parcels ++ send ∷ rest
  pub after_is : z ≡ y
  pub told : AreNotices y rest

-- after these Sents of an event
pub record HasData (d : SlaveDesc) (x : ForeignState) (event : Event) (gone : List Send) (left : List ℕ) (send : Send) (y : ForeignState) : Type 0 where
  pub onward : (sent : List Send) (z : ForeignState) → MaySendAt d x event (gone ++ sent) z → EndsData d left send y sent z
  pub back : (sent : List Send) → EndsData d left send y sent y → MaySendAt d x event (gone ++ sent) y

-- the notice of a state
abbrev pub state_notice : Address → (id : ℕ) → State → Send
state_notice master id state = send master (notice_message id (Changed state))

-- where a slave stands after a turn by which its machine has come there
abbrev pub turned_to : ForeignState → ForeignPlant → ForeignState
turned_to x p = record x { quiet = quieter x.quiet; inner = p }

-- a state that the model may leave by a fault
abbrev pub is_model : State → Bool
is_model Initializing = true
is_model Computing = true
is_model state = false

abbrev pub awaited_in : State → Awaited
awaited_in Initializing = awaited.Initializing
awaited_in state = awaited.Computing

-- a turn in such a state
pub record AwaitsModel (c : Follower) (state : State) (d : SlaveDesc) (x : ForeignState) (event : Event) : Type 0 where
  pub master : Address
  pub id : ℕ
  pub is : event ≡ Tick
  pub open_with : x.session ≡ During master id
  pub state_is : x.inner.state ≡ state
  pub spared : is_missed d state (quieter x.quiet) ≡ false
  pub stands : StandsBetween c d (turned_to x x.inner)
  pub out_is : c.out ≡ state_notice master id (next_on_turn state 0) ∷ state_notice master id ErrorHandling ∷ []

-- the event is a request that is taken
pub record IsTaken (d : SlaveDesc) (x : ForeignState) (event : Event) (from : Address) (r : SlaveRequest) : Type 0 where
  pub bytes : List ℕ
  pub is : event ≡ Gram from bytes
  pub asks : heard bytes ≡ Asks r
  pub fate_is : fate (foreign d no_choice) x from r ≡ Taken

-- the number after the requests that were taken and one more
abbrev pub next_number : ForeignState → SlaveRequest → ℕ
next_number x r = expected (record { request = r; answer = Ack } ∷ x.served)

-- an answer to a request is awaited
pub record AwaitsAnswer (c : Follower) (meaning : Meaning) (d : SlaveDesc) (x : ForeignState) (from : Address) (r : SlaveRequest) : Type 0 where
  pub asked : HasAnswersOut d x.inner from r (next_number x r) meaning c.plant c.out
  pub desc : c.desc.now ≡ d
  pub session : c.session ≡ session_with x.session from r.receiver (is_ending meaning)
  pub number : c.expected ≡ next_number x r
  pub quiet : c.quiet ≡ 0

-- what is awaited where these messages and nothing else is free
abbrev pub awaited_for : List Send → Awaited
awaited_for [] = awaited.Notices
awaited_for (send ∷ sends) = awaited.Message

-- at an event nothing is free but notices
pub record Reacts (d : SlaveDesc) (x : ForeignState) (event : Event) (sent : List Send) (y : ForeignState) : Type 0 where
  pub sent_is : (c : Choice) → IsChoice d x event c → sends (foreign d c) x event ≡ sent
  pub after_is : (c : Choice) → IsChoice d x event c → after (foreign d c) x event ≡ y
  pub choice : Choice
  pub free : IsChoice d x event choice

abbrev pub Awaits : Follower → Awaited → SlaveDesc → ForeignState → Event → List Send → Type 0
Awaits c awaited.Closed d x event gone = ⊥
Awaits c awaited.Notices d x event gone = (y : ForeignState) × StandsBetween c d y × IsOver d x event gone y
Awaits c awaited.Message d x event gone = (send : Send) × (y : ForeignState) × StandsBetween c d y × (c.out ≡ send ∷ []) × HasOne d x event gone send y
Awaits c (awaited.Answer meaning) d x event gone = (from : Address) × (r : SlaveRequest) × (gone ≡ []) × IsTaken d x event from r × AwaitsAnswer c meaning d x from r
Awaits c awaited.Initializing d x event gone = (gone ≡ []) × AwaitsModel c Initializing d x event
Awaits c awaited.Computing d x event gone = (gone ≡ []) × AwaitsModel c Computing d x event
Awaits c (awaited.Data target) d x event gone =
    (send : Send) × (y : ForeignState) × (id : ℕ) × StandsBetween c d y × (c.out ≡ send ∷ []) × (slice_get (ids output y.inner.wires.changes) target ≡ Some id)
    × (goes_out y.inner.wires.changes y.inner.steps id ≡ true) × HasData d x event gone (id ∷ ids_from (target + 1) y.inner.wires.changes y.inner.steps) send y

-- within an event, after these Sents
abbrev pub StandsWithin : Follower → SlaveDesc → ForeignState → Event → List Send → Type 0
StandsWithin c d x event gone = Awaits c c.awaited d x event gone

-- a message of at most 1,024 bytes begins with another one
pub record IsMessageHead (head sent : Send) : Type 0 where
  pub to : head.to ≡ sent.to
  pub front : take (length head.bytes) sent.bytes ≡ head.bytes
  pub few : length sent.bytes ≤ 1024

-- an event may be over
abbrev pub may_end : Awaited → Bool
may_end awaited.Closed = true
may_end awaited.Notices = true
may_end awaited.Computing = true
may_end other = false
