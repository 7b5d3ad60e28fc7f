-- The connections to one end.
use Rattle.std.specs.Prelude.{◌≡◌, ℕ, ◌||◌, not, nat_eq, nat_lt, List, length, take, remove, slice_get, slice_set, unwrap_or, Bool, IsTrue, if◌then◌else◌, Option, Some, None}
use Rattle.std.specs.List.{position}
use Rattle.dcp_types.specs.declared.addresses.Address.{Address}
use Rattle.stream_frame.specs.Frames.{IsFrame}
use Rattle.stream_frame.specs.Greetings.{greeting}
use Rattle.stream_frame.specs.Inlets.{Arriving}
use Rattle.live_net.specs.declared.intakes.Taking.{Taking}
use Rattle.live_net.specs.declared.intakes.Taking.TheVariants as taking
use Rattle.live_net.specs.declared.connections.Connection.{Connection}
use Rattle.live_net.specs.declared.connections.Heard.{Heard}
use Rattle.live_net.specs.declared.connections.Heard.TheVariants.{Gram, Later, Over}
use Rattle.live_net.specs.Intakes.{Hands}
use Rattle.live_net.specs.Strangers.{is_end_of}

-- a connection is known once it has brought a message from one of the ends
abbrev pub known_after : Bool → List Address → Taking → Bool
known_after known all (taking.Gram from) = known || is_end_of all from
known_after known all taking.NotYet = known
known_after known all taking.Bad = known

-- a connection is over where its stream is, behind its last message, where it brought a message from none of the ends, and where it gave a length that no
-- frame has
abbrev pub heard_from : List Address → Taking → Bool → Heard
heard_from all (taking.Gram from) is_over = if is_end_of all from then Gram from else Over
heard_from all taking.NotYet is_over = if is_over then Over else Later
heard_from all taking.Bad is_over = Over

-- a message is a frame's, and comes from the sender of the greeting, which is one of the ends
abbrev pub BringsMessage : List Address → Heard → Arriving → Type 0
BringsMessage all (Gram from) inlet = IsTrue (is_end_of all from) × (greeting from ≡ inlet.greeting) × IsFrame inlet.reader.last
BringsMessage all Later inlet = Unit {0}
BringsMessage all Over inlet = Unit {0}

-- a connection was asked for a message
pub record HearsNext (before asked : Connection) (all : List Address) (heard : Heard) : Type 0 where
  pub answer : Taking
  pub hands : Hands answer asked.intake.inlet
  pub known : asked.is_known ≡ known_after before.is_known all answer
  pub told : heard ≡ heard_from all answer asked.intake.source.is_over

-- no more than 32 connections are kept
abbrev pub is_crowded : List Connection → Bool
is_crowded connections = nat_eq (length connections) 32

-- the connection that gives way to another: the oldest that is not known, and where all are known, the oldest
abbrev pub gives_way : List Connection → ℕ
gives_way connections = unwrap_or (position (λ c. not c.is_known) connections) 0

-- the connections that stay where another comes
abbrev pub with_room : List Connection → List Connection
with_room connections = if is_crowded connections then remove connections (gives_way connections) else connections

-- whose turn it is, of so many connections
abbrev pub turn_of : ℕ → ℕ → ℕ
turn_of count next = if nat_lt next count then next else 0

-- what becomes of the connection that was asked, what is given of it, and what stands in the room: it stays, or is closed where no message will come of it
abbrev pub Heeds : Heard → ℕ → Connection → List Connection → List Connection → Option (Address × ℕ) → List ℕ → Type 0
Heeds (Gram from) turn asked old new given room = let message = asked.intake.inlet.reader.last in
    (given ≡ Some (from, length message)) × (take (length message) room ≡ message) × (new ≡ slice_set old turn asked)
Heeds Later turn asked old new given room = (given ≡ None) × (new ≡ slice_set old turn asked)
Heeds Over turn asked old new given room = (given ≡ None) × (new ≡ remove (slice_set old turn asked) turn)

-- the connection whose turn it is was asked
pub record Visits (turn : ℕ) (all : List Address) (old new : List Connection) (given : Option (Address × ℕ)) (room : List ℕ) : Type 0 where
  pub before : Connection
  pub asked : Connection
  pub heard : Heard
  pub here : slice_get old turn ≡ Some before
  pub hears : HearsNext before asked all heard
  pub heeds : Heeds heard turn asked old new given room

-- a message that one of the connections handed out, from the sender of its greeting
pub record HandedOut (inlets : List Arriving) (from : Address) (message : List ℕ) : Type 0 where
  pub place : ℕ
  pub inlet : Arriving
  pub here : slice_get inlets place ≡ Some inlet
  pub sender : greeting from ≡ inlet.greeting
  pub handed : message ≡ inlet.reader.last
  pub is_frame : IsFrame message

abbrev pub inlet_of : Connection → Arriving
inlet_of c = c.intake.inlet
