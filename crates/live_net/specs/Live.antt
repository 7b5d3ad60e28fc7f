-- What contracts see of a network of sockets.
use Rattle.std.specs.Prelude.{◌≡◌, ℕ, List, [], map, drop, slice_get, slice_set, position, is_some, unwrap_or, Bool, Option, Some, None, MatchOption}
use Rattle.dcp_types.specs.declared.addresses.Address.{Address}
use Rattle.dcp_types.specs.declared.protocols.Protocol.{Protocol}
use Rattle.dcp_types.specs.declared.protocols.Protocol.TheVariants as by
use Rattle.dcp_ends.specs.Logs.{same_address}
use Rattle.dcp_net.specs.declared.nets.Done.{Done}
use Rattle.dcp_net.specs.declared.nets.Done.TheVariants as done
use Rattle.dcp_net.specs.declared.nets.Taken.{Taken}
use Rattle.dcp_net.specs.declared.nets.Taken.TheVariants as taken
use Rattle.stream_frame.specs.Greetings.{greeting}
use Rattle.stream_frame.specs.Inlets.{Arriving}
use Rattle.live_net.specs.Connections.{inlet_of}
use Rattle.live_net.specs.Departures.{Leaving, leaving_of, unconnected, with_message}
use Rattle.live_net.specs.Doors.{Given}
use Rattle.live_net.specs.declared.live_ends.LiveEnd.{LiveEnd}
use Rattle.live_net.specs.declared.live_ends.LiveEnd.TheVariants.{Udp, Tcp}

-- an end that has a socket: its address, what its connections from others have brought, and what waits on those to others; by UDP it has none
pub record SocketEnd : Type 0 where
  pub place : Address
  pub protocol : Protocol
  pub inlets : List Arriving
  pub leaving : List Leaving

abbrev pub socket_end : LiveEnd → SocketEnd
socket_end (Udp end) = record { place = end.place; protocol = by.Udp; inlets = []; leaving = [] }
socket_end (Tcp end) = record { place = end.departures.from; protocol = by.Tcp; inlets = map inlet_of end.arrivals.connections.items; leaving = map leaving_of end.departures.outward.items }

-- a network: all ends, those of them that have a socket, and how often it has failed
pub record Live : Type 0 where
  pub all : List Address
  pub ends : List SocketEnd
  pub faults : ℕ

-- the addresses that have a socket of their own
abbrev pub socket_places : Live → List Address
socket_places live = map (λ e. e.place) live.ends

-- the place of an end among those that have a socket
abbrev pub end_place : Address → List SocketEnd → Option ℕ
end_place at ends = position (λ e. same_address e.place at) ends

abbrev pub has_socket : Live → Address → Bool
has_socket live at = is_some (end_place at live.ends)

-- an end as it is opened: it may send to each of `all`
abbrev pub opened_as : Protocol → List Address → Address → SocketEnd
opened_as by.Udp all place = record { place = place; protocol = by.Udp; inlets = []; leaving = [] }
opened_as by.Tcp all place = record { place = place; protocol = by.Tcp; inlets = []; leaving = map unconnected all }

-- a front of the bytes was written, and the rest waits; or the connection was closed
abbrev pub WaitsFor : List ℕ → Option (List ℕ) → Type 0
WaitsFor bytes None = Unit {0}
WaitsFor bytes (Some waits) = (count : ℕ) × (waits ≡ drop count bytes)

-- the connection at this place had the message to send, behind the greeting of its sender or what waited, and the others nothing
pub record LeavesAt (place : ℕ) (from : Address) (message : List ℕ) (old new : List Leaving) : Type 0 where
  pub before : Leaving
  pub after : Leaving
  pub here : slice_get old place ≡ Some before
  pub to : after.to ≡ before.to
  pub waits : WaitsFor (with_message (unwrap_or before.waits (greeting from)) message) after.waits
  pub others : new ≡ slice_set old place after

-- a message leaves on the connection to its receiver alone, and one to none of the ends on no connection
abbrev pub LeavesFor : Address → Address → List ℕ → List Leaving → List Leaving → Type 0
LeavesFor from to message old new = MatchOption (position (λ l. same_address l.to to) old) (new ≡ old) (λ place. LeavesAt place from message old new)

-- what a send leaves waiting
abbrev pub LeavesIf : Done → Protocol → Address → Address → List ℕ → List Leaving → List Leaving → Type 0
LeavesIf done.Ok by.Udp from to message old new = new ≡ old
LeavesIf done.Ok by.Tcp from to message old new = LeavesFor from to message old new
LeavesIf done.Failed protocol from to message old new = new ≡ old
LeavesIf done.OutOfMemory protocol from to message old new = new ≡ old

-- what a send does to its end
pub record SendsBy (to : Address) (message : List ℕ) (result : Done) (old new : SocketEnd) : Type 0 where
  pub place : new.place ≡ old.place
  pub protocol : new.protocol ≡ old.protocol
  pub inlets : new.inlets ≡ old.inlets
  pub leaving : LeavesIf result old.protocol old.place to message old.leaving new.leaving

-- what was taken over a connection was handed out by it
abbrev pub GivenBy : Protocol → Taken → List Arriving → List ℕ → Type 0
GivenBy by.Udp taken inlets room = Unit {0}
GivenBy by.Tcp taken inlets room = Given taken inlets room

-- what a take does to its end
pub record TakesBy (result : Taken) (room : List ℕ) (old new : SocketEnd) : Type 0 where
  pub place : new.place ≡ old.place
  pub protocol : new.protocol ≡ old.protocol
  pub given : GivenBy old.protocol result new.inlets room

-- what happened was at one of the ends, and the others stayed as they were
pub record At (place : ℕ) (Change : SocketEnd → SocketEnd → Type 0) (old new : Live) : Type 0 where
  pub before : SocketEnd
  pub after : SocketEnd
  pub here : slice_get old.ends place ≡ Some before
  pub change : Change before after
  pub others : new.ends ≡ slice_set old.ends place after

-- the end at an address has the message to send, if there is one
abbrev pub SendsFrom : Address → Address → List ℕ → Done → Live → Live → Type 0
SendsFrom from to message result old new = MatchOption (end_place from old.ends) ((result ≡ done.Ok) × (new.ends ≡ old.ends)) (λ place. At place (SendsBy to message result) old new)

-- the end at an address is asked for a message, if there is one
abbrev pub TakesHere : Address → Taken → List ℕ → Live → Live → Type 0
TakesHere at result room old new = MatchOption (end_place at old.ends) ((result ≡ taken.Nothing) × (new.ends ≡ old.ends)) (λ place. At place (TakesBy result room) old new)
