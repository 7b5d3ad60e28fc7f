-- What one end sends over TCP.
use Rattle.std.specs.Prelude.{◌≡◌, ◌⊎◌, ◌<◌, ℕ, ◌+◌, ◌&&◌, nat_le, nat_lt, slice_index_or, List, [], ◌++◌, length, drop, option_map, Bool, if◌then◌else◌, Option, Some, None, MatchOption, ⊤}
use Rattle.mio.specs.declared.net.stream.TcpStream.{TcpStream}
use Rattle.dcp_types.specs.declared.addresses.Address.{Address}
use Rattle.dcp_io.specs.Faults.{Rose}
use Rattle.stream_frame.specs.Frames.{in_stream}
use Rattle.stream_frame.specs.Greetings.{greeting}
use Rattle.stream_frame.specs.Links.{LinkOutbox}
use Rattle.live_net.specs.declared.departures.Outward.{Outward}
use Rattle.live_net.specs.declared.sockets.Bound.{Bound}
use Rattle.live_net.specs.declared.streams.Stream.{Stream}
use Rattle.live_net.specs.Addresses.{address_in}

-- an end that messages may go to, and the bytes that wait for it where a connection to it stands
pub record Leaving : Type 0 where
  pub to : Address
  pub waits : Option (List ℕ)

-- a connection to an end: its stream, and the bytes that wait
abbrev pub SendLine : Type 0
SendLine = LinkOutbox (Stream (Bound TcpStream))

abbrev pub wire_waits : Option SendLine → Option (List ℕ)
wire_waits wire = option_map (λ w. w.waits) wire

abbrev pub leaving_of : Outward → Leaving
leaving_of outward = record { to = outward.to; waits = wire_waits outward.link }

abbrev pub unconnected : Address → Leaving
unconnected to = record { to = to; waits = None }

-- what is to be written with this message behind it; it is lost where 65,536 bytes have no room for its frame
abbrev pub with_message : List ℕ → List ℕ → List ℕ
with_message waits message = if nat_le (length waits + (4 + length message)) 65536 then waits ++ in_stream message else waits

-- a front of the bytes was written and the rest waits; all of them were written, or a write failed
pub record WritesAs (bytes : List ℕ) (before after : SendLine) : Type 0 where
  pub count : ℕ
  pub rest : after.waits ≡ drop count bytes
  pub tried : (after.waits ≡ []) ⊎ Rose before.sink.faults after.sink.faults

-- no byte of those that wait will be written
abbrev pub is_lost : SendLine → Bool
is_lost wire = nat_lt 0 (length wire.waits) && wire.sink.is_over

-- bytes were to be written over a connection, which is closed exactly where bytes wait that never will be
pub record Flushes (bytes : List ℕ) (before : SendLine) (now : Option SendLine) : Type 0 where
  pub after : SendLine
  pub writes : WritesAs bytes before after
  pub kept : now ≡ (if is_lost after then None else Some after)

abbrev pub FlushesIfAny : Option SendLine → Option SendLine → Type 0
FlushesIfAny None now = now ≡ None
FlushesIfAny (Some before) now = Flushes before.waits before now

-- a message was posted on a connection, if there is one
abbrev pub PostsIfAny : List ℕ → Option SendLine → Option SendLine → Type 0
PostsIfAny message None now = now ≡ None
PostsIfAny message (Some before) now = Flushes (with_message before.waits message) before now

-- a connection stays; a new one leads to its end, and begins with the greeting of the sender
abbrev pub Connects : Address → Address → Option SendLine → Option SendLine → Type 0
Connects from to None now = MatchOption now ⊤ (λ wire. (wire.waits ≡ greeting from) × (address_in wire.sink.inner.at ≡ Some to))
Connects from to (Some before) now = now ≡ Some before

-- a message to an end goes over the connection to it, which is begun where there is none
pub record Sends (from : Address) (message : List ℕ) (old new : Outward) : Type 0 where
  pub to : new.to ≡ old.to
  pub wire : Option SendLine
  pub connects : Connects from old.to old.link wire
  pub posts : PostsIfAny message wire new.link

-- what waits was written, as far as the streams took it
pub record FlushesOutward (old new : Outward) : Type 0 where
  pub to : new.to ≡ old.to
  pub flushes : FlushesIfAny old.link new.link

abbrev pub FlushesAll : List Outward → List Outward → Type 0
FlushesAll old new = (length new ≡ length old) × ((k : ℕ) (d : Outward) → k < length old → FlushesOutward (slice_index_or old k d) (slice_index_or new k d))
