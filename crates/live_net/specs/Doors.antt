-- Who comes in at a listener.
use Rattle.std.specs.Prelude.{◌≡◌, ℕ, ◌∷◌, ◌++◌, [], take, false, List, Option, Some, None, Result, MatchResult}
use Rattle.std.specs.IoError.{error_kind, raw_os_error}
use Rattle.std.specs.declared.io.Error.{Error}
use Rattle.std.specs.declared.io.ErrorKind.TheVariants.{WouldBlock}
use Rattle.std.specs.declared.net.socket_addr.SocketAddr.{SocketAddr}
use Rattle.mio.specs.declared.net.stream.TcpStream.{TcpStream}
use Rattle.dcp_net.specs.declared.nets.Taken.{Taken}
use Rattle.dcp_net.specs.declared.nets.Taken.TheVariants as taken
use Rattle.stream_frame.specs.Inlets.{Arriving}
use Rattle.live_net.specs.declared.arrivals.Knock.{Knock}
use Rattle.live_net.specs.declared.arrivals.Knock.TheVariants as knock
use Rattle.live_net.specs.declared.arrivals.Door.{Door}
use Rattle.live_net.specs.declared.arrivals.Door.TheVariants as door
use Rattle.live_net.specs.declared.connections.Connection.{Connection}
use Rattle.live_net.specs.Answers.{FailsOwn}
use Rattle.live_net.specs.Connections.{HandedOut, with_room}
use Rattle.live_net.specs.Failures.{IsOwn}

-- the listener fails exactly where the own socket does, and nobody waits at it exactly where it would wait itself
abbrev pub MeansKnock : Knock → Result (TcpStream × SocketAddr) Error → Type 0
MeansKnock (knock.Came stream) answer = MatchResult answer (λ came. stream ≡ came.0) (λ error. ⊥)
MeansKnock knock.Nobody answer = MatchResult answer (λ came. ⊥) (λ error. ¬ IsOwn (raw_os_error error) × (error_kind error ≡ WouldBlock))
MeansKnock knock.Lost answer = MatchResult answer (λ came. ⊥) (λ error. ¬ IsOwn (raw_os_error error) × ¬ (error_kind error ≡ WouldBlock))
MeansKnock knock.Failed answer = FailsOwn answer

-- a connection that cannot be watched is closed, and nothing else happens; one that can be is the newest, behind those that stay
abbrev pub LetsIn : List Connection → List Connection → Option TcpStream → Door → Type 0
LetsIn old new None door.Passed = new ≡ old
LetsIn old new None door.Nobody = ⊥
LetsIn old new None door.Failed = ⊥
LetsIn old new None door.OutOfMemory = ⊥
LetsIn old new (Some stream) door.Passed = (came : Connection) × (came.intake.source.inner ≡ stream) × (came.is_known ≡ false) × (new ≡ with_room old ++ came ∷ [])
LetsIn old new (Some stream) door.Nobody = ⊥
LetsIn old new (Some stream) door.Failed = ⊥
LetsIn old new (Some stream) door.OutOfMemory = Unit {0}

-- a message that was taken was handed out by a connection, and stands at the front of the room
abbrev pub Given : Taken → List Arriving → List ℕ → Type 0
Given taken.Nothing inlets room = Unit {0}
Given (taken.Gram from len) inlets room = HandedOut inlets from (take len room)
Given taken.Failed inlets room = Unit {0}
Given taken.OutOfMemory inlets room = Unit {0}
