-- What a socket was given to send, where it tells that.
use Rattle.std.specs.Prelude.{◌≡◌, ℕ, List, ◌∷◌, [], ◌++◌, Option, Some, None}
use Rattle.std.specs.declared.net.socket_addr.SocketAddr.{SocketAddr}
use Rattle.dcp_types.specs.declared.addresses.Address.{Address}
use Rattle.live_net.specs.Addresses.{address_in}

-- a datagram and its receiver
pub record Datagram : Type 0 where
  pub to : SocketAddr
  pub bytes : List ℕ

-- what a socket tells after this datagram too
abbrev pub sent_more : Option (List Datagram) → SocketAddr → List ℕ → Option (List Datagram)
sent_more None to bytes = None
sent_more (Some sent) to bytes = Some (sent ++ record { to = to; bytes = bytes } ∷ [])

-- one datagram more was given to send, to the end at this address
abbrev pub IsSentTo : Address → List ℕ → Option (List Datagram) → Option (List Datagram) → Type 0
IsSentTo to bytes old new = (socket : SocketAddr) × (address_in socket ≡ Some to) × (new ≡ sent_more old socket bytes)
