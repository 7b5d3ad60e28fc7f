-- The addresses of ends as the addresses of sockets.
use Rattle.std.specs.Prelude.{Option, Some, None}
use Rattle.std.specs.Net.Addr.{ipv4_bits}
use Rattle.std.specs.Net.Socket.{v4_ip, v4_port}
use Rattle.std.specs.declared.net.socket_addr.SocketAddr.{SocketAddr}
use Rattle.std.specs.declared.net.socket_addr.SocketAddr.TheVariants.{V4, V6}
use Rattle.dcp_types.specs.declared.addresses.Address.{Address}

-- the end at the address of a socket: its ip as one number, the first part the most significant byte
abbrev pub address_in : SocketAddr → Option Address
address_in (V4 socket) = Some (record { ip = ipv4_bits (v4_ip socket); port = v4_port socket })
address_in (V6 socket) = None
