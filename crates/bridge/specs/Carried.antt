-- What a bridge does with the bytes of a message.
use Rattle.std.specs.Prelude.{ℕ, ◌==◌, ◌||◌, Bool, false, List, slice_set, Option, None, Some, if◌then◌else◌}
use Rattle.dcp_types.specs.Codes.{protocol_code}
use Rattle.dcp_types.specs.declared.protocols.Protocol.{Protocol}
use Rattle.dcp_types.specs.declared.protocols.Protocol.TheVariants as protocols
use Rattle.pdu_layout.specs.Message.{Message}
use Rattle.pdu_layout.specs.Reading.{message_in}
use Rattle.bridge.specs.declared.sides.BridgeSide.{BridgeSide}
use Rattle.bridge.specs.declared.sides.BridgeSide.TheVariants.{Udp, Tcp}

-- the transport of the ends on a side
abbrev pub protocol_on : BridgeSide → Protocol
protocol_on Udp = protocols.Udp
protocol_on Tcp = protocols.Tcp

-- the message is a CFG_target_network_information (37) or a CFG_source_network_information (38), in which a transport is named
abbrev pub names_transport : Option Message → Bool
names_transport None = false
names_transport (Some message) = (message.code == 37) || (message.code == 38)

-- the bytes as they go out on a side: where they spell a message that names a transport, the code of that side's, which is their byte at place 6
abbrev pub carried_to : BridgeSide → List ℕ → List ℕ
carried_to to bytes = if names_transport (message_in bytes) then slice_set bytes 6 (protocol_code (protocol_on to)) else bytes
