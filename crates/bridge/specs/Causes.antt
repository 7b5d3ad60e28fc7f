-- Why a bridge stops.
use Rattle.std.specs.Prelude.{◌≡◌, ℕ, ◌≤◌}
use Rattle.dcp_io.specs.Faults.{Rose}
use Rattle.rounds.specs.declared.one_end.HostFault.{HostFault}
use Rattle.rounds.specs.declared.one_end.HostFault.TheVariants as net
use Rattle.bridge.specs.declared.faults.BridgeFault.{BridgeFault}
use Rattle.bridge.specs.declared.faults.BridgeFault.TheVariants as faults
use Rattle.bridge.specs.declared.sides.BridgeSide.{BridgeSide}
use Rattle.bridge.specs.declared.sides.BridgeSide.TheVariants as sides

-- the fault of the network on a side
abbrev pub fault_on : BridgeSide → HostFault → BridgeFault
fault_on sides.Udp (net.Net count) = faults.Udp count
fault_on sides.Tcp (net.Net count) = faults.Tcp count
fault_on side net.OutOfMemory = faults.OutOfMemory

-- a fault of a network comes only where its count of faults rose, and says to what; the other's count stands still then, and both do where memory was wanting
abbrev pub CauseOn : (udp_before udp_now tcp_before tcp_now : ℕ) → BridgeFault → Type 0
CauseOn udp_before udp_now tcp_before tcp_now (faults.Udp count) = (udp_before ≤ udp_now) × Rose udp_before udp_now × (count ≡ udp_now) × (tcp_now ≡ tcp_before)
CauseOn udp_before udp_now tcp_before tcp_now (faults.Tcp count) = (tcp_before ≤ tcp_now) × Rose tcp_before tcp_now × (count ≡ tcp_now) × (udp_now ≡ udp_before)
CauseOn udp_before udp_now tcp_before tcp_now faults.OutOfMemory = (udp_now ≡ udp_before) × (tcp_now ≡ tcp_before)
