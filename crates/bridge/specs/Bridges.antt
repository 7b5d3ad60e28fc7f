-- A bridge, and what it does in a round.
use Rattle.std.specs.Prelude.{◌≡◌, ℕ, List, [], ◌∷◌, ◌++◌, length, map, take, drop, Option, None, Some, Result, Ok, Err, IfOk}
use Rattle.dcp_types.specs.declared.addresses.Address.{Address}
use Rattle.dcp_types.specs.declared.protocols.Protocol.{Protocol}
use Rattle.dcp_types.specs.declared.protocols.Protocol.TheVariants as protocols
use Rattle.dcp_ends.specs.declared.entries.LogEntry.{LogEntry}
use Rattle.dcp_net.specs.declared.openings.Opening.{Opening}
use Rattle.dcp_net.specs.Nets.{told_more}
use Rattle.rounds.specs.Rounds.{EachEnd}
use Rattle.slave_desc.specs.declared.descriptions.SlaveDesc.{SlaveDesc}
use Rattle.scenario.specs.declared.scenarios.Scenario.{Scenario}
use Rattle.bridge.specs.declared.faults.BridgeFault.{BridgeFault}
use Rattle.bridge.specs.declared.crossings.Crossing.{Crossing}
use Rattle.bridge.specs.declared.passing.Passed.{Passed}
use Rattle.bridge.specs.declared.sides.BridgeSide.{BridgeSide}
use Rattle.bridge.specs.declared.sides.BridgeSide.TheVariants.{Udp, Tcp}
use Rattle.bridge.specs.Passes.{AllSends, TakesAt, came_in, gone_out, left_out, let_in, passed_both, strange_in}

-- one direction: the side where its messages go, who lives on the side where they come in, and what waits
pub record WayView : Type 0 where
  pub to : BridgeSide
  pub living : List Address
  pub waiting : List Crossing

-- a bridge: what it opens on each side, its two directions, and the fault that stopped it
pub record BridgeView : Type 0 where
  pub udp : Opening
  pub tcp : Opening
  pub to_tcp : WayView
  pub to_udp : WayView
  pub fault : Option BridgeFault

-- ---- which ends live where

abbrev pub addresses_of : List SlaveDesc → List Address
addresses_of slaves = map (λ d. d.address) slaves

-- the master and the first n slaves
abbrev pub living_on_udp : Scenario → (n : ℕ) → List Address
living_on_udp sc n = sc.master ∷ addresses_of (take n sc.slaves)

-- the other slaves
abbrev pub living_on_tcp : Scenario → (n : ℕ) → List Address
living_on_tcp sc n = addresses_of (drop n sc.slaves)

-- all ends of the scenario, and a network that does nothing to the messages
abbrev pub opened_with : Scenario → Protocol → List Address → Opening
opened_with sc protocol ends = record { protocol = protocol; all = sc.master ∷ addresses_of sc.slaves; ends = ends; plan = record { lines = []; chaos = None } }

-- the bridge stands, on UDP, for the ends on TCP, and on TCP for the ends on UDP
abbrev pub bridge_of : Scenario → (n : ℕ) → BridgeView
bridge_of sc n = record {
  udp = opened_with sc protocols.Udp (living_on_tcp sc n);
  tcp = opened_with sc protocols.Tcp (living_on_udp sc n);
  to_tcp = record { to = Tcp; living = living_on_udp sc n; waiting = [] };
  to_udp = record { to = Udp; living = living_on_tcp sc n; waiting = [] };
  fault = None;
}

abbrev pub waiting_from : BridgeSide → BridgeView → List Crossing
waiting_from Udp bridge = bridge.to_tcp.waiting
waiting_from Tcp bridge = bridge.to_udp.waiting

-- ---- a round

-- What waited before and what came in, without what came when 256 waited, is what went out on the other side and then what waits now.
abbrev pub Crosses : (before now : WayView) → (here there : List LogEntry) → Type 0
Crosses before now here there = before.waiting ++ let_in before.waiting (came_in before.living before.to here) ≡ gone_out there ++ now.waiting

-- what became of the datagrams that these calls took
abbrev pub passed_in : WayView → List LogEntry → Passed
passed_in way calls = record {
  carried = length (let_in way.waiting (came_in way.living way.to calls));
  dropped = length (left_out way.waiting (came_in way.living way.to calls));
  strange = strange_in way.living calls;
}

-- all datagrams for each of these ends in order, and then what is sent
pub record IsWholeSide (ends : List Address) (calls : List LogEntry) : Type 0 where
  pub takes : List LogEntry
  pub sends : List LogEntry
  pub form : calls ≡ takes ++ sends
  pub taken : EachEnd TakesAt ends takes
  pub sent : AllSends sends

-- after a whole round with these calls on the two sides nothing waits
pub record IsWholePass (before now : BridgeView) (passed : Passed) (on_udp on_tcp : List LogEntry) : Type 0 where
  pub none_to_tcp : now.to_tcp.waiting ≡ []
  pub none_to_udp : now.to_udp.waiting ≡ []
  pub udp : IsWholeSide before.udp.ends on_udp
  pub tcp : IsWholeSide before.tcp.ends on_tcp
  pub counts : passed ≡ passed_both (passed_in before.to_tcp on_udp) (passed_in before.to_udp on_tcp)

-- a round with these calls on the two sides, whole or stopped by a fault
pub record IsPass (before now : BridgeView) (result : Result Passed BridgeFault) (on_udp on_tcp : List LogEntry) : Type 0 where
  pub to_tcp : Crosses before.to_tcp now.to_tcp on_udp on_tcp
  pub to_udp : Crosses before.to_udp now.to_udp on_tcp on_udp
  pub whole : IfOk result (λ passed. IsWholePass before now passed on_udp on_tcp)

-- the calls of both networks that succeeded are of this form
pub record CallsBoth {U T : Type 0} (udp_calls : U → Option (List LogEntry)) (tcp_calls : T → Option (List LogEntry)) (Form : (on_udp on_tcp : List LogEntry) → Type 0) (udp_before udp_now : U) (tcp_before tcp_now : T) : Type 0 where
  pub on_udp : List LogEntry
  pub on_tcp : List LogEntry
  pub told_udp : udp_calls udp_now ≡ told_more (udp_calls udp_before) on_udp
  pub told_tcp : tcp_calls tcp_now ≡ told_more (tcp_calls tcp_before) on_tcp
  pub form : Form on_udp on_tcp

abbrev pub stopped_by_fault : {T : Type 0} → Result T BridgeFault → Option BridgeFault
stopped_by_fault (Ok x) = None
stopped_by_fault (Err fault) = Some fault

-- what a bridge opens and where its messages go is as before; its fault is this
pub record IsSameBut (fault : Option BridgeFault) (before now : BridgeView) : Type 0 where
  pub udp : now.udp ≡ before.udp
  pub tcp : now.tcp ≡ before.tcp
  pub to_tcp : (now.to_tcp.to ≡ before.to_tcp.to) × (now.to_tcp.living ≡ before.to_tcp.living)
  pub to_udp : (now.to_udp.to ≡ before.to_udp.to) × (now.to_udp.living ≡ before.to_udp.living)
  pub fault_is : now.fault ≡ fault
