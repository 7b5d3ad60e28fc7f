-- A bridge that stood between two networks, in rounds with a wait before each.
use Rattle.std.specs.Prelude.{◌≡◌, ◌⊎◌, ℕ, ◌+◌, List, [], ◌++◌, zero, suc, Option, None, Some, IfSome, Result}
use Rattle.dcp_io.specs.Faults.{Rose}
use Rattle.dcp_ends.specs.declared.entries.LogEntry.{LogEntry}
use Rattle.scenario.specs.declared.scenarios.Scenario.{Scenario}
use Rattle.commands.specs.Changes.{NetChange}
use Rattle.bridge.specs.declared.faults.BridgeFault.{BridgeFault}
use Rattle.bridge.specs.declared.faults.BridgeFault.TheVariants as faults
use Rattle.bridge.specs.declared.passing.Passed.{Passed}
use Rattle.bridge.specs.Bridges.{BridgeView, CallsBoth, IsPass, IsSameBut, bridge_of, stopped_by_fault}
use Rattle.socket_commands.specs.declared.bridge_stops.Stop.{Stop}
use Rattle.socket_commands.specs.declared.bridge_stops.Stop.TheVariants as stops

-- ---- rounds

-- one more round, after rounds that no fault stopped
pub record OneMore (Before : BridgeView → (on_udp on_tcp : List LogEntry) → Type 0) (now : BridgeView) (on_udp on_tcp : List LogEntry) : Type 0 where
  pub between : BridgeView
  pub udp_before : List LogEntry
  pub tcp_before : List LogEntry
  pub before : Before between udp_before tcp_before
  pub unfaulted : between.fault ≡ None
  pub udp_round : List LogEntry
  pub tcp_round : List LogEntry
  pub result : Result Passed BridgeFault
  pub pass : IsPass between now result udp_round tcp_round
  pub same : IsSameBut (stopped_by_fault result) between now
  pub udp_form : on_udp ≡ udp_before ++ udp_round
  pub tcp_form : on_tcp ≡ tcp_before ++ tcp_round

-- these calls on the two sides are so many rounds, one after another, from the one bridge to the other; each of them carries on what came, and only the last may have been stopped by a fault
abbrev pub BridgeRounds : (count : ℕ) → (first now : BridgeView) → (on_udp on_tcp : List LogEntry) → Type 0
BridgeRounds zero first now on_udp on_tcp = (now ≡ first) × (on_udp ≡ []) × (on_tcp ≡ [])
BridgeRounds (suc n) first now on_udp on_tcp = OneMore (BridgeRounds n first) now on_udp on_tcp

-- where the waits that answered Ready are told after a call, they were told before it, and there were so many in it
abbrev pub CountsReady : (before now : Option ℕ) → ℕ → Type 0
CountsReady before None n = Unit {0}
CountsReady None (Some now) n = ⊥
CountsReady (Some before) (Some now) n = now ≡ before + n

-- so many rounds were begun as waits answered Ready
pub record StoodOn {U T : Type 0} (udp_calls : U → Option (List LogEntry)) (tcp_calls : T → Option (List LogEntry)) (waits_before waits_now : Option ℕ)
    (first now : BridgeView) (udp_before udp_now : U) (tcp_before tcp_now : T) : Type 0 where
  pub count : ℕ
  pub rounds : CallsBoth udp_calls tcp_calls (BridgeRounds count first now) udp_before udp_now tcp_before tcp_now
  pub waited : CountsReady waits_before waits_now count

-- ---- what happened to the objects

-- What happened to the two networks. The wait before and now, of any type. The waits that answered Ready, where they are told, before and now. The counts of failed waits before and now.
pub record BridgeChange (P : Type 0) : Type 0 where
  pub udp : NetChange
  pub tcp : NetChange
  pub ready_before : P
  pub ready_now : P
  pub waits_before : Option ℕ
  pub waits_now : Option ℕ
  pub failed_before : ℕ
  pub failed_now : ℕ

-- The bridge of the scenario has stood. Where the networks tell them, they were opened as it opens them, and their calls are those of its rounds, of which as many were begun as waits answered Ready.
pub record Stood {P : Type 0} (sc : Scenario) (n : ℕ) (nets : BridgeChange P) : Type 0 where
  pub count : ℕ
  pub bridge : BridgeView
  pub on_udp : List LogEntry
  pub on_tcp : List LogEntry
  pub rounds : BridgeRounds count (bridge_of sc n) bridge on_udp on_tcp
  pub waited : CountsReady nets.waits_before nets.waits_now count
  pub udp_told : IfSome nets.udp.told.calls (λ calls. calls ≡ on_udp)
  pub tcp_told : IfSome nets.tcp.told.calls (λ calls. calls ≡ on_tcp)
  pub udp_opened : IfSome nets.udp.told.opening (λ opening. opening ≡ (bridge_of sc n).udp)
  pub tcp_opened : IfSome nets.tcp.told.opening (λ opening. opening ≡ (bridge_of sc n).tcp)

-- the wait is as it was, also in what no clause tells of it: none was called, and a round comes behind a wait
abbrev pub HasNotBegun : {P : Type 0} → BridgeChange P → Type 0
HasNotBegun nets = nets.ready_now ≡ nets.ready_before

-- it has stood, or did not begin to
abbrev pub HasStood : {P : Type 0} → Scenario → (n : ℕ) → BridgeChange P → Type 0
HasStood sc n nets = Stood sc n nets ⊎ HasNotBegun nets

-- ---- why it stopped

-- a network or the wait failed, where its count rose; or memory was wanting, where all counts stand still
abbrev pub StopCause : {P : Type 0} → BridgeChange P → Stop → Type 0
StopCause nets stops.Net = Rose nets.udp.before nets.udp.now ⊎ (Rose nets.tcp.before nets.tcp.now ⊎ Rose nets.failed_before nets.failed_now)
StopCause nets stops.OutOfMemory = (nets.udp.now ≡ nets.udp.before) × (nets.tcp.now ≡ nets.tcp.before) × (nets.failed_now ≡ nets.failed_before)

-- what the fault of a bridge is here
abbrev pub stop_of : BridgeFault → Stop
stop_of (faults.Udp count) = stops.Net
stop_of (faults.Tcp count) = stops.Net
stop_of faults.OutOfMemory = stops.OutOfMemory
