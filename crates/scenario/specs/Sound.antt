-- What is known of a scenario that a text gave.
use Rattle.std.specs.Prelude.{◌≡◌, ◌≢◌, ℕ, ◌≤◌, ◌<◌, ◌^◌, Bool, ◌==◌, ◌&&◌, true, false, List, ◌++◌, length, map, take, IfSome, All, AllPairs, FitsSigned}
use Rattle.std.specs.Int.{w64}
use Rattle.std.specs.List.{list_any}
use Rattle.dcp_types.specs.declared.addresses.Address.{Address}
use Rattle.dcp_types.specs.declared.limits.Limits.{Limits}
use Rattle.scenario.specs.declared.net_plans.NetLine.{NetLine}
use Rattle.scenario.specs.declared.net_plans.NetLine.TheVariants as lines
use Rattle.scenario.specs.declared.net_plans.Chaos.{Chaos}
use Rattle.scenario.specs.declared.net_plans.NetPlan.{NetPlan}
use Rattle.slave_desc.specs.Descriptions.{IsDesc, HasModel}
use Rattle.slave_desc.specs.declared.descriptions.SlaveDesc.{SlaveDesc}
use Rattle.scenario.specs.Lookups.{outputs_at, inputs_at, parameters_at, type_at}
use Rattle.scenario.specs.Wiring.{same_input}
use Rattle.scenario.specs.Settings.{changed, setting_in, takes_at}
use Rattle.scenario.specs.Totals.{is_too_much}
use Rattle.scenario.specs.declared.scenarios.Wire.{Wire}
use Rattle.scenario.specs.declared.scenarios.Setting.{Setting}
use Rattle.scenario.specs.declared.scenarios.Every.{Every}
use Rattle.scenario.specs.declared.scenarios.Rerun.{Rerun}
use Rattle.scenario.specs.declared.scenarios.Scenario.{Scenario}

-- a slave's number, from 1
abbrev pub IsSlave : List SlaveDesc → ℕ → Type 0
IsSlave slaves s = (1 ≤ s) × (s ≤ length slaves)

-- an IPv4 address, and a port from 1
pub record IsAddress (a : Address) : Type 0 where
  pub ip : a.ip < 2 ^ 32
  pub port : (1 ≤ a.port) × (a.port < 2 ^ 16)

-- both ports are there, and of one type
pub record IsWire (slaves : List SlaveDesc) (w : Wire) : Type 0 where
  pub from : IsSlave slaves w.from
  pub out : w.out < length (outputs_at slaves w.from)
  pub to : IsSlave slaves w.to
  pub into : w.into < length (inputs_at slaves w.to)
  pub types : type_at (outputs_at slaves w.from) w.out ≡ type_at (inputs_at slaves w.to) w.into

-- the parameter is there, and the value is a number of 64 bits
pub record IsSetting (slaves : List SlaveDesc) (x : Setting) : Type 0 where
  pub slave : IsSlave slaves x.slave
  pub index : x.index < length (parameters_at slaves x.slave)
  pub value : FitsSigned w64 x.value

-- a later run, and a parameter that is there
pub record IsRerun (slaves : List SlaveDesc) (runs : ℕ) (r : Rerun) : Type 0 where
  pub setting : IsSetting slaves (setting_in r)
  pub run : (2 ≤ r.run) × (r.run ≤ runs)

-- a pair that has a wire
pub record IsEvery (slaves : List SlaveDesc) (wires : List Wire) (e : Every) : Type 0 where
  pub from : IsSlave slaves e.from
  pub to : IsSlave slaves e.to
  pub q : (1 ≤ e.q) × (e.q ≤ 1000)
  pub wired : list_any (λ w. (w.from == e.from) && (w.to == e.to)) wires ≡ true

-- two intervals are of one pair
abbrev pub same_pair : Every → Every → Bool
same_pair e f = (e.from == f.from) && (e.to == f.to)

-- the messages that a net line names: those that an end sends, 0 for the master, with this type code; the nth of them, or each one for 0
pub record AreMessages (slaves : List SlaveDesc) (e t n : ℕ) : Type 0 where
  pub end : e ≤ length slaves
  pub type_id : t < 256
  pub nth : n ≤ 1000000

-- how many messages are sent before one comes that is late
abbrev pub IsLag : ℕ → Type 0
IsLag lag = (1 ≤ lag) × (lag ≤ 1000)

abbrev pub IsNetLine : List SlaveDesc → NetLine → Type 0
IsNetLine slaves (lines.Drop end type_id nth) = AreMessages slaves end type_id nth
IsNetLine slaves (lines.Copy end type_id nth lag) = AreMessages slaves end type_id nth × IsLag lag
IsNetLine slaves (lines.Hold end type_id nth lag) = AreMessages slaves end type_id nth × IsLag lag

-- the chances are per mille
pub record IsChaos (c : Chaos) : Type 0 where
  pub start : c.start < 2 ^ 64
  pub drop : c.drop ≤ 1000
  pub repeat : c.repeat ≤ 1000
  pub hold : c.hold ≤ 1000

-- what the network does
pub record IsPlan (slaves : List SlaveDesc) (net : NetPlan) : Type 0 where
  pub few : length net.lines ≤ 64
  pub lines : All (λ l. IsNetLine slaves l) net.lines
  pub chaos : IfSome net.chaos (λ c. IsChaos c)

-- all settings in order: those of the first run, then those of the later ones
abbrev pub changes : List Setting → List Rerun → List Setting
changes settings reruns = settings ++ map setting_in reruns

-- each kind takes its parameters after each setting
abbrev pub AreTaken : List SlaveDesc → List Setting → Type 0
AreTaken slaves xs = (n s : ℕ) → IsSlave slaves s → takes_at slaves s (changed (parameters_at slaves s) s (take n xs)) ≡ true

pub record IsLimits (l : Limits) : Type 0 where
  pub turn_limit : (1 ≤ l.turn_limit) × (l.turn_limit ≤ 1000)
  pub tries : (1 ≤ l.tries) × (l.tries ≤ 20)
  pub watch_turns : (1 ≤ l.watch_turns) × (l.watch_turns ≤ 1000)
  pub state_limit : (1 ≤ l.state_limit) × (l.state_limit ≤ 1000)
  pub retry_turns : (1 ≤ l.retry_turns) × (l.retry_turns ≤ 1000)
  pub data_turns : (1 ≤ l.data_turns) × (l.data_turns ≤ 1000)
  pub step_tries : (2 ≤ l.step_tries) × (l.step_tries ≤ 20)

-- each slave's model is one of this program's: what a master needs of a scenario is `IsScenario` alone, and this is what is needed besides
-- where its slaves run here, or where what they show is computed
abbrev pub HaveModels : List SlaveDesc → Type 0
HaveModels slaves = All (λ d. HasModel d) slaves

-- a scenario that a text can give
pub record IsScenario (s : Scenario) : Type 0 where
  pub steps : s.steps ≤ 100000
  pub micro : (1 ≤ s.micro) × (s.micro ≤ 1000)
  pub runs : (1 ≤ s.runs) × (s.runs ≤ 100)
  pub master : IsAddress s.master
  pub limits : IsLimits s.limits
  pub few_slaves : (1 ≤ length s.slaves) × (length s.slaves ≤ 16)
  pub slaves : All (λ d. IsDesc d) s.slaves
  pub names_apart : AllPairs (λ d e. d.name ≢ e.name) s.slaves
  pub addresses_apart : AllPairs (λ d e. d.address ≢ e.address) s.slaves
  pub master_apart : All (λ d. s.master ≢ d.address) s.slaves
  pub small : is_too_much s.slaves s.steps s.runs ≡ false
  pub wires : All (λ w. IsWire s.slaves w) s.wires
  pub one_wire : AllPairs (λ v w. same_input v w ≡ false) s.wires
  pub few_wires : length s.wires ≤ 128
  pub settings : All (λ x. IsSetting s.slaves x) s.settings
  pub reruns : All (λ r. IsRerun s.slaves s.runs r) s.reruns
  pub in_order : AllPairs (λ q r. q.run ≤ r.run) s.reruns
  pub taken : AreTaken s.slaves (changes s.settings s.reruns)
  pub every : All (λ e. IsEvery s.slaves s.wires e) s.every
  pub one_interval : AllPairs (λ e f. same_pair e f ≡ false) s.every
  pub net : IsPlan s.slaves s.net
