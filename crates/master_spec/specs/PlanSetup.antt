-- How a slave is configured before the first run, and what is set before each later one.
use Rattle.std.specs.Prelude.{ℕ, ℤ, zero, suc, ◌+◌, ◌-◌, ◌==◌, ◌&&◌, Bool, if◌then◌else◌, Option, Some, None, List, [], ◌∷◌, ◌++◌, map, filter, length, slice_get}
use Rattle.std.specs.List.{flat_map, filter_map}
use Rattle.dcp_types.specs.Codes.{protocol_code}
use Rattle.dcp_types.specs.declared.addresses.Address.{Address}
use Rattle.dcp_types.specs.declared.protocols.Protocol.{Protocol}
use Rattle.dcp_types.specs.declared.data_types.DataType.{DataType}
use Rattle.dcp_types.specs.declared.data_types.DataType.TheVariants as types
use Rattle.pdu_layout.specs.declared.messages.Cfg.{Cfg}
use Rattle.pdu_layout.specs.declared.messages.Cfg.TheVariants as cfg
use Rattle.pdu_layout.specs.declared.messages.NetInfo.{NetInfo}
use Rattle.slave_desc.specs.declared.ports.Port.{Port}
use Rattle.slave_desc.specs.declared.descriptions.SlaveDesc.{SlaveDesc}
use Rattle.scenario.specs.declared.scenarios.Setting.{Setting}
use Rattle.scenario.specs.declared.scenarios.Rerun.{Rerun}
use Rattle.scenario.specs.declared.scenarios.Scenario.{Scenario}
use Rattle.scenario.specs.Settings.{setting_in}
use Rattle.scenario.specs.Lookups.{slave_at}
use Rattle.master_spec.specs.declared.links.DataLink.{DataLink}
use Rattle.master_spec.specs.declared.pairs.Pair.{Pair}
use Rattle.master_spec.specs.Links.{positions, wire_links}

abbrev pub source_address : Scenario → Option SlaveDesc → Address
source_address sc None = sc.master
source_address sc (Some d) = d.address

-- the address of an end: 0 is the master
abbrev pub address_at : Scenario → ℕ → Address
address_at sc e = source_address sc (slave_at sc.slaves e)

-- where a data id comes from or goes to
abbrev pub net_info : Scenario → (id e : ℕ) → NetInfo
net_info sc id e = record { data_id = id; protocol = protocol_code sc.protocol; port = (address_at sc e).port; ip = (address_at sc e).ip }

-- a parameter is set: its value reference is its index
abbrev pub set_parameter : Setting → Cfg
set_parameter x = cfg.Parameter x.index types.I64 x.value

-- the settings of slave s among these, in their order
abbrev pub settings_of : ℕ → List Setting → List Cfg
settings_of s xs = map set_parameter (filter (λ x. x.slave == s) xs)

-- an interval is told where it is not 1
abbrev pub told_interval : DataLink → List Cfg
told_interval l = if l.every == 1 then [] else cfg.Steps l.id l.every ∷ []

-- each thing told with its place, from a place on
abbrev pub numbered : {A : Type 0} → (ℕ → A → List Cfg) → ℕ → List A → List Cfg
numbered f i [] = []
numbered f i (x ∷ xs) = f i x ++ numbered f (i + 1) xs

abbrev pub input_at : (id i : ℕ) → Option Port → List Cfg
input_at id i None = []
input_at id i (Some p) = cfg.Input id i p.vr p.kind ∷ []

abbrev pub output_at : (id i : ℕ) → Option Port → List Cfg
output_at id i None = []
output_at id i (Some p) = cfg.Output id i p.vr ∷ []

-- what a slave is told of a data id that comes to it: each position, the sender's address, and the interval
abbrev pub incoming : Scenario → SlaveDesc → DataLink → List Cfg
incoming sc d l =
    numbered (λ i (p : Pair). input_at l.id i (slice_get d.inputs p.to)) 0 (positions sc.wires l.from l.to)
    ++ (cfg.Source (net_info sc l.id l.from) ∷ told_interval l)

-- what it is told of a data id that it sends to a slave
abbrev pub outgoing : Scenario → SlaveDesc → DataLink → List Cfg
outgoing sc d l =
    numbered (λ i (p : Pair). output_at l.id i (slice_get d.outputs p.from)) 0 (positions sc.wires l.from l.to)
    ++ (cfg.Target (net_info sc l.id l.to) ∷ told_interval l)

-- what it is told of its watch data: all outputs in port order, and the master's address
abbrev pub watched : Scenario → (s : ℕ) → SlaveDesc → List Cfg
watched sc s d = numbered (λ i (p : Port). output_at s i (Some p)) 0 d.outputs ++ cfg.Target (net_info sc s 0) ∷ []

-- The setup of slave s: it forgets all, is told its own resolution, then its settings, the data that comes to it, the data that it sends to slaves, and its watch data.
abbrev pub setup_list : Scenario → (s : ℕ) → SlaveDesc → List Cfg
setup_list sc s d =
    (cfg.Clear ∷ cfg.TimeRes d.numerator d.denominator ∷ [])
    ++ settings_of s sc.settings
    ++ flat_map (incoming sc d) (filter (λ l. l.to == s) (wire_links sc))
    ++ flat_map (outgoing sc d) (filter (λ l. l.from == s) (wire_links sc))
    ++ watched sc s d

-- what is set for slave s after run r, before the next one
abbrev pub adjust_list : Scenario → (r s : ℕ) → List Cfg
adjust_list sc r s = settings_of s (map setting_in (filter (λ x. x.run == r + 1) sc.reruns))

abbrev pub setup_in : Scenario → ℕ → Option SlaveDesc → List Cfg
setup_in sc s None = []
setup_in sc s (Some d) = setup_list sc s d

abbrev pub setup_of : Scenario → ℕ → List Cfg
setup_of sc s = setup_in sc s (slave_at sc.slaves s)
