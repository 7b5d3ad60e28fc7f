-- Which descriptions are sound.
use Rattle.std.specs.Prelude.{◌≡◌, ◌≢◌, ◌≤◌, ◌<◌, ◌^◌, true, false, List, length, FitsSigned, All, AllPairs}
use Rattle.std.specs.Int.{w64}
use Rattle.dcp_types.specs.Names.{is_name}
use Rattle.fixed_models.specs.Kinds.{is_external, takes, has_ports}
use Rattle.slave_desc.specs.declared.ports.Port.{Port}
use Rattle.slave_desc.specs.declared.descriptions.SlaveDesc.{SlaveDesc}

-- ports have value references of their own
abbrev pub AreApart : List Port → Type 0
AreApart ports = AllPairs (λ p q. p.vr ≢ q.vr) ports

-- its model is one of this program's, so that its steps can be computed here
abbrev pub HasModel : SlaveDesc → Type 0
HasModel d = is_external d.kind ≡ false

-- a description whose parts are in range
pub record IsDesc (d : SlaveDesc) : Type 0 where
  pub name : is_name d.name ≡ true
  pub uuid : d.uuid < 2 ^ 128
  pub ip : d.address.ip < 2 ^ 32
  pub port : (1 ≤ d.address.port) × (d.address.port < 2 ^ 16)
  pub parameters : All (λ z. FitsSigned w64 z) d.parameters
  pub taken : takes d.kind d.parameters ≡ true
  pub busy : d.busy ≤ 50
  pub heartbeat : d.heartbeat ≤ 100000
  pub numerator : (1 ≤ d.numerator) × (d.numerator < 2 ^ 32)
  pub denominator : (1 ≤ d.denominator) × (d.denominator < 2 ^ 32)
  pub vrs : All (λ p. p.vr < 2 ^ 64) d.inputs × All (λ p. p.vr < 2 ^ 64) d.outputs
  pub few_inputs : length d.inputs ≤ 8
  pub few_outputs : (1 ≤ length d.outputs) × (length d.outputs ≤ 8)
  pub inputs_apart : AreApart d.inputs
  pub outputs_apart : AreApart d.outputs
  pub ports : has_ports d.kind (length d.inputs) (length d.outputs) ≡ true
