-- The port with a value reference.
use Rattle.std.specs.Prelude.{◌≡◌, ℕ, suc, ◌==◌, ◌<◌, List, [], ◌∷◌, length, Some, if◌then◌else◌}
use Rattle.slave_desc.specs.declared.ports.Port.{Port}
use Rattle.slave_spec.specs.Refusals.{port_with}
use Rattle.slave_spec.specs.Payloads.{port_type}
use Rattle.slave_device.specs.declared.places.PortPlace.{PortPlace}

-- the number of the first port with this value reference, or how many ports there are
abbrev pub port_index : ℕ → List Port → ℕ
port_index vr [] = 0
port_index vr (port ∷ ports) = if port.vr == vr then 0 else suc (port_index vr ports)

-- the place of the port with this value reference
abbrev pub place_with : List Port → ℕ → PortPlace
place_with ports vr = record { index = port_index vr ports; kind = port_type (port_with vr ports) }

pub record IsPort (vr : ℕ) (ports : List Port) (place : PortPlace) : Type 0 where
  pub port : Port
  pub found : port_with vr ports ≡ Some port
  pub same : place ≡ place_with ports vr
  pub within : place.index < length ports
