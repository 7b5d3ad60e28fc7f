-- What a wiring keeps, by the changes and the payloads so far.
use Rattle.std.specs.Prelude.{◌≡◌, nat_lt, length}
use Rattle.std.specs.List.{filter_map}
use Rattle.slave_desc.specs.declared.descriptions.SlaveDesc.{SlaveDesc}
use Rattle.slave_spec.specs.Changes.{time_given}
use Rattle.slave_spec.specs.Payloads.{WiringState}
use Rattle.slave_device.specs.Wires.Sending.{AreOutputs}
use Rattle.slave_device.specs.Wires.Receiving.{AreInputs}
use Rattle.slave_device.specs.declared.wirings.Wiring.{Wiring}

-- a slave with this description has this wiring after these changes and payloads
pub record WiringFor (w : Wiring) (d : SlaveDesc) (x : WiringState) : Type 0 where
  pub numerator : w.numerator ≡ d.numerator
  pub denominator : w.denominator ≡ d.denominator
  pub time : w.has_time ≡ nat_lt 0 (length (filter_map time_given x.changes))
  pub inputs : AreInputs d x w.inputs
  pub outputs : AreOutputs d x.changes w.outputs
