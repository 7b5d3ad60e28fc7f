-- What the code keeps of a slave's machine, and where it stands.
use Rattle.std.specs.Prelude.{◌≡◌}
use Rattle.fixed_models.specs.Views.{moved}
use Rattle.slave_desc.specs.declared.descriptions.SlaveDesc.{SlaveDesc}
use Rattle.slave_spec.specs.Payloads.{WiringState}
use Rattle.slave_spec.specs.Plants.{Plant}
use Rattle.slave_spec.specs.Turns.{Stay, Wait, Fault, Step, Pass}
use Rattle.slave_spec.specs.Turns as turns
use Rattle.slave_device.specs.declared.devices.Device.{Device}
use Rattle.slave_device.specs.declared.acts.Act.{Act}
use Rattle.slave_device.specs.declared.acts.Act.TheVariants as acts

-- the machine stands where the definition has it
pub record DeviceFor {W : Type 0} (wires : W → SlaveDesc → WiringState → Type 0) (c : Device W) (p : Plant) : Type 0 where
  pub state : c.state ≡ p.state
  pub steps : c.steps ≡ p.steps
  pub outputs_sent : c.outputs_sent ≡ p.outputs_sent
  pub busy_left : c.busy_left ≡ p.busy_left
  pub fault : c.fault ≡ p.fault
  pub wiring : wires c.wiring c.works.setup.desc p.wires
  pub model : c.works.model ≡ p.model
  pub log : c.log ≡ p.log

-- what a turn does, where a step was taken by the model
abbrev pub Acts : {W : Type 0} → (W → SlaveDesc → WiringState → Type 0) → Device W → Plant → Act → turns.Act → Type 0
Acts wires c p acts.Stay Stay = DeviceFor wires c p
Acts wires c p (acts.Wait left) (Wait n) = (left ≡ n) × DeviceFor wires c p
Acts wires c p (acts.Fault code) (Fault e) = (code ≡ e) × DeviceFor wires c p
Acts wires c p acts.Step (Step state) = DeviceFor wires c (record p { model = moved p.model state })
Acts wires c p acts.Pass Pass = DeviceFor wires c p
Acts wires c p _ _ = ⊥
