-- A step that the model has taken.
use Rattle.std.proofs.Common.{◌≡◌, ℕ, List, [], ◌∷◌}
use Rattle.dcp_types.specs.declared.addresses.Address.{Address}
use Rattle.dcp_types.specs.declared.states.State.TheVariants.{Computed}
use Rattle.dcp_ends.specs.Events.{Send}
use Rattle.fixed_models.specs.Views.{moved}
use Rattle.slave_desc.specs.declared.descriptions.SlaveDesc.{SlaveDesc}
use Rattle.slave_spec.specs.Payloads.{WiringState}
use Rattle.slave_spec.specs.declared.words.SlaveSetup.{SlaveSetup}
use Rattle.slave_spec.specs.Transport.{turned_sends}
use Rattle.slave_spec.specs.Plants.{Plant}
use Rattle.slave_spec.specs.Requests.{note}
use Rattle.slave_spec.specs.Turns.{Stay, Wait, Fault, Step, Pass, counted, turned, reached}
use Rattle.slave_spec.specs.Turns as turns
use Rattle.slave_device.specs.declared.devices.Device.{Device}
use Rattle.slave_device.specs.declared.acts.Act.TheVariants as acts
use Rattle.slave_device.specs.Devices.{DeviceFor, Acts}

abbrev pub stepped : Plant → Plant
stepped q = record q { state = Computed; steps = counted q.steps }

pub step_after : {W : Type 0} → (wires : W → SlaveDesc → WiringState → Type 0) (c d : Device W) (s : SlaveSetup) (p : Plant) (x : turns.Act) → Acts wires c p acts.Step x
    → ((q : Plant) → DeviceFor wires c q → DeviceFor wires d (reached [] (note 2 3 0 ∷ []) (stepped q)).after) → DeviceFor wires d (turned s p x).after
step_after wires c d s p (Step state) h f = f (record p { model = moved p.model state }) h
step_after wires c d s p Stay h f = absurd h
step_after wires c d s p (Wait n) h f = absurd h
step_after wires c d s p (Fault e) h f = absurd h
step_after wires c d s p Pass h f = absurd h

pub step_sends : {W : Type 0} → (wires : W → SlaveDesc → WiringState → Type 0) (c : Device W) (s : SlaveSetup) (p : Plant) (x : turns.Act) (master : Address) (id : ℕ) (out : List Send) → Acts wires c p acts.Step x
    → ((q : Plant) → DeviceFor wires c q → out ≡ turned_sends master id (reached [] (note 2 3 0 ∷ []) (stepped q))) → out ≡ turned_sends master id (turned s p x)
step_sends wires c s p (Step state) master id out h f = f (record p { model = moved p.model state }) h
step_sends wires c s p Stay master id out h f = absurd h
step_sends wires c s p (Wait n) master id out h f = absurd h
step_sends wires c s p (Fault e) master id out h f = absurd h
step_sends wires c s p Pass master id out h f = absurd h
