use Rattle.std.proofs.Common.{◌≡◌, ◌-◌, length}
use Rattle.slave_desc.specs.declared.descriptions.SlaveDesc.{SlaveDesc}
use Rattle.slave_spec.specs.Changes.{output, ids}
use Rattle.slave_spec.specs.Foreign.{ForeignPlant}
use Rattle.conform.specs.Plants.{ForeignFor}
use Rattle.conform.specs.Sending.{ids_from}
use Rattle.conform.proofs.plants.ForeignDevice.next_due.Given as goal

abbrev pub invariant-ids : goal.invariant-ids
invariant-ids l = (d : SlaveDesc) (p : ForeignPlant) → ForeignFor l.self d p → l.outputs ≡ length d.outputs
    → (ids_from l.from p.wires.changes p.steps ≡ ids_from l.target p.wires.changes p.steps) × (l.targets ≡ length (ids output p.wires.changes))

abbrev pub decreases-ids : goal.decreases-ids
decreases-ids l = l.targets - l.target
