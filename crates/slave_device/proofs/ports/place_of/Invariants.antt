use Rattle.std.proofs.Common.{◌≡◌, ℕ, ◌<◌, get_or}
use Rattle.slave_desc.specs.declared.ports.Port.{Port}
use Rattle.slave_device.proofs.ports.place_of.Given as goal

abbrev pub invariant-loop-index : goal.invariant-loop-index
invariant-loop-index l = (k : ℕ) (d : Port) → k < l.index → (get_or l.ports k d).vr ≡ l.vr → ⊥
