-- Where the outputs of a slave stand in a row of the reference.
use Rattle.std.specs.Prelude.{◌≡◌, ℕ, ◌-◌, ◌≤◌, ◌<◌, Some, Ok, List, length, slice_get, slice_index_or, ℤ, pos}
use Rattle.slave_desc.specs.declared.descriptions.SlaveDesc.{SlaveDesc}
use Rattle.scenario.specs.declared.scenarios.Scenario.{Scenario}
use Rattle.scenario.specs.Sound.{IsScenario}
use Rattle.scenario.specs.Wiring.{column}
use Rattle.lockstep.specs.Lockstep.{row, shown}

-- what slave s shows at its output o stands in its column
abbrev pub RowsHaveParts : Type 0
RowsHaveParts = (sc : Scenario) → IsScenario sc → (rows : List (List ℤ)) (r k : ℕ) (whole : List ℤ) → row sc rows r k ≡ Ok whole
    → (s : ℕ) (d : SlaveDesc) → 1 ≤ s → slice_get sc.slaves (s - 1) ≡ Some d → (vs : List ℤ) → shown sc rows s d r k ≡ Ok vs → (o : ℕ) → o < length d.outputs
    → slice_index_or whole (column sc.slaves s o) (pos 0) ≡ slice_index_or vs o (pos 0)
