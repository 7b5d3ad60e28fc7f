-- Slaves by their names.
use Rattle.std.specs.Prelude.{◌≡◌, ℕ, ◌≤◌, List, IsSomeAnd}
use Rattle.slave_desc.specs.declared.descriptions.SlaveDesc.{SlaveDesc}
use Rattle.scenario.specs.Lookups.{slave_at}

-- this slave has this name
abbrev pub IsNamed : List SlaveDesc → (s : ℕ) → (name : List ℕ) → Type 0
IsNamed slaves s name = (1 ≤ s) × (s ≤ 16) × IsSomeAnd (slave_at slaves s) (λ d. d.name ≡ name)
