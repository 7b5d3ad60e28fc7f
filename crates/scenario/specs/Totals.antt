-- How much a scenario may compute.
use Rattle.std.specs.Prelude.{ℕ, ◌+◌, ◌*◌, Bool, ◌||◌, nat_lt, List, length, sum_by}
use Rattle.slave_desc.specs.declared.descriptions.SlaveDesc.{SlaveDesc}

-- the outputs of all slaves
abbrev pub total_outputs : List SlaveDesc → ℕ
total_outputs slaves = sum_by (λ s. length s.outputs) slaves

-- slaves x steps x runs is above 200,000, or outputs x (steps + 1) x runs above 1,000,000
abbrev pub is_too_much : List SlaveDesc → ℕ → ℕ → Bool
is_too_much slaves steps runs = nat_lt 200000 (length slaves * (steps * runs)) || nat_lt 1000000 (total_outputs slaves * ((steps + 1) * runs))
