-- A slave by its number, and what it has.
use Rattle.std.specs.Prelude.{ℕ, ℤ, ◌-◌, ◌==◌, List, [], if◌then◌else◌, Option, Some, None, slice_get}
use Rattle.dcp_types.specs.Codes.{type_code}
use Rattle.slave_desc.specs.declared.ports.Port.{Port}
use Rattle.slave_desc.specs.declared.descriptions.SlaveDesc.{SlaveDesc}

-- the slave of a number from 1
abbrev pub slave_at : List SlaveDesc → ℕ → Option SlaveDesc
slave_at slaves s = if s == 0 then None else slice_get slaves (s - 1)

-- what it has; none where there is no such slave
abbrev pub outputs_in : Option SlaveDesc → List Port
outputs_in None = []
outputs_in (Some s) = s.outputs

abbrev pub inputs_in : Option SlaveDesc → List Port
inputs_in None = []
inputs_in (Some s) = s.inputs

abbrev pub parameters_in : Option SlaveDesc → List ℤ
parameters_in None = []
parameters_in (Some s) = s.parameters

abbrev pub outputs_at : List SlaveDesc → ℕ → List Port
outputs_at slaves s = outputs_in (slave_at slaves s)

abbrev pub inputs_at : List SlaveDesc → ℕ → List Port
inputs_at slaves s = inputs_in (slave_at slaves s)

abbrev pub parameters_at : List SlaveDesc → ℕ → List ℤ
parameters_at slaves s = parameters_in (slave_at slaves s)

-- the code of a port's type; 0 where there is no such port
abbrev pub code_in : Option Port → ℕ
code_in None = 0
code_in (Some p) = type_code p.kind

abbrev pub type_at : List Port → ℕ → ℕ
type_at ports n = code_in (slice_get ports n)
