-- The value of a port in a row: a row has the outputs of all slaves, by slave and then by port.
use Rattle.std.specs.Prelude.{ℕ, ℤ, ◌+◌, ◌==◌, nat_lt, if◌then◌else◌, Option, Some, None, option_map, List, [], ◌∷◌, length, take, drop, slice_get}
use Rattle.master_spec.specs.declared.setups.Slave.{Slave}

-- the outputs of the slave with this number in a row of these slaves
abbrev pub outputs_for : List Slave → (id : ℕ) → List ℤ → List ℤ
outputs_for [] id row = []
outputs_for (slave ∷ slaves) id row =
    if slave.id == id then take (length slave.types) row else outputs_for slaves id (drop (length slave.types) row)

abbrev pub value_in_row : List Slave → Option (List ℤ) → (id port : ℕ) → Option ℤ
value_in_row slaves None id port = None
value_in_row slaves (Some row) id port = slice_get (outputs_for slaves id row) port

-- the value in row k, where there is such a row, slave and port
abbrev pub column_value : List Slave → List (List ℤ) → (k id port : ℕ) → Option ℤ
column_value slaves rows k id port = value_in_row slaves (slice_get rows k) id port

-- where it stands in its row
abbrev pub column_in : List Slave → (id port : ℕ) → Option ℕ
column_in [] id port = None
column_in (slave ∷ slaves) id port =
    if slave.id == id then (if nat_lt port (length slave.types) then Some port else None)
    else option_map (λ column. length slave.types + column) (column_in slaves id port)
