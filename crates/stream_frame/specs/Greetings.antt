-- What a connection begins with.
use Rattle.std.specs.Prelude.{ℕ, List, ◌++◌}
use Rattle.dcp_types.specs.Values.{digits}
use Rattle.dcp_types.specs.declared.addresses.Address.{Address}

-- the greeting of a sender: its ip in four bytes and its port in two, the lowest first
abbrev pub greeting : Address → List ℕ
greeting from = digits 4 from.ip ++ digits 2 from.port
