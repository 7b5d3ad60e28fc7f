-- Who is heard: the ends of the scenario, and nobody else.
use Rattle.std.specs.Prelude.{IsTrue, List, Bool, false, not}
use Rattle.std.specs.List.{list_any}
use Rattle.dcp_types.specs.declared.addresses.Address.{Address}
use Rattle.dcp_ends.specs.Logs.{same_address}
use Rattle.dcp_net.specs.declared.nets.Taken.{Taken}
use Rattle.dcp_net.specs.declared.nets.Taken.TheVariants as taken

-- an end is at this address
abbrev pub is_end_of : List Address → Address → Bool
is_end_of all from = list_any (λ place. same_address place from) all

-- what is taken comes from one of the ends
abbrev pub ComesFrom : List Address → Taken → Type 0
ComesFrom all taken.Nothing = Unit {0}
ComesFrom all (taken.Gram from len) = IsTrue (is_end_of all from)
ComesFrom all taken.Failed = Unit {0}
ComesFrom all taken.OutOfMemory = Unit {0}

-- what came of a stranger
abbrev pub is_strange : List Address → Taken → Bool
is_strange all taken.Nothing = false
is_strange all (taken.Gram from len) = not (is_end_of all from)
is_strange all taken.Failed = false
is_strange all taken.OutOfMemory = false
