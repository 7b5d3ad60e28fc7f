-- The bytes of a message, by where they are kept.
use Rattle.std.specs.Prelude.{ℕ, ◌≤◌, List, take}
use Rattle.dcp_ends.specs.declared.entries.Kept.{Kept}
use Rattle.dcp_ends.specs.declared.entries.Kept.TheVariants.{Short, Long}

-- those at the front of the room, or all of the vector
abbrev pub bytes_kept : Kept → List ℕ
bytes_kept (Short len room) = take len room
bytes_kept (Long items) = items.items

-- short ones are no longer than their room
abbrev pub HasRoom : Kept → Type 0
HasRoom (Short len room) = len ≤ 30
HasRoom (Long items) = Unit {0}
