-- What holds of allowed logs.
use Rattle.std.specs.Prelude.{List}
use Rattle.dcp_ends.specs.declared.entries.LogEntry.{LogEntry}
use Rattle.slave_desc.specs.declared.descriptions.SlaveDesc.{SlaveDesc}
use Rattle.slave_spec.specs.Foreign.{foreign_fresh}
use Rattle.slave_spec.specs.Allowed.{entries_of, Allowed, IsAllowedFront}
use Rattle.slave_spec.specs.Standpoints.{Between, Walks, MayEnd, MayGoOn}

-- a log is allowed exactly where its entries lead to an end, one after the other
abbrev pub AllowedWalk : Type 0
AllowedWalk = (d : SlaveDesc) (entries : List LogEntry) →
    (Allowed d entries → Walks d (MayEnd d) (entries_of d.address entries) (Between foreign_fresh))
    × (Walks d (MayEnd d) (entries_of d.address entries) (Between foreign_fresh) → Allowed d entries)

-- an allowed log begins with them exactly where they lead to where one goes on
abbrev pub FrontsWalk : Type 0
FrontsWalk = (d : SlaveDesc) (entries : List LogEntry) →
    (IsAllowedFront d entries → Walks d (MayGoOn d) (entries_of d.address entries) (Between foreign_fresh))
    × (Walks d (MayGoOn d) (entries_of d.address entries) (Between foreign_fresh) → IsAllowedFront d entries)
