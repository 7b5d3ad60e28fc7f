-- What one call of a network adds to its list of calls, and when it may fail.
use Rattle.std.specs.Prelude.{◌≡◌, ℕ, ◌≤◌, List, [], ◌∷◌, ◌++◌, take, Option, None, Some}
use Rattle.dcp_io.specs.Faults.{Rose}
use Rattle.dcp_types.specs.declared.addresses.Address.{Address}
use Rattle.dcp_ends.specs.declared.entries.LogEntry.{LogEntry}
use Rattle.dcp_ends.specs.declared.entries.LogEntry.TheVariants.{Sent, Got, Idle}
use Rattle.dcp_net.specs.declared.nets.Done.{Done}
use Rattle.dcp_net.specs.declared.nets.Done.TheVariants as done
use Rattle.dcp_net.specs.declared.nets.Taken.{Taken}
use Rattle.dcp_net.specs.declared.nets.Taken.TheVariants as taken

-- what a network tells after these calls too
abbrev pub told_more : Option (List LogEntry) → List LogEntry → Option (List LogEntry)
told_more None entries = None
told_more (Some calls) entries = Some (calls ++ entries)

-- the entry of a send that succeeded
abbrev pub sent_entries : Done → Address → Address → List ℕ → List LogEntry
sent_entries done.Ok from to bytes = Sent from to bytes ∷ []
sent_entries done.Failed from to bytes = []
sent_entries done.OutOfMemory from to bytes = []

-- the entry of a take that succeeded, whose datagram stands at the front of this room
abbrev pub took_entries : Address → Taken → List ℕ → List LogEntry
took_entries at taken.Nothing room = Idle at ∷ []
took_entries at (taken.Gram from len) room = Got at from (take len room) ∷ []
took_entries at taken.Failed room = []
took_entries at taken.OutOfMemory room = []

-- what was taken is no longer than the room
abbrev pub IsWithinRoom : Taken → Type 0
IsWithinRoom taken.Nothing = Unit {0}
IsWithinRoom (taken.Gram from len) = len ≤ 1025
IsWithinRoom taken.Failed = Unit {0}
IsWithinRoom taken.OutOfMemory = Unit {0}

-- a call fails only where the count of faults rises, and elsewhere the count stands still
pub record HasCause (before now : ℕ) (Failed : Type 0) : Type 0 where
  pub later : before ≤ now
  pub rose : Failed → Rose before now
  pub stays : (Failed → ⊥) → now ≡ before
