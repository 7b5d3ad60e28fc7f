-- What a take gives, and lists of calls of which each take gave what was due.
use Rattle.std.specs.Prelude.{◌≡◌, ℕ, ◌≤◌, List, [], ◌∷◌, ◌++◌, take, Option, None, Some}
use Rattle.dcp_types.specs.declared.addresses.Address.{Address}
use Rattle.dcp_ends.specs.declared.entries.LogEntry.{LogEntry}
use Rattle.dcp_ends.specs.declared.entries.LogEntry.TheVariants.{Sent, Got, Idle, Turn}
use Rattle.dcp_net.specs.declared.openings.Opening.{Opening}
use Rattle.dcp_net.specs.declared.nets.Taken.{Taken}
use Rattle.dcp_net.specs.declared.nets.Taken.TheVariants as taken
use Rattle.net_world.specs.declared.deliveries.Arrival.{Arrival}
use Rattle.net_world.specs.Deliveries.{due}
use Rattle.net_world.specs.Messages.{messages}

-- what a network was opened with, and its successful calls since then
pub record Carried : Type 0 where
  pub opening : Opening
  pub calls : List LogEntry

-- a take gives what is due, and nothing exactly where nothing is
abbrev pub TakesDue : Option Arrival → Taken → List ℕ → Type 0
TakesDue None taken.Nothing room = Unit {0}
TakesDue (Some d) taken.Nothing room = ⊥
TakesDue None (taken.Gram from len) room = ⊥
TakesDue (Some d) (taken.Gram from len) room = (from ≡ d.from) × (take len room ≡ d.bytes)
TakesDue due taken.Failed room = Unit {0}
TakesDue due taken.OutOfMemory room = Unit {0}

-- a Got brings what is due
abbrev pub BringsDue : Option Arrival → Address → List ℕ → Type 0
BringsDue None from bytes = ⊥
BringsDue (Some d) from bytes = (from ≡ d.from) × (bytes ≡ d.bytes)

-- a call that a network makes after these calls: a Got of what is due, and an Idle where nothing is
abbrev pub MayBeMade : Opening → List LogEntry → LogEntry → Type 0
MayBeMade o calls (Sent from to bytes) = Unit {0}
MayBeMade o calls (Got at from bytes) = BringsDue (due o calls at) from bytes
MayBeMade o calls (Idle at) = due o calls at ≡ None
MayBeMade o calls (Turn at) = ⊥

-- each of these calls, after those before it, is one that the network makes
abbrev pub GivesDue : Opening → List LogEntry → List LogEntry → Type 0
GivesDue o calls [] = Unit {0}
GivesDue o calls (call ∷ more) = MayBeMade o calls call × GivesDue o (calls ++ call ∷ []) more

-- what a Got brings was sent so, and at most 32,767 messages were sent after it
pub record IsRecent (calls : List LogEntry) (at from : Address) (bytes : List ℕ) : Type 0 where
  pub earlier : List LogEntry
  pub later : List LogEntry
  pub is : calls ≡ earlier ++ Sent from at bytes ∷ later
  pub recent : messages later ≤ 32767

abbrev pub MayBeGot : List LogEntry → LogEntry → Type 0
MayBeGot calls (Sent from to bytes) = Unit {0}
MayBeGot calls (Got at from bytes) = IsRecent calls at from bytes
MayBeGot calls (Idle at) = Unit {0}
MayBeGot calls (Turn at) = Unit {0}

-- each Got of these calls, after those before them, brings what was sent so not long before
abbrev pub AllRecent : List LogEntry → List LogEntry → Type 0
AllRecent calls [] = Unit {0}
AllRecent calls (call ∷ more) = MayBeGot calls call × AllRecent (calls ++ call ∷ []) more
