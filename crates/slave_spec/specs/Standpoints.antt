-- Where a slave's entries have come to: no event is under way, or one is with some of its Sents.
use Rattle.std.specs.Prelude.{List, [], ◌∷◌, ◌++◌}
use Rattle.dcp_ends.specs.declared.entries.LogEntry.{LogEntry}
use Rattle.dcp_ends.specs.declared.entries.LogEntry.TheVariants.{Sent, Got, Idle, Turn}
use Rattle.dcp_ends.specs.Events.{Event, Gram, Tick, Send}
use Rattle.slave_desc.specs.declared.descriptions.SlaveDesc.{SlaveDesc}
use Rattle.slave_spec.specs.Foreign.{ForeignState, foreign_fresh, MaySendAt}
use Rattle.slave_spec.specs.Allowed.{entries_of}

pub data Standpoint : Type 0 where
  Between : ForeignState → Standpoint
  Within : ForeignState → Event → List Send → Standpoint

-- from between two events an entry leads on
abbrev pub FromBetween : ForeignState → LogEntry → (Standpoint → Type 0) → Type 0
FromBetween x (Sent from to bytes) Next = ⊥
FromBetween x (Got at from bytes) Next = Next (Within x (Gram from bytes) [])
FromBetween x (Idle at) Next = Next (Between x)
FromBetween x (Turn at) Next = Next (Within x Tick [])

-- an event is over with these Sents, and an entry leads on from there
abbrev pub EndsThen : SlaveDesc → ForeignState → Event → List Send → (ForeignState → Type 0) → Type 0
EndsThen d x event gone Next = (y : ForeignState) × MaySendAt d x event gone y × Next y

-- an entry leads on
abbrev pub LeadsOn : SlaveDesc → Standpoint → LogEntry → (Standpoint → Type 0) → Type 0
LeadsOn d (Between x) entry Next = FromBetween x entry Next
LeadsOn d (Within x event gone) (Sent from to bytes) Next = Next (Within x event (gone ++ record { to = to; bytes = bytes } ∷ []))
LeadsOn d (Within x event gone) (Got at from bytes) Next = EndsThen d x event gone (λ y. FromBetween y (Got at from bytes) Next)
LeadsOn d (Within x event gone) (Idle at) Next = EndsThen d x event gone (λ y. FromBetween y (Idle at) Next)
LeadsOn d (Within x event gone) (Turn at) Next = EndsThen d x event gone (λ y. FromBetween y (Turn at) Next)

-- entries of the slave lead from a spot to one of which this holds
abbrev pub Walks : SlaveDesc → (Standpoint → Type 0) → List LogEntry → Standpoint → Type 0
Walks d Last [] spot = Last spot
Walks d Last (entry ∷ entries) spot = LeadsOn d spot entry (λ next. Walks d Last entries next)

-- the entries may end here
abbrev pub MayEnd : SlaveDesc → Standpoint → Type 0
MayEnd d (Between x) = Unit {0}
MayEnd d (Within x event gone) = (y : ForeignState) × MaySendAt d x event gone y

-- some Sents are left with which they may end
abbrev pub MayGoOn : SlaveDesc → Standpoint → Type 0
MayGoOn d (Between x) = Unit {0}
MayGoOn d (Within x event gone) = (left : List Send) × (y : ForeignState) × MaySendAt d x event (gone ++ left) y

-- Where the entries so far have come to: whatever entries of the slave follow, they may follow there.
pub record HasComeTo (d : SlaveDesc) (entries : List LogEntry) (spot : Standpoint) : Type 0 where
  pub goes_on : MayGoOn d spot
  pub ends : (more : List LogEntry) → Walks d (MayEnd d) (entries_of d.address entries ++ more) (Between foreign_fresh) → Walks d (MayEnd d) more spot
  pub ends_back : (more : List LogEntry) → Walks d (MayEnd d) more spot → Walks d (MayEnd d) (entries_of d.address entries ++ more) (Between foreign_fresh)
  pub goes : (more : List LogEntry) → Walks d (MayGoOn d) (entries_of d.address entries ++ more) (Between foreign_fresh) → Walks d (MayGoOn d) more spot
  pub goes_back : (more : List LogEntry) → Walks d (MayGoOn d) more spot → Walks d (MayGoOn d) (entries_of d.address entries ++ more) (Between foreign_fresh)
