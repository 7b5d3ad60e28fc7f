-- The logs that a slave may have whose model is not known.
use Rattle.std.specs.Prelude.{◌≡◌, List, [], ◌∷◌, ◌++◌, filter}
use Rattle.dcp_types.specs.declared.addresses.Address.{Address}
use Rattle.dcp_ends.specs.declared.entries.LogEntry.{LogEntry}
use Rattle.dcp_ends.specs.declared.entries.LogEntry.TheVariants.{Sent, Got, Idle, Turn}
use Rattle.dcp_ends.specs.Events.{Event, Send}
use Rattle.dcp_ends.specs.Logs.{same_address, entry_of, sent_by}
use Rattle.slave_desc.specs.declared.descriptions.SlaveDesc.{SlaveDesc}
use Rattle.slave_spec.specs.Foreign.{ForeignState, foreign_fresh, MaySendAt}

-- the end that an entry is of
abbrev pub end_of_entry : LogEntry → Address
end_of_entry (Sent from to bytes) = from
end_of_entry (Got at from bytes) = at
end_of_entry (Idle at) = at
end_of_entry (Turn at) = at

-- the entries of an end, all others left out
abbrev pub entries_of : Address → List LogEntry → List LogEntry
entries_of place entries = filter (λ entry. same_address (end_of_entry entry) place) entries

-- A piece of such a list: an Idle, or a Got or a Turn with the Sents that belong to it.
pub data Piece : Type 0 where
  Rests : Piece
  Acts : Event → List Send → Piece

abbrev pub piece_entries : Address → Piece → List LogEntry
piece_entries place Rests = Idle place ∷ []
piece_entries place (Acts event sent) = entry_of place event ∷ sent_by place sent

abbrev pub cut_entries : Address → List Piece → List LogEntry
cut_entries place [] = []
cut_entries place (piece ∷ pieces) = piece_entries place piece ++ cut_entries place pieces

-- each event has Sents that a slave may send at it
abbrev pub AreAllowed : SlaveDesc → ForeignState → List Piece → Type 0
AreAllowed d x [] = Unit {0}
AreAllowed d x (Rests ∷ pieces) = AreAllowed d x pieces
AreAllowed d x (Acts event sent ∷ pieces) = (y : ForeignState) × MaySendAt d x event sent y × AreAllowed d y pieces

-- The entries of the slave can be cut into pieces that it may have from its beginning on.
pub record Allowed (d : SlaveDesc) (entries : List LogEntry) : Type 0 where
  pub pieces : List Piece
  pub cut : entries_of d.address entries ≡ cut_entries d.address pieces
  pub allowed : AreAllowed d foreign_fresh pieces

-- some allowed list begins with these entries
abbrev pub IsAllowedFront : SlaveDesc → List LogEntry → Type 0
IsAllowedFront d entries = (more : List LogEntry) × Allowed d (entries ++ more)
