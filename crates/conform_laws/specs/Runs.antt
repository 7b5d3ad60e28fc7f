-- The run of an end, cut into its events.
use Rattle.std.specs.Prelude.{◌≡◌, List, [], ◌∷◌, ◌++◌}
use Rattle.dcp_ends.specs.declared.entries.LogEntry.{LogEntry}
use Rattle.dcp_ends.specs.Events.{Event, Rules}
use Rattle.slave_spec.specs.Allowed.{Piece, Rests, Acts, entries_of, cut_entries}

-- each event has the sends that the rules give after the events before it
abbrev pub PiecesFollow : Rules → (before : List Event) → List Piece → Type 0
PiecesFollow rules before [] = Unit {0}
PiecesFollow rules before (Rests ∷ pieces) = PiecesFollow rules before pieces
PiecesFollow rules before (Acts event sent ∷ pieces) = (sent ≡ rules.sends before event) × PiecesFollow rules (before ++ event ∷ []) pieces

-- the entries of the end are its Idles, and its events with the sends of its rules right behind each
pub record IsCutRun (rules : Rules) (entries : List LogEntry) : Type 0 where
  pub pieces : List Piece
  pub cut : entries_of rules.place entries ≡ cut_entries rules.place pieces
  pub follow : PiecesFollow rules [] pieces
