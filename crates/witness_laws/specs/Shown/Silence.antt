-- A slave that never answers: the first request is sent twice.
use Rattle.std.specs.Prelude.{List, [], ◌∷◌}
use Rattle.dcp_ends.specs.declared.entries.LogEntry.{LogEntry}
use Rattle.witness_laws.specs.Shown.Ends.{turn, register_entry, ack_entry, refused}

abbrev pub silent : List LogEntry
silent = turn ∷ register_entry 1 ∷ turn ∷ register_entry 1 ∷ turn ∷ []

-- one turn less, one sending less, and an answer before the last turn
abbrev pub one_turn_less : List LogEntry
one_turn_less = turn ∷ register_entry 1 ∷ turn ∷ register_entry 1 ∷ []

abbrev pub sent_once : List LogEntry
sent_once = turn ∷ register_entry 1 ∷ turn ∷ turn ∷ []

abbrev pub late_repeat : List LogEntry
late_repeat = turn ∷ register_entry 1 ∷ turn ∷ turn ∷ register_entry 1 ∷ turn ∷ []

abbrev pub answered_at_last : List LogEntry
answered_at_last = turn ∷ register_entry 1 ∷ turn ∷ register_entry 1 ∷ ack_entry 1 0 ∷ turn ∷ []

-- an answer after the report
abbrev pub refused_too_late : List LogEntry
refused_too_late = turn ∷ register_entry 1 ∷ turn ∷ register_entry 1 ∷ turn ∷ refused 1 0 10 ∷ []
