-- A run of two steps over a bad network: a request is sent again, its answer comes twice, a step is refused once, and values come late.
use Rattle.std.specs.Prelude.{List, [], ◌∷◌}
use Rattle.dcp_ends.specs.declared.entries.LogEntry.{LogEntry}
use Rattle.witness_laws.specs.Shown.Ends.{turn, register_entry, cleared, change_entry, started, stepped_entry, asked_state, ack_entry, refused, told_state, data_entry}
use Rattle.witness_laws.specs.Shown.Runs.{initialized_from}

-- up to the outputs of the second step
abbrev pub rough : List LogEntry → List LogEntry
rough rest =
    turn ∷ register_entry 1 ∷ turn ∷ register_entry 1 ∷ ack_entry 1 0 ∷ asked_state 1 1 ∷ ack_entry 1 0 ∷ told_state 1 1 1 ∷ turn ∷ cleared 1 2 ∷ ack_entry 1 2
    ∷ initialized_from 3 (
    turn ∷ change_entry 1 8 9 7 ∷ ack_entry 1 9 ∷ data_entry 1 0 7 ∷ turn ∷ asked_state 1 10 ∷ told_state 1 10 5
    ∷ turn ∷ started 1 11 ∷ ack_entry 1 11 ∷ turn ∷ asked_state 1 12 ∷ told_state 1 12 11
    ∷ turn ∷ stepped_entry 1 13 ∷ refused 1 13 8 ∷ turn ∷ stepped_entry 1 14 ∷ ack_entry 1 14 ∷ turn ∷ asked_state 1 15 ∷ told_state 1 15 13
    ∷ turn ∷ change_entry 1 8 16 13 ∷ data_entry 1 1 8 ∷ ack_entry 1 16 ∷ turn ∷ asked_state 1 17 ∷ told_state 1 17 11
    ∷ turn ∷ stepped_entry 1 18 ∷ ack_entry 1 18 ∷ turn ∷ asked_state 1 19 ∷ told_state 1 19 13
    ∷ turn ∷ change_entry 1 8 20 13 ∷ ack_entry 1 20 ∷ turn ∷ asked_state 1 21 ∷ told_state 1 21 11 ∷ rest)

abbrev pub rough_whole : List LogEntry
rough_whole = rough (data_entry 1 2 9
    ∷ turn ∷ change_entry 1 9 22 11 ∷ ack_entry 1 22 ∷ turn ∷ asked_state 1 23 ∷ told_state 1 23 16 ∷ turn ∷ change_entry 1 2 24 16 ∷ ack_entry 1 24 ∷ turn ∷ [])

abbrev pub rough_missing : List LogEntry
rough_missing = rough (turn ∷ [])
