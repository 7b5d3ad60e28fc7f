-- Two slaves, of which one or both fail.
use Rattle.std.specs.Prelude.{List, [], ◌∷◌}
use Rattle.dcp_ends.specs.declared.entries.LogEntry.{LogEntry}
use Rattle.witness_laws.specs.Shown.Ends.{turn, register_entry, cleared, change_entry, asked_state, asked_error, ack_entry, told_state, told_error}

-- neither answers
abbrev pub both_silent : List LogEntry
both_silent = turn ∷ register_entry 1 ∷ register_entry 2 ∷ turn ∷ []

-- the second does not answer
abbrev pub second_silent : List LogEntry
second_silent = turn ∷ register_entry 1 ∷ register_entry 2 ∷ ack_entry 1 0 ∷ asked_state 1 1 ∷ told_state 1 1 1 ∷ turn ∷ []

-- the second does not answer, and the first tells a fault when it is asked for a sign of life
abbrev pub first_faulted : List LogEntry
first_faulted = turn ∷ register_entry 1 ∷ register_entry 2 ∷ ack_entry 1 0 ∷ asked_state 1 1 ∷ told_state 1 1 1
    ∷ turn ∷ asked_state 1 2 ∷ told_state 1 2 18 ∷ asked_error 1 3 ∷ told_error 1 3 35 ∷ turn ∷ []

-- ---- later phases, each request sent for three turns

abbrev pub both_registered : List LogEntry → List LogEntry
both_registered rest = turn ∷ register_entry 1 ∷ register_entry 2 ∷ ack_entry 1 0 ∷ asked_state 1 1 ∷ told_state 1 1 1 ∷ ack_entry 2 0 ∷ asked_state 2 1 ∷ told_state 2 1 1
    ∷ turn ∷ cleared 1 2 ∷ cleared 2 2 ∷ ack_entry 1 2 ∷ rest

-- the second is silent while it is configured; the first tells each time that it is in CONFIGURATION
abbrev pub silent_in_setup : List LogEntry
silent_in_setup = both_registered (
    turn ∷ asked_state 1 3 ∷ told_state 1 3 1 ∷ turn ∷ asked_state 1 4 ∷ told_state 1 4 1
    ∷ turn ∷ asked_state 1 5 ∷ told_state 1 5 1 ∷ turn ∷ [])

-- the first names the state that it passed through, after it has named the one that the phase leads to
abbrev pub fallen_back : List LogEntry
fallen_back = both_registered (
    ack_entry 2 2 ∷ turn ∷ change_entry 1 3 3 1 ∷ change_entry 2 3 3 1 ∷ ack_entry 1 3 ∷ turn ∷ asked_state 1 4 ∷ told_state 1 4 3
    ∷ turn ∷ asked_state 1 5 ∷ told_state 1 5 2 ∷ ack_entry 2 3 ∷ turn ∷ asked_state 2 4 ∷ told_state 2 4 3 ∷ turn ∷ [])
