-- Two runs of one registration.
use Rattle.std.specs.Prelude.{ℕ, ◌+◌, List, [], ◌∷◌, reverse}
use Rattle.dcp_ends.specs.declared.entries.LogEntry.{LogEntry}
use Rattle.master_spec.specs.Exchanged.{AllExchanged, IsBetween}
use Rattle.witness_laws.specs.Shown.Ends.{twice, turn, change_entry, adjusted, started, stepped_entry, asked_state, ack_entry, refused, told_state, data_entry}
use Rattle.witness_laws.specs.Shown.Phases.{set_up}

-- a run up to its initialization: n is the number of the first request
abbrev pub initialized_from : (n : ℕ) → List LogEntry → List LogEntry
initialized_from n rest =
    turn ∷ change_entry 1 3 n 1 ∷ ack_entry 1 n ∷ turn ∷ asked_state 1 (n + 1) ∷ told_state 1 (n + 1) 3
    ∷ turn ∷ change_entry 1 4 (n + 2) 3 ∷ ack_entry 1 (n + 2) ∷ turn ∷ asked_state 1 (n + 3) ∷ told_state 1 (n + 3) 5
    ∷ turn ∷ change_entry 1 5 (n + 4) 5 ∷ ack_entry 1 (n + 4) ∷ turn ∷ asked_state 1 (n + 5) ∷ told_state 1 (n + 5) 7 ∷ rest

-- one run up to its stop: row is the row of the first outputs
abbrev pub one_run : (n row : ℕ) → List LogEntry → List LogEntry
one_run n row rest = initialized_from n (
    turn ∷ change_entry 1 8 (n + 6) 7 ∷ ack_entry 1 (n + 6) ∷ data_entry 1 row 7 ∷ turn ∷ asked_state 1 (n + 7) ∷ told_state 1 (n + 7) 5
    ∷ turn ∷ started 1 (n + 8) ∷ ack_entry 1 (n + 8) ∷ turn ∷ asked_state 1 (n + 9) ∷ told_state 1 (n + 9) 11
    ∷ turn ∷ stepped_entry 1 (n + 10) ∷ ack_entry 1 (n + 10) ∷ turn ∷ asked_state 1 (n + 11) ∷ told_state 1 (n + 11) 13
    ∷ turn ∷ change_entry 1 8 (n + 12) 13 ∷ ack_entry 1 (n + 12) ∷ data_entry 1 (row + 1) 8 ∷ turn ∷ asked_state 1 (n + 13) ∷ told_state 1 (n + 13) 11
    ∷ turn ∷ change_entry 1 9 (n + 14) 11 ∷ ack_entry 1 (n + 14) ∷ turn ∷ asked_state 1 (n + 15) ∷ told_state 1 (n + 15) 16 ∷ rest)

-- the first run, and what is done before the second
abbrev pub once_more : List LogEntry → List LogEntry
once_more rest = set_up (one_run 3 0 (
    turn ∷ change_entry 1 10 19 16 ∷ ack_entry 1 19 ∷ asked_state 1 20 ∷ told_state 1 20 1 ∷ turn ∷ adjusted 1 21 5 ∷ ack_entry 1 21 ∷ rest))

abbrev pub two_runs : List LogEntry
two_runs = once_more (one_run 22 2 (turn ∷ change_entry 1 2 38 16 ∷ ack_entry 1 38 ∷ turn ∷ []))

-- the first outputs of the first run come again in place of those of the second
abbrev pub old_outputs : List LogEntry
old_outputs = once_more (initialized_from 22 (
    turn ∷ change_entry 1 8 28 7 ∷ ack_entry 1 28 ∷ data_entry 1 0 7 ∷ turn ∷ asked_state 1 29 ∷ told_state 1 29 5 ∷ turn ∷ []))

-- the slave is not reset, and the reset is refused
abbrev pub not_reset : List LogEntry
not_reset = set_up (one_run 3 0 (one_run 19 2 []))

abbrev pub reset_refused : List LogEntry
reset_refused = set_up (one_run 3 0 (turn ∷ change_entry 1 10 19 16 ∷ refused 1 19 2 ∷ one_run 20 2 []))

-- it is prepared before its reset is acknowledged
abbrev pub prepared_too_early : List LogEntry
prepared_too_early = set_up (one_run 3 0 (one_run 19 2 (turn ∷ change_entry 1 10 35 16 ∷ ack_entry 1 35 ∷ [])))

-- the slave is stopped and reset before any start
abbrev pub reset_at_first : List LogEntry
reset_at_first = change_entry 1 9 0 11 ∷ ack_entry 1 0 ∷ change_entry 1 10 1 16 ∷ ack_entry 1 1 ∷ []

-- the second run is started, and its step is asked for, before the outputs of the first step are; they serve for both runs
abbrev pub overlapping : List LogEntry
overlapping = started 1 0 ∷ ack_entry 1 0 ∷ stepped_entry 1 1 ∷ ack_entry 1 1 ∷ asked_state 1 2 ∷ told_state 1 2 13
    ∷ started 1 3 ∷ ack_entry 1 3 ∷ stepped_entry 1 4 ∷ ack_entry 1 4 ∷ asked_state 1 5 ∷ told_state 1 5 13
    ∷ change_entry 1 8 6 13 ∷ ack_entry 1 6 ∷ data_entry 1 1 8 ∷ data_entry 1 3 8 ∷ asked_state 1 7 ∷ told_state 1 7 11
    ∷ change_entry 1 9 8 11 ∷ ack_entry 1 8 ∷ change_entry 1 10 9 16 ∷ ack_entry 1 9 ∷ []

-- not all is exchanged in this log
abbrev pub NotAllExchanged : List LogEntry → Type 0
NotAllExchanged log = AllExchanged twice (reverse log) → ⊥

-- there is no end of the first run before a second one in this log
abbrev pub NotBetween : List LogEntry → Type 0
NotBetween log = IsBetween twice (reverse log) 1 → ⊥
