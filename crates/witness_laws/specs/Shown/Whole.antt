-- A run of one step that finishes, and logs that lack one thing of it.
use Rattle.std.specs.Prelude.{List, [], ◌∷◌, reverse}
use Rattle.dcp_ends.specs.declared.entries.LogEntry.{LogEntry}
use Rattle.master_spec.specs.Exchanged.{Exchanged}
use Rattle.witness_laws.specs.Shown.Ends.{single, turn, sent_entry, change_entry, stepped_entry, asked_state, ack_entry, refused, told_state, noticed, data_entry}
use Rattle.witness_laws.specs.Shown.Phases.{running}

-- the step is not exchanged in this log
abbrev pub NotExchanged : List LogEntry → Type 0
NotExchanged log = Exchanged (single 1) (reverse log) 1 1 → ⊥

abbrev pub whole : List LogEntry
whole = running (
    turn ∷ stepped_entry 1 13 ∷ ack_entry 1 13 ∷ turn ∷ asked_state 1 14 ∷ told_state 1 14 13
    ∷ turn ∷ change_entry 1 8 15 13 ∷ ack_entry 1 15 ∷ data_entry 1 1 8 ∷ turn ∷ asked_state 1 16 ∷ told_state 1 16 11
    ∷ turn ∷ change_entry 1 9 17 11 ∷ ack_entry 1 17 ∷ turn ∷ asked_state 1 18 ∷ told_state 1 18 16
    ∷ turn ∷ change_entry 1 2 19 16 ∷ ack_entry 1 19 ∷ turn ∷ [])

-- a notice tells that the slave has computed, and no answer does
abbrev pub only_noticed : List LogEntry
only_noticed = running (
    turn ∷ stepped_entry 1 13 ∷ ack_entry 1 13 ∷ noticed 1 13
    ∷ turn ∷ change_entry 1 8 14 13 ∷ ack_entry 1 14 ∷ data_entry 1 1 8 ∷ turn ∷ asked_state 1 15 ∷ told_state 1 15 11
    ∷ turn ∷ change_entry 1 9 16 11 ∷ ack_entry 1 16 ∷ [])

-- the outputs are asked for before the slave tells that it has computed
abbrev pub asked_too_early : List LogEntry
asked_too_early = running (
    turn ∷ stepped_entry 1 13 ∷ ack_entry 1 13 ∷ turn ∷ change_entry 1 8 14 13 ∷ ack_entry 1 14 ∷ asked_state 1 15 ∷ told_state 1 15 13
    ∷ data_entry 1 1 8 ∷ turn ∷ asked_state 1 16 ∷ told_state 1 16 11 ∷ turn ∷ change_entry 1 9 17 11 ∷ ack_entry 1 17 ∷ [])

-- the values come before the slave tells that it has computed
abbrev pub early_values : List LogEntry
early_values = running (
    turn ∷ stepped_entry 1 13 ∷ ack_entry 1 13 ∷ data_entry 1 1 8 ∷ turn ∷ asked_state 1 14 ∷ told_state 1 14 13
    ∷ turn ∷ change_entry 1 8 15 13 ∷ ack_entry 1 15 ∷ turn ∷ asked_state 1 16 ∷ told_state 1 16 11
    ∷ turn ∷ change_entry 1 9 17 11 ∷ ack_entry 1 17 ∷ [])

-- the values come after the slave was asked to stop
abbrev pub late_values : List LogEntry
late_values = running (
    turn ∷ stepped_entry 1 13 ∷ ack_entry 1 13 ∷ turn ∷ asked_state 1 14 ∷ told_state 1 14 13
    ∷ turn ∷ change_entry 1 8 15 13 ∷ ack_entry 1 15 ∷ turn ∷ asked_state 1 16 ∷ told_state 1 16 11
    ∷ turn ∷ change_entry 1 9 17 11 ∷ data_entry 1 1 8 ∷ ack_entry 1 17 ∷ [])

-- the slave does not tell that it runs again
abbrev pub not_running : List LogEntry
not_running = running (
    turn ∷ stepped_entry 1 13 ∷ ack_entry 1 13 ∷ turn ∷ asked_state 1 14 ∷ told_state 1 14 13
    ∷ turn ∷ change_entry 1 8 15 13 ∷ ack_entry 1 15 ∷ data_entry 1 1 8 ∷ turn ∷ asked_state 1 16 ∷ told_state 1 16 14
    ∷ turn ∷ change_entry 1 9 17 11 ∷ ack_entry 1 17 ∷ [])

-- the outputs are refused
abbrev pub outputs_refused : List LogEntry
outputs_refused = running (
    turn ∷ stepped_entry 1 13 ∷ ack_entry 1 13 ∷ turn ∷ asked_state 1 14 ∷ told_state 1 14 13
    ∷ turn ∷ change_entry 1 8 15 13 ∷ refused 1 15 2 ∷ data_entry 1 1 8 ∷ turn ∷ asked_state 1 16 ∷ told_state 1 16 11
    ∷ turn ∷ change_entry 1 9 17 11 ∷ ack_entry 1 17 ∷ [])

-- two steps are asked for at once
abbrev pub two_at_once : List LogEntry
two_at_once = running (
    turn ∷ sent_entry 1 (7 ∷ 13 ∷ 0 ∷ 1 ∷ 11 ∷ 2 ∷ 0 ∷ 0 ∷ 0 ∷ []) ∷ ack_entry 1 13 ∷ turn ∷ asked_state 1 14 ∷ told_state 1 14 13
    ∷ turn ∷ change_entry 1 8 15 13 ∷ ack_entry 1 15 ∷ data_entry 1 1 8 ∷ turn ∷ asked_state 1 16 ∷ told_state 1 16 11
    ∷ turn ∷ change_entry 1 9 17 11 ∷ ack_entry 1 17 ∷ [])
