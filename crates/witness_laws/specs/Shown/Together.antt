-- Two slaves that exchange one step.
use Rattle.std.specs.Prelude.{ℕ, pos, ◌+◌, List, [], ◌∷◌, reverse}
use Rattle.dcp_ends.specs.declared.entries.LogEntry.{LogEntry}
use Rattle.master_spec.specs.Exchanged.{Exchanged}
use Rattle.master_spec.specs.declared.setups.Setup.{Setup}
use Rattle.master_spec.specs.declared.setups.Slave.{Slave}
use Rattle.pdu_layout.specs.declared.messages.Cfg.TheVariants as cfg
use Rattle.dcp_types.specs.declared.data_types.DataType.TheVariants as types
use Rattle.witness_laws.specs.Shown.Ends.{pair, small_slave, turn, adjusted, change_entry, started, stepped_entry, asked_state, ack_entry, told_state, data_entry}
use Rattle.witness_laws.specs.Shown.Pairs.{both_registered}

-- both go from one state to another: code is that of the request, n its number, and state the state that it names
abbrev pub both_slaves : (code n state target : ℕ) → List LogEntry → List LogEntry
both_slaves code n state target rest =
    turn ∷ change_entry 1 code n state ∷ change_entry 2 code n state ∷ ack_entry 1 n ∷ ack_entry 2 n
    ∷ turn ∷ asked_state 1 (n + 1) ∷ asked_state 2 (n + 1) ∷ told_state 1 (n + 1) target ∷ told_state 2 (n + 1) target ∷ rest

-- both send their outputs of a row
abbrev pub both_send : (n row state target : ℕ) → List LogEntry → List LogEntry
both_send n row state target rest =
    turn ∷ change_entry 1 8 n state ∷ change_entry 2 8 n state ∷ ack_entry 1 n ∷ ack_entry 2 n ∷ data_entry 1 row 7 ∷ data_entry 2 row 7
    ∷ turn ∷ asked_state 1 (n + 1) ∷ asked_state 2 (n + 1) ∷ told_state 1 (n + 1) target ∷ told_state 2 (n + 1) target ∷ rest

abbrev pub both_running : List LogEntry → List LogEntry
both_running rest = both_registered (ack_entry 2 2 ∷ both_slaves 3 3 1 3 (both_slaves 4 5 3 5 (both_slaves 5 7 5 7 (both_send 9 0 7 5 (
    turn ∷ started 1 11 ∷ started 2 11 ∷ ack_entry 1 11 ∷ ack_entry 2 11
    ∷ turn ∷ asked_state 1 12 ∷ asked_state 2 12 ∷ told_state 1 12 11 ∷ told_state 2 12 11 ∷ rest)))))

abbrev pub together : List LogEntry
together = both_running (
    turn ∷ stepped_entry 1 13 ∷ stepped_entry 2 13 ∷ ack_entry 1 13 ∷ ack_entry 2 13
    ∷ turn ∷ asked_state 1 14 ∷ asked_state 2 14 ∷ told_state 1 14 13 ∷ told_state 2 14 13
    ∷ both_send 15 1 13 11 (both_slaves 9 17 11 16 (turn ∷ change_entry 1 2 19 16 ∷ change_entry 2 2 19 16 ∷ ack_entry 1 19 ∷ ack_entry 2 19 ∷ turn ∷ [])))

-- the first is asked for its outputs before the second has computed
abbrev pub one_ahead : List LogEntry
one_ahead = both_running (
    turn ∷ stepped_entry 1 13 ∷ stepped_entry 2 13 ∷ ack_entry 1 13 ∷ ack_entry 2 13
    ∷ turn ∷ asked_state 1 14 ∷ asked_state 2 14 ∷ told_state 1 14 13 ∷ change_entry 1 8 15 13 ∷ told_state 2 14 13 ∷ change_entry 2 8 15 13
    ∷ ack_entry 1 15 ∷ ack_entry 2 15 ∷ data_entry 1 1 7 ∷ data_entry 2 1 7
    ∷ turn ∷ asked_state 1 16 ∷ asked_state 2 16 ∷ told_state 1 16 11 ∷ told_state 2 16 11
    ∷ turn ∷ change_entry 1 9 17 11 ∷ change_entry 2 9 17 11 ∷ [])

-- the first is asked to stop before the outputs of the second have come
abbrev pub one_behind : List LogEntry
one_behind = both_running (
    turn ∷ stepped_entry 1 13 ∷ stepped_entry 2 13 ∷ ack_entry 1 13 ∷ ack_entry 2 13
    ∷ turn ∷ asked_state 1 14 ∷ asked_state 2 14 ∷ told_state 1 14 13 ∷ told_state 2 14 13
    ∷ turn ∷ change_entry 1 8 15 13 ∷ change_entry 2 8 15 13 ∷ ack_entry 1 15 ∷ ack_entry 2 15 ∷ data_entry 1 1 7
    ∷ turn ∷ asked_state 1 16 ∷ asked_state 2 16 ∷ told_state 1 16 11 ∷ told_state 2 16 11
    ∷ turn ∷ change_entry 1 9 17 11 ∷ data_entry 2 1 7 ∷ change_entry 2 9 17 11 ∷ [])

-- ---- two runs without steps: the second does not answer when it is reset, and the first tells each time that it is in CONFIGURATION

abbrev pub pair_twice : Setup
pair_twice = record (pair 3 1 0) { runs = 2 }

abbrev pub silent_in_reset : List LogEntry
silent_in_reset = both_running (both_slaves 9 13 11 16 (
    turn ∷ change_entry 1 10 15 16 ∷ change_entry 2 10 15 16 ∷ ack_entry 1 15 ∷ asked_state 1 16 ∷ told_state 1 16 1
    ∷ turn ∷ asked_state 1 17 ∷ told_state 1 17 1 ∷ turn ∷ asked_state 1 18 ∷ told_state 1 18 1 ∷ turn ∷ asked_state 1 19 ∷ told_state 1 19 1 ∷ turn ∷ []))

-- ---- the second has a parameter to set between the runs and does not answer; the first has none, and is asked for a sign of life

abbrev pub second_set : Slave
second_set = record (small_slave 2) { script = record { uuid = 2; setup = cfg.Clear ∷ []; adjusts = (cfg.Parameter 0 types.I64 (pos 5) ∷ []) ∷ [] } }

abbrev pub pair_adjusted : Setup
pair_adjusted = record (pair 3 1 0) { runs = 2; slaves = small_slave 1 ∷ second_set ∷ [] }

abbrev pub both_reset : List LogEntry → List LogEntry
both_reset rest = both_running (both_slaves 9 13 11 16 (
    turn ∷ change_entry 1 10 15 16 ∷ change_entry 2 10 15 16 ∷ ack_entry 1 15 ∷ asked_state 1 16 ∷ told_state 1 16 1 ∷ ack_entry 2 15 ∷ asked_state 2 16 ∷ told_state 2 16 1
    ∷ turn ∷ adjusted 2 17 5 ∷ turn ∷ asked_state 1 17 ∷ rest))

-- it tells a state of the run before
abbrev pub still_stopped : List LogEntry
still_stopped = both_reset (told_state 1 17 16 ∷ turn ∷ turn ∷ [])

-- it tells each time that it is in CONFIGURATION
abbrev pub silent_in_adjust : List LogEntry
silent_in_adjust = both_reset (told_state 1 17 1 ∷ turn ∷ asked_state 1 18 ∷ told_state 1 18 1 ∷ turn ∷ asked_state 1 19 ∷ told_state 1 19 1 ∷ turn ∷ [])

-- the step is not exchanged by both in this log
abbrev pub NotTogether : List LogEntry → Type 0
NotTogether log = Exchanged (pair 3 1 1) (reverse log) 1 1 → ⊥
