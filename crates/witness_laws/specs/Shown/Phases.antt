-- A slave that goes through the phases, up to the one in which it fails.
use Rattle.std.specs.Prelude.{List, [], ◌∷◌}
use Rattle.dcp_ends.specs.declared.entries.LogEntry.{LogEntry}
use Rattle.witness_laws.specs.Shown.Ends.{turn, register_entry, cleared, change_entry, started, stepped_entry, asked_state, got, ack_entry, refused, told_state, noticed, data_entry}

-- ---- phases that pass, before what comes then

abbrev pub set_up : List LogEntry → List LogEntry
set_up rest = turn ∷ register_entry 1 ∷ ack_entry 1 0 ∷ asked_state 1 1 ∷ told_state 1 1 1 ∷ turn ∷ cleared 1 2 ∷ ack_entry 1 2 ∷ rest

abbrev pub prepared_log : List LogEntry → List LogEntry
prepared_log rest = set_up (turn ∷ change_entry 1 3 3 1 ∷ ack_entry 1 3 ∷ turn ∷ asked_state 1 4 ∷ told_state 1 4 3 ∷ rest)

abbrev pub configured_log : List LogEntry → List LogEntry
configured_log rest = prepared_log (turn ∷ change_entry 1 4 5 3 ∷ ack_entry 1 5 ∷ turn ∷ asked_state 1 6 ∷ told_state 1 6 5 ∷ rest)

abbrev pub initialized_log : List LogEntry → List LogEntry
initialized_log rest = configured_log (turn ∷ change_entry 1 5 7 5 ∷ ack_entry 1 7 ∷ turn ∷ asked_state 1 8 ∷ told_state 1 8 7 ∷ rest)

-- the first outputs come before the state is asked for
abbrev pub ready_log : List LogEntry → List LogEntry
ready_log rest = initialized_log (turn ∷ change_entry 1 8 9 7 ∷ ack_entry 1 9 ∷ data_entry 1 0 7 ∷ turn ∷ asked_state 1 10 ∷ told_state 1 10 5 ∷ rest)

abbrev pub running : List LogEntry → List LogEntry
running rest = ready_log (turn ∷ started 1 11 ∷ ack_entry 1 11 ∷ turn ∷ asked_state 1 12 ∷ told_state 1 12 11 ∷ rest)

-- ---- stuck in the preparation

abbrev pub stuck : List LogEntry
stuck = set_up (turn ∷ change_entry 1 3 3 1 ∷ ack_entry 1 3 ∷ turn ∷ asked_state 1 4 ∷ told_state 1 4 2 ∷ turn ∷ [])

-- the question was sent before a turn had passed, since a notice came; the state is the one that the phase leads to
abbrev pub asked_at_once : List LogEntry
asked_at_once = set_up (turn ∷ change_entry 1 3 3 1 ∷ noticed 1 2 ∷ ack_entry 1 3 ∷ asked_state 1 4 ∷ told_state 1 4 2 ∷ [])

abbrev pub prepared_at_last : List LogEntry
prepared_at_last = prepared_log []

-- ---- the first outputs do not come

abbrev pub without_outputs : List LogEntry → List LogEntry
without_outputs rest = initialized_log (turn ∷ change_entry 1 8 9 7 ∷ ack_entry 1 9 ∷ turn ∷ asked_state 1 10 ∷ told_state 1 10 5 ∷ rest)

abbrev pub missing_outputs : List LogEntry
missing_outputs = without_outputs (turn ∷ [])

-- those of the next row, too many, and those that came before the phase do not count
abbrev pub other_outputs : List LogEntry
other_outputs = initialized_log (data_entry 1 0 7 ∷ turn ∷ change_entry 1 8 9 7 ∷ data_entry 1 1 7 ∷ ack_entry 1 9 ∷ turn ∷ asked_state 1 10 ∷ told_state 1 10 5 ∷ got 1 (240 ∷ 0 ∷ 0 ∷ 1 ∷ 0 ∷ 7 ∷ 7 ∷ []) ∷ turn ∷ [])

-- those that come after that turn do not count either
abbrev pub late_outputs : List LogEntry
late_outputs = without_outputs (turn ∷ data_entry 1 0 7 ∷ [])

-- one turn less, and outputs in the last moment
abbrev pub outputs_awaited : List LogEntry
outputs_awaited = without_outputs []

abbrev pub outputs_at_last : List LogEntry
outputs_at_last = without_outputs (data_entry 1 0 7 ∷ turn ∷ [])

-- ---- a step is refused for want of inputs

abbrev pub missing_inputs : List LogEntry
missing_inputs = running (turn ∷ stepped_entry 1 13 ∷ refused 1 13 8 ∷ turn ∷ stepped_entry 1 14 ∷ refused 1 14 8 ∷ turn ∷ [])

-- once, and the second time for another reason
abbrev pub refused_once : List LogEntry
refused_once = running (turn ∷ stepped_entry 1 13 ∷ refused 1 13 8 ∷ [])

abbrev pub refused_otherwise : List LogEntry
refused_otherwise = running (turn ∷ stepped_entry 1 13 ∷ refused 1 13 8 ∷ turn ∷ stepped_entry 1 14 ∷ refused 1 14 14 ∷ turn ∷ [])
