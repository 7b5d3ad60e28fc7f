-- A slave whose answer to the first request, or to the questions after it, ends the run.
use Rattle.std.specs.Prelude.{List, [], ◌∷◌}
use Rattle.dcp_ends.specs.declared.entries.LogEntry.{LogEntry}
use Rattle.witness_laws.specs.Shown.Ends.{turn, register_entry, asked_state, asked_error, sent_entry, got, ack_entry, refused, told_state, told_error, told_log}

-- ---- a refusal

abbrev pub refusing : List LogEntry
refusing = turn ∷ register_entry 1 ∷ refused 1 0 10 ∷ turn ∷ []

-- the refusal of another request, from another sender, from another address, and after an acknowledgement
abbrev pub refused_other : List LogEntry
refused_other = turn ∷ register_entry 1 ∷ refused 1 1 10 ∷ []

abbrev pub refused_as_other : List LogEntry
refused_as_other = turn ∷ register_entry 1 ∷ got 1 (177 ∷ 0 ∷ 0 ∷ 2 ∷ 0 ∷ 0 ∷ 10 ∷ 0 ∷ []) ∷ []

abbrev pub refused_from_other : List LogEntry
refused_from_other = turn ∷ register_entry 1 ∷ got 2 (177 ∷ 0 ∷ 0 ∷ 1 ∷ 0 ∷ 0 ∷ 10 ∷ 0 ∷ []) ∷ []

abbrev pub refused_second : List LogEntry
refused_second = turn ∷ register_entry 1 ∷ ack_entry 1 0 ∷ asked_state 1 1 ∷ refused 1 0 10 ∷ []

-- a question that is refused before the first phase has begun
abbrev pub refused_before : List LogEntry
refused_before = asked_state 1 0 ∷ refused 1 0 10 ∷ []

-- ---- an answer that does not fit: to the first request, to the question for the state, and to that for the fault

abbrev pub state_for_change : List LogEntry
state_for_change = turn ∷ register_entry 1 ∷ told_state 1 0 0 ∷ turn ∷ []

abbrev pub log_for_change : List LogEntry
log_for_change = turn ∷ register_entry 1 ∷ told_log 1 0 ∷ turn ∷ []

abbrev pub other_state : List LogEntry
other_state = turn ∷ register_entry 1 ∷ ack_entry 1 0 ∷ asked_state 1 1 ∷ told_state 1 1 0 ∷ turn ∷ []

abbrev pub ack_for_state : List LogEntry
ack_for_state = turn ∷ register_entry 1 ∷ ack_entry 1 0 ∷ asked_state 1 1 ∷ ack_entry 1 1 ∷ turn ∷ []

abbrev pub state_for_error : List LogEntry
state_for_error = turn ∷ register_entry 1 ∷ ack_entry 1 0 ∷ asked_state 1 1 ∷ told_state 1 1 17 ∷ asked_error 1 2 ∷ told_state 1 2 17 ∷ turn ∷ []

-- the target
abbrev pub right_state : List LogEntry
right_state = turn ∷ register_entry 1 ∷ ack_entry 1 0 ∷ asked_state 1 1 ∷ told_state 1 1 1 ∷ []

-- a question for the log, of five entries at most, and its answer
abbrev pub log_for_log : List LogEntry
log_for_log = turn ∷ register_entry 1 ∷ ack_entry 1 0 ∷ sent_entry 1 (130 ∷ 1 ∷ 0 ∷ 1 ∷ 0 ∷ 5 ∷ []) ∷ told_log 1 1 ∷ []

-- ---- a fault

abbrev pub faulted : List LogEntry
faulted = turn ∷ register_entry 1 ∷ ack_entry 1 0 ∷ asked_state 1 1 ∷ told_state 1 1 17 ∷ asked_error 1 2 ∷ told_error 1 2 35 ∷ turn ∷ []

-- without the answer, and where the state before it is no error
abbrev pub fault_not_told : List LogEntry
fault_not_told = turn ∷ register_entry 1 ∷ ack_entry 1 0 ∷ asked_state 1 1 ∷ told_state 1 1 17 ∷ asked_error 1 2 ∷ []

abbrev pub no_error_state : List LogEntry
no_error_state = turn ∷ register_entry 1 ∷ ack_entry 1 0 ∷ asked_state 1 1 ∷ told_state 1 1 1 ∷ asked_error 1 2 ∷ told_error 1 2 35 ∷ []
