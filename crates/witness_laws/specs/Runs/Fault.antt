-- A run in which the slave divides by zero at its step.
use Rattle.std.specs.Prelude.{List, [], ◌∷◌}
use Rattle.dcp_ends.specs.declared.entries.LogEntry.{LogEntry}
use Rattle.witness_laws.specs.Runs.Tables.{RoundTable, table_log}
use Rattle.witness_laws.specs.Runs.Talk.{master_end, slave_end, registers, changes_state, starts, steps_once, clears, sets_resolution, sets_output, sets_target, questions_state, questions_fault, acknowledges, names_state, names_fault, notices_state, carries, to_master, one_request, from_slave, from_slave_then, answered_with_bytes, round_of}

-- the rounds but for the last
unfoldable pub fault_rounds : List RoundTable
fault_rounds =
    round_of [] [] (one_request registers) []
    ∷ round_of [] (answered_with_bytes registers (acknowledges 0) ∷ []) [] []
    ∷ round_of (from_slave_then (acknowledges 0) (questions_state 1) ∷ []) (answered_with_bytes (questions_state 1) (names_state 1 1) ∷ []) [] []
    ∷ round_of (from_slave (names_state 1 1) ∷ []) [] (one_request (clears 2)) []
    ∷ round_of [] (answered_with_bytes (clears 2) (acknowledges 2) ∷ []) [] []
    ∷ round_of (from_slave_then (acknowledges 2) (sets_resolution 3) ∷ []) (answered_with_bytes (sets_resolution 3) (acknowledges 3) ∷ []) [] []
    ∷ round_of (from_slave_then (acknowledges 3) (sets_output 4 1) ∷ []) (answered_with_bytes (sets_output 4 1) (acknowledges 4) ∷ []) [] []
    ∷ round_of (from_slave_then (acknowledges 4) (sets_target 5 1 9) ∷ []) (answered_with_bytes (sets_target 5 1 9) (acknowledges 5) ∷ []) [] []
    ∷ round_of (from_slave (acknowledges 5) ∷ []) [] (one_request (changes_state 3 6 1)) []
    ∷ round_of [] (answered_with_bytes (changes_state 3 6 1) (acknowledges 6) ∷ []) [] (to_master (notices_state 3) ∷ [])
    ∷ round_of (from_slave (acknowledges 6) ∷ from_slave_then (notices_state 3) (questions_state 7) ∷ []) (answered_with_bytes (questions_state 7) (names_state 7 3) ∷ []) [] []
    ∷ round_of (from_slave (names_state 7 3) ∷ []) [] (one_request (changes_state 4 8 3)) []
    ∷ round_of [] (answered_with_bytes (changes_state 4 8 3) (acknowledges 8) ∷ []) [] (to_master (notices_state 5) ∷ [])
    ∷ round_of (from_slave (acknowledges 8) ∷ from_slave_then (notices_state 5) (questions_state 9) ∷ []) (answered_with_bytes (questions_state 9) (names_state 9 5) ∷ []) [] []
    ∷ round_of (from_slave (names_state 9 5) ∷ []) [] (one_request (changes_state 5 10 5)) []
    ∷ round_of [] (answered_with_bytes (changes_state 5 10 5) (acknowledges 10) ∷ []) [] (to_master (notices_state 7) ∷ [])
    ∷ round_of (from_slave (acknowledges 10) ∷ from_slave_then (notices_state 7) (questions_state 11) ∷ []) (answered_with_bytes (questions_state 11) (names_state 11 7) ∷ []) [] []
    ∷ round_of (from_slave (names_state 11 7) ∷ []) [] (one_request (changes_state 8 12 7)) []
    ∷ round_of [] (answered_with_bytes (changes_state 8 12 7) (acknowledges 12) ∷ []) [] (to_master (carries 0 1 0) ∷ to_master (notices_state 5) ∷ [])
    ∷ round_of (from_slave (acknowledges 12) ∷ from_slave (carries 0 1 0) ∷ from_slave_then (notices_state 5) (questions_state 13) ∷ []) (answered_with_bytes (questions_state 13) (names_state 13 5) ∷ []) [] []
    ∷ round_of (from_slave (names_state 13 5) ∷ []) [] (one_request (starts 14)) []
    ∷ round_of [] (answered_with_bytes (starts 14) (acknowledges 14) ∷ []) [] (to_master (notices_state 11) ∷ [])
    ∷ round_of (from_slave (acknowledges 14) ∷ from_slave_then (notices_state 11) (questions_state 15) ∷ []) (answered_with_bytes (questions_state 15) (names_state 15 11) ∷ []) [] []
    ∷ round_of (from_slave (names_state 15 11) ∷ []) [] (one_request (steps_once 16)) []
    ∷ round_of [] (answered_with_bytes (steps_once 16) (acknowledges 16) ∷ []) [] (to_master (notices_state 17) ∷ [])
    ∷ round_of (from_slave (acknowledges 16) ∷ from_slave_then (notices_state 17) (questions_state 17) ∷ []) (answered_with_bytes (questions_state 17) (names_state 17 17) ∷ []) [] (to_master (notices_state 18) ∷ [])
    ∷ round_of (from_slave_then (names_state 17 17) (questions_fault 18) ∷ from_slave (notices_state 18) ∷ []) (answered_with_bytes (questions_fault 18) (names_fault 18 33) ∷ []) [] []
    ∷ []

-- in the last one the master has its report at its turn
unfoldable pub fault_last : RoundTable
fault_last = round_of (from_slave (names_fault 18 33) ∷ []) [] [] []

abbrev pub fault_log : List LogEntry
fault_log = table_log master_end (slave_end ∷ []) fault_rounds fault_last
