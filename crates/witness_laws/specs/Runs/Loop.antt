-- A run of the loop in which nothing is lost or late.
use Rattle.std.specs.Prelude.{List, [], ◌∷◌}
use Rattle.dcp_ends.specs.declared.entries.LogEntry.{LogEntry}
use Rattle.witness_laws.specs.Runs.Tables.{RoundTable, table_log}
use Rattle.witness_laws.specs.Runs.Talk.{master_end, slave_end, registers, changes_state, starts, steps_once, clears, sets_resolution, sets_input, sets_output, sets_source, sets_target, questions_state, acknowledges, names_state, notices_state, carries, to_slave, to_master, one_request, from_slave, from_slave_then, answered_with_bytes, round_of}

-- the rounds but for the last
unfoldable pub loop_rounds : List RoundTable
loop_rounds =
    round_of [] [] (one_request registers) []
    ∷ round_of [] (answered_with_bytes registers (acknowledges 0) ∷ []) [] []
    ∷ round_of (from_slave_then (acknowledges 0) (questions_state 1) ∷ []) (answered_with_bytes (questions_state 1) (names_state 1 1) ∷ []) [] []
    ∷ round_of (from_slave (names_state 1 1) ∷ []) [] (one_request (clears 2)) []
    ∷ round_of [] (answered_with_bytes (clears 2) (acknowledges 2) ∷ []) [] []
    ∷ round_of (from_slave_then (acknowledges 2) (sets_resolution 3) ∷ []) (answered_with_bytes (sets_resolution 3) (acknowledges 3) ∷ []) [] []
    ∷ round_of (from_slave_then (acknowledges 3) (sets_input 4 17) ∷ []) (answered_with_bytes (sets_input 4 17) (acknowledges 4) ∷ []) [] []
    ∷ round_of (from_slave_then (acknowledges 4) (sets_source 5 17 10) ∷ []) (answered_with_bytes (sets_source 5 17 10) (acknowledges 5) ∷ []) [] []
    ∷ round_of (from_slave_then (acknowledges 5) (sets_output 6 17) ∷ []) (answered_with_bytes (sets_output 6 17) (acknowledges 6) ∷ []) [] []
    ∷ round_of (from_slave_then (acknowledges 6) (sets_target 7 17 10) ∷ []) (answered_with_bytes (sets_target 7 17 10) (acknowledges 7) ∷ []) [] []
    ∷ round_of (from_slave_then (acknowledges 7) (sets_output 8 1) ∷ []) (answered_with_bytes (sets_output 8 1) (acknowledges 8) ∷ []) [] []
    ∷ round_of (from_slave_then (acknowledges 8) (sets_target 9 1 9) ∷ []) (answered_with_bytes (sets_target 9 1 9) (acknowledges 9) ∷ []) [] []
    ∷ round_of (from_slave (acknowledges 9) ∷ []) [] (one_request (changes_state 3 10 1)) []
    ∷ round_of [] (answered_with_bytes (changes_state 3 10 1) (acknowledges 10) ∷ []) [] (to_master (notices_state 3) ∷ [])
    ∷ round_of (from_slave (acknowledges 10) ∷ from_slave_then (notices_state 3) (questions_state 11) ∷ []) (answered_with_bytes (questions_state 11) (names_state 11 3) ∷ []) [] []
    ∷ round_of (from_slave (names_state 11 3) ∷ []) [] (one_request (changes_state 4 12 3)) []
    ∷ round_of [] (answered_with_bytes (changes_state 4 12 3) (acknowledges 12) ∷ []) [] (to_master (notices_state 5) ∷ [])
    ∷ round_of (from_slave (acknowledges 12) ∷ from_slave_then (notices_state 5) (questions_state 13) ∷ []) (answered_with_bytes (questions_state 13) (names_state 13 5) ∷ []) [] []
    ∷ round_of (from_slave (names_state 13 5) ∷ []) [] (one_request (changes_state 5 14 5)) []
    ∷ round_of [] (answered_with_bytes (changes_state 5 14 5) (acknowledges 14) ∷ []) [] (to_master (notices_state 7) ∷ [])
    ∷ round_of (from_slave (acknowledges 14) ∷ from_slave_then (notices_state 7) (questions_state 15) ∷ []) (answered_with_bytes (questions_state 15) (names_state 15 7) ∷ []) [] []
    ∷ round_of (from_slave (names_state 15 7) ∷ []) [] (one_request (changes_state 8 16 7)) []
    ∷ round_of [] (answered_with_bytes (changes_state 8 16 7) (acknowledges 16) ∷ []) [] (to_master (carries 0 1 1) ∷ to_slave (carries 0 17 1) ∷ to_master (notices_state 5) ∷ [])
    ∷ round_of (from_slave (acknowledges 16) ∷ from_slave (carries 0 1 1) ∷ from_slave_then (notices_state 5) (questions_state 17) ∷ []) (from_slave (carries 0 17 1) ∷ answered_with_bytes (questions_state 17) (names_state 17 5) ∷ []) [] []
    ∷ round_of (from_slave (names_state 17 5) ∷ []) [] (one_request (starts 18)) []
    ∷ round_of [] (answered_with_bytes (starts 18) (acknowledges 18) ∷ []) [] (to_master (notices_state 11) ∷ [])
    ∷ round_of (from_slave (acknowledges 18) ∷ from_slave_then (notices_state 11) (questions_state 19) ∷ []) (answered_with_bytes (questions_state 19) (names_state 19 11) ∷ []) [] []
    ∷ round_of (from_slave (names_state 19 11) ∷ []) [] (one_request (steps_once 20)) []
    ∷ round_of [] (answered_with_bytes (steps_once 20) (acknowledges 20) ∷ []) [] (to_master (notices_state 13) ∷ [])
    ∷ round_of (from_slave (acknowledges 20) ∷ from_slave_then (notices_state 13) (questions_state 21) ∷ []) (answered_with_bytes (questions_state 21) (names_state 21 13) ∷ []) [] []
    ∷ round_of (from_slave (names_state 21 13) ∷ []) [] (one_request (changes_state 8 22 13)) []
    ∷ round_of [] (answered_with_bytes (changes_state 8 22 13) (acknowledges 22) ∷ []) [] (to_master (carries 1 1 2) ∷ to_slave (carries 1 17 2) ∷ to_master (notices_state 11) ∷ [])
    ∷ round_of (from_slave (acknowledges 22) ∷ from_slave (carries 1 1 2) ∷ from_slave_then (notices_state 11) (questions_state 23) ∷ []) (from_slave (carries 1 17 2) ∷ answered_with_bytes (questions_state 23) (names_state 23 11) ∷ []) [] []
    ∷ round_of (from_slave (names_state 23 11) ∷ []) [] (one_request (changes_state 9 24 11)) []
    ∷ round_of [] (answered_with_bytes (changes_state 9 24 11) (acknowledges 24) ∷ []) [] (to_master (notices_state 16) ∷ [])
    ∷ round_of (from_slave (acknowledges 24) ∷ from_slave_then (notices_state 16) (questions_state 25) ∷ []) (answered_with_bytes (questions_state 25) (names_state 25 16) ∷ []) [] []
    ∷ round_of (from_slave (names_state 25 16) ∷ []) [] (one_request (changes_state 2 26 16)) []
    ∷ round_of [] (answered_with_bytes (changes_state 2 26 16) (acknowledges 26) ∷ []) [] []
    ∷ []

-- in the last one the master has its report at its turn
unfoldable pub loop_last : RoundTable
loop_last = round_of (from_slave (acknowledges 26) ∷ []) [] [] []

abbrev pub loop_log : List LogEntry
loop_log = table_log master_end (slave_end ∷ []) loop_rounds loop_last
