-- Small logs of a master and one slave, for what is timely and what is not. The oldest entry stands first here.
use Rattle.std.specs.Prelude.{ℕ, List, [], ◌∷◌, ◌++◌}
use Rattle.dcp_types.specs.declared.addresses.Address.{Address}
use Rattle.dcp_types.specs.declared.limits.Limits.{Limits}
use Rattle.dcp_types.specs.declared.data_types.DataType.TheVariants as types
use Rattle.dcp_ends.specs.declared.entries.LogEntry.{LogEntry}
use Rattle.dcp_ends.specs.declared.entries.LogEntry.TheVariants.{Sent, Got, Idle, Turn}
use Rattle.master_spec.specs.declared.setups.Slave.{Slave}
use Rattle.master_spec.specs.declared.setups.Setup.{Setup}

abbrev pub small_master : Address
small_master = record { ip = 1; port = 9 }

abbrev pub small_place : Address
small_place = record { ip = 1; port = 10 }

-- two turns for an answer and for data
abbrev pub small_limits : Limits
small_limits = record { turn_limit = 2; tries = 2; watch_turns = 2; state_limit = 4; retry_turns = 2; data_turns = 2; step_tries = 2 }

abbrev pub lone_slave : Slave
lone_slave = record { id = 1; address = small_place; types = types.U8 ∷ []; script = record { uuid = 1; setup = []; adjusts = [] } }

abbrev pub small_setup : Setup
small_setup = record { address = small_master; limits = small_limits; steps = 0; runs = 1; slaves = lone_slave ∷ [] }

-- the first request, a refusal of it, and a byte under the slave's data id
abbrev pub small_register : List ℕ
small_register = 1 ∷ 0 ∷ 0 ∷ 1 ∷ 0 ∷ 0 ∷ 0 ∷ 0 ∷ 0 ∷ 0 ∷ 0 ∷ 0 ∷ 0 ∷ 0 ∷ 0 ∷ 0 ∷ 0 ∷ 0 ∷ 0 ∷ 0 ∷ 1 ∷ 2 ∷ 1 ∷ 0 ∷ []

abbrev pub small_refusal : List ℕ
small_refusal = 177 ∷ 0 ∷ 0 ∷ 1 ∷ 0 ∷ 0 ∷ 10 ∷ 0 ∷ []

abbrev pub small_value : List ℕ
small_value = 240 ∷ 0 ∷ 0 ∷ 1 ∷ 0 ∷ 7 ∷ []

-- the request comes and is answered; the slave finds nothing more, and sends data at its turn
abbrev pub small_begun : List LogEntry
small_begun = Turn small_master ∷ Sent small_master small_place small_register ∷ Got small_place small_master small_register ∷ Sent small_place small_master small_refusal ∷ Idle small_place ∷ Turn small_place ∷ Sent small_place small_master small_value ∷ []

-- both come before the next turn
abbrev pub in_time : List LogEntry
in_time = small_begun ++ Got small_master small_place small_refusal ∷ Got small_master small_place small_value ∷ Idle small_master ∷ Turn small_master ∷ []

-- without that turn
abbrev pub unreported : List LogEntry
unreported = small_begun ++ Got small_master small_place small_refusal ∷ Got small_master small_place small_value ∷ Idle small_master ∷ []

-- the answer comes two turns later, when the request was sent again
abbrev pub late_answer : List LogEntry
late_answer = small_begun ++ Got small_master small_place small_value ∷ Turn small_master ∷ Turn small_master ∷ Sent small_master small_place small_register ∷ Got small_master small_place small_refusal ∷ Turn small_master ∷ []

-- the data comes two turns later
abbrev pub late_data : List LogEntry
late_data = small_begun ++ Turn small_master ∷ Turn small_master ∷ Sent small_master small_place small_register ∷ Got small_master small_place small_refusal ∷ Got small_master small_place small_value ∷ Turn small_master ∷ []
