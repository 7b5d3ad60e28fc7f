-- The ends of the small runs, and what stands in their logs.
use Rattle.std.specs.Prelude.{ℕ, pos, ◌+◌, List, [], ◌∷◌}
use Rattle.dcp_types.specs.declared.addresses.Address.{Address}
use Rattle.dcp_types.specs.declared.limits.Limits.{Limits}
use Rattle.dcp_types.specs.declared.data_types.DataType.TheVariants as types
use Rattle.dcp_ends.specs.declared.entries.LogEntry.{LogEntry}
use Rattle.dcp_ends.specs.declared.entries.LogEntry.TheVariants.{Sent, Got, Turn}
use Rattle.pdu_layout.specs.declared.messages.Cfg.TheVariants as cfg
use Rattle.master_spec.specs.declared.setups.Script.{Script}
use Rattle.master_spec.specs.declared.setups.Slave.{Slave}
use Rattle.master_spec.specs.declared.setups.Setup.{Setup}

abbrev pub master : Address
master = record { ip = 1; port = 9 }

-- slave s has the identity s and one output of one byte, and is configured by one request
abbrev pub script : ℕ → Script
script s = record { uuid = s; setup = cfg.Clear ∷ []; adjusts = [] }

abbrev pub small_slave : ℕ → Slave
small_slave s = record { id = s; address = record { ip = 1; port = 9 + s }; types = types.U8 ∷ []; script = script s }

-- the least limits, but for the turns without an answer, the sendings, and the turns up to a sign of life
abbrev pub limits : (turn_limit tries watch_turns : ℕ) → Limits
limits turn_limit tries watch_turns =
    record { turn_limit = turn_limit; tries = tries; watch_turns = watch_turns; state_limit = 1; retry_turns = 1; data_turns = 1; step_tries = 2 }

-- one run of so many steps with one slave, each request sent at most twice
abbrev pub single : (steps : ℕ) → Setup
single steps = record { address = master; limits = limits 1 2 1; steps = steps; runs = 1; slaves = small_slave 1 ∷ [] }

-- one run of so many steps with two slaves, each request sent once
abbrev pub pair : (turn_limit watch_turns steps : ℕ) → Setup
pair turn_limit watch_turns steps = record { address = master; limits = limits turn_limit 1 watch_turns; steps = steps; runs = 1; slaves = small_slave 1 ∷ small_slave 2 ∷ [] }

-- two runs of one step with one slave, of which a parameter is set between them
abbrev pub set_between : Slave
set_between = record (small_slave 1) { script = record { uuid = 1; setup = cfg.Clear ∷ []; adjusts = (cfg.Parameter 0 types.I64 (pos 5) ∷ []) ∷ [] } }

abbrev pub twice : Setup
twice = record { address = master; limits = limits 1 2 1; steps = 1; runs = 2; slaves = set_between ∷ [] }

-- ---- entries: what the master sent to slave s and got from it

abbrev pub turn : LogEntry
turn = Turn master

abbrev pub sent_entry : ℕ → List ℕ → LogEntry
sent_entry s bytes = Sent master (small_slave s).address bytes

abbrev pub got : ℕ → List ℕ → LogEntry
got s bytes = Got master (small_slave s).address bytes

-- requests, by their number, which is below 256 here

-- the first one names the slave's identity
abbrev pub register_entry : ℕ → LogEntry
register_entry s = sent_entry s (1 ∷ 0 ∷ 0 ∷ s ∷ 0 ∷ 0 ∷ 0 ∷ 0 ∷ 0 ∷ 0 ∷ 0 ∷ 0 ∷ 0 ∷ 0 ∷ 0 ∷ 0 ∷ 0 ∷ 0 ∷ 0 ∷ 0 ∷ s ∷ 2 ∷ 1 ∷ 0 ∷ [])

abbrev pub cleared : (s number : ℕ) → LogEntry
cleared s number = sent_entry s (36 ∷ number ∷ 0 ∷ s ∷ [])

-- a state request by its code: 3 prepare, 4 configure, 5 initialize, 8 send outputs, 9 stop, 10 reset, 2 deregister; state is the code of the state that it names
abbrev pub change_entry : (s code number state : ℕ) → LogEntry
change_entry s code number state = sent_entry s (code ∷ number ∷ 0 ∷ s ∷ state ∷ [])

-- parameter 0 is set to a number
abbrev pub adjusted : (s number value : ℕ) → LogEntry
adjusted s number value = sent_entry s (39 ∷ number ∷ 0 ∷ s ∷ 0 ∷ 0 ∷ 0 ∷ 0 ∷ 0 ∷ 0 ∷ 0 ∷ 0 ∷ 7 ∷ value ∷ 0 ∷ 0 ∷ 0 ∷ 0 ∷ 0 ∷ 0 ∷ 0 ∷ [])

-- the start, at time 0, in CONFIGURED
abbrev pub started : (s number : ℕ) → LogEntry
started s number = sent_entry s (6 ∷ number ∷ 0 ∷ s ∷ 5 ∷ 0 ∷ 0 ∷ 0 ∷ 0 ∷ 0 ∷ 0 ∷ 0 ∷ 0 ∷ [])

-- one step, in RUNNING
abbrev pub stepped_entry : (s number : ℕ) → LogEntry
stepped_entry s number = sent_entry s (7 ∷ number ∷ 0 ∷ s ∷ 11 ∷ 1 ∷ 0 ∷ 0 ∷ 0 ∷ [])

abbrev pub asked_state : (s number : ℕ) → LogEntry
asked_state s number = sent_entry s (128 ∷ number ∷ 0 ∷ s ∷ [])

abbrev pub asked_error : (s number : ℕ) → LogEntry
asked_error s number = sent_entry s (129 ∷ number ∷ 0 ∷ s ∷ [])

-- answers, by the number of their request

abbrev pub ack_entry : (s number : ℕ) → LogEntry
ack_entry s number = got s (176 ∷ number ∷ 0 ∷ s ∷ [])

abbrev pub refused : (s number code : ℕ) → LogEntry
refused s number code = got s (177 ∷ number ∷ 0 ∷ s ∷ number ∷ 0 ∷ code ∷ 0 ∷ [])

abbrev pub told_state : (s number state : ℕ) → LogEntry
told_state s number state = got s (178 ∷ number ∷ 0 ∷ s ∷ state ∷ [])

abbrev pub told_error : (s number code : ℕ) → LogEntry
told_error s number code = got s (179 ∷ number ∷ 0 ∷ s ∷ code ∷ 0 ∷ [])

abbrev pub told_log : (s number : ℕ) → LogEntry
told_log s number = got s (180 ∷ number ∷ 0 ∷ s ∷ [])

-- the notice of a new state
abbrev pub noticed : (s state : ℕ) → LogEntry
noticed s state = got s (224 ∷ s ∷ state ∷ [])

-- the output of a row
abbrev pub data_entry : (s row value : ℕ) → LogEntry
data_entry s row value = got s (240 ∷ row ∷ 0 ∷ s ∷ 0 ∷ value ∷ [])
