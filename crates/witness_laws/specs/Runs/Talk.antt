-- The messages between a master and one slave, and the table of their rounds.
use Rattle.std.specs.Prelude.{ℕ, List, [], ◌∷◌}
use Rattle.dcp_types.specs.declared.addresses.Address.{Address}
use Rattle.dcp_ends.specs.Events.{Send}
use Rattle.witness_laws.specs.Runs.Tables.{Heeded, RoundTable}

abbrev pub master_end : Address
master_end = record { ip = 1; port = 9 }

abbrev pub slave_end : Address
slave_end = record { ip = 1; port = 10 }

-- ---- requests, by their number, which is below 256 here

-- the first one names the slave's identity, which is 1
abbrev pub registers : List ℕ
registers = 1 ∷ 0 ∷ 0 ∷ 1 ∷ 0 ∷ 0 ∷ 0 ∷ 0 ∷ 0 ∷ 0 ∷ 0 ∷ 0 ∷ 0 ∷ 0 ∷ 0 ∷ 0 ∷ 0 ∷ 0 ∷ 0 ∷ 0 ∷ 1 ∷ 2 ∷ 1 ∷ 0 ∷ []

-- a change of state by its code, 3 prepare, 4 configure, 5 initialize, 8 send outputs, 9 stop, 2 deregister, and the code of the state that it names
abbrev pub changes_state : (code n state : ℕ) → List ℕ
changes_state code n state = code ∷ n ∷ 0 ∷ 1 ∷ state ∷ []

-- the start, at time 0, in CONFIGURED
abbrev pub starts : (n : ℕ) → List ℕ
starts n = 6 ∷ n ∷ 0 ∷ 1 ∷ 5 ∷ 0 ∷ 0 ∷ 0 ∷ 0 ∷ 0 ∷ 0 ∷ 0 ∷ 0 ∷ []

-- one step, in RUNNING
abbrev pub steps_once : (n : ℕ) → List ℕ
steps_once n = 7 ∷ n ∷ 0 ∷ 1 ∷ 11 ∷ 1 ∷ 0 ∷ 0 ∷ 0 ∷ []

-- settings: none but those that follow; the resolution of a thousandth of a second; and for a data id the port that it feeds, the port that it carries, where it comes from and where it goes to
abbrev pub clears : (n : ℕ) → List ℕ
clears n = 36 ∷ n ∷ 0 ∷ 1 ∷ []

abbrev pub sets_resolution : (n : ℕ) → List ℕ
sets_resolution n = 32 ∷ n ∷ 0 ∷ 1 ∷ 1 ∷ 0 ∷ 0 ∷ 0 ∷ 232 ∷ 3 ∷ 0 ∷ 0 ∷ []

abbrev pub sets_input : (n id : ℕ) → List ℕ
sets_input n id = 34 ∷ n ∷ 0 ∷ 1 ∷ id ∷ 0 ∷ 0 ∷ 0 ∷ 1 ∷ 0 ∷ 0 ∷ 0 ∷ 0 ∷ 0 ∷ 0 ∷ 0 ∷ 0 ∷ []

abbrev pub sets_output : (n id : ℕ) → List ℕ
sets_output n id = 35 ∷ n ∷ 0 ∷ 1 ∷ id ∷ 0 ∷ 0 ∷ 0 ∷ 1 ∷ 0 ∷ 0 ∷ 0 ∷ 0 ∷ 0 ∷ 0 ∷ 0 ∷ []

abbrev pub sets_source : (n id port : ℕ) → List ℕ
sets_source n id port = 38 ∷ n ∷ 0 ∷ 1 ∷ id ∷ 0 ∷ 0 ∷ port ∷ 0 ∷ 1 ∷ 0 ∷ 0 ∷ 0 ∷ []

abbrev pub sets_target : (n id port : ℕ) → List ℕ
sets_target n id port = 37 ∷ n ∷ 0 ∷ 1 ∷ id ∷ 0 ∷ 0 ∷ port ∷ 0 ∷ 1 ∷ 0 ∷ 0 ∷ 0 ∷ []

-- questions
abbrev pub questions_state : (n : ℕ) → List ℕ
questions_state n = 128 ∷ n ∷ 0 ∷ 1 ∷ []

abbrev pub questions_fault : (n : ℕ) → List ℕ
questions_fault n = 129 ∷ n ∷ 0 ∷ 1 ∷ []

-- ---- answers, by the number of their request; notices of a state; and a value under a data id, by the number of its row
abbrev pub acknowledges : (n : ℕ) → List ℕ
acknowledges n = 176 ∷ n ∷ 0 ∷ 1 ∷ []

abbrev pub names_state : (n state : ℕ) → List ℕ
names_state n state = 178 ∷ n ∷ 0 ∷ 1 ∷ state ∷ []

abbrev pub names_fault : (n code : ℕ) → List ℕ
names_fault n code = 179 ∷ n ∷ 0 ∷ 1 ∷ code ∷ 0 ∷ []

abbrev pub notices_state : (state : ℕ) → List ℕ
notices_state state = 224 ∷ 1 ∷ state ∷ []

abbrev pub carries : (row id value : ℕ) → List ℕ
carries row id value = 240 ∷ row ∷ 0 ∷ id ∷ 0 ∷ value ∷ []

-- ---- what an end sends, and what it gets
abbrev pub to_slave : List ℕ → Send
to_slave bytes = record { to = slave_end; bytes = bytes }

abbrev pub to_master : List ℕ → Send
to_master bytes = record { to = master_end; bytes = bytes }

-- one request, at a turn of the master
abbrev pub one_request : List ℕ → List Send
one_request bytes = to_slave bytes ∷ []

-- from the slave, and nothing is sent at it; or the next request is
abbrev pub from_slave : List ℕ → Heeded
from_slave bytes = record { from = slave_end; bytes = bytes; sends = [] }

abbrev pub from_slave_then : (bytes request : List ℕ) → Heeded
from_slave_then bytes request = record { from = slave_end; bytes = bytes; sends = to_slave request ∷ [] }

-- a request that comes to the slave, and its answer
abbrev pub answered_with_bytes : (request answer : List ℕ) → Heeded
answered_with_bytes request answer = record { from = master_end; bytes = request; sends = to_master answer ∷ [] }

-- a round: what the master got, what the slave got, and what each sent at its turn
abbrev pub round_of : (heard taken : List Heeded) (asked told : List Send) → RoundTable
round_of heard taken asked told = record { looks = heard ∷ taken ∷ []; turns = asked ∷ told ∷ [] }
