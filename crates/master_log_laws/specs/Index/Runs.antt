-- A log that the master has by its rules, entry by entry. It has its newest entry first.
use Rattle.std.specs.Prelude.{◌≡◌, ℕ, Bool, true, false, if◌then◌else◌, List, [], ◌∷◌}
use Rattle.dcp_types.specs.declared.addresses.Address.{Address}
use Rattle.dcp_ends.specs.declared.entries.LogEntry.{LogEntry}
use Rattle.dcp_ends.specs.declared.entries.LogEntry.TheVariants.{Sent, Got, Idle, Turn}
use Rattle.dcp_ends.specs.Events.{Event, Gram, Tick, Send}
use Rattle.dcp_ends.specs.Logs.{same_address}
use Rattle.master_spec.specs.declared.setups.Setup.{Setup}
use Rattle.master_spec.specs.Course.{Course, course}

-- the Gots and Turns of the master, the newest first
abbrev pub with_event : Bool → Event → List Event → List Event
with_event true event events_of_master = event ∷ events_of_master
with_event false event events_of_master = events_of_master

abbrev pub events_of_master : Setup → List LogEntry → List Event
events_of_master setup [] = []
events_of_master setup (Sent from to bytes ∷ log) = events_of_master setup log
events_of_master setup (Got at from bytes ∷ log) = with_event (same_address at setup.address) (Gram from bytes) (events_of_master setup log)
events_of_master setup (Idle at ∷ log) = events_of_master setup log
events_of_master setup (Turn at ∷ log) = with_event (same_address at setup.address) Tick (events_of_master setup log)

-- where the master stands after a log
abbrev pub course_at : Setup → List LogEntry → Course
course_at setup log = course setup (events_of_master setup log)

abbrev pub tail : List Send → List Send
tail [] = []
tail (p ∷ posts) = posts

-- what the last event of the master still has to send
abbrev pub owed : Setup → List LogEntry → List Send
owed setup [] = []
owed setup (Sent from to bytes ∷ log) = if same_address from setup.address then tail (owed setup log) else owed setup log
owed setup (Got at from bytes ∷ log) = if same_address at setup.address then (course_at setup (Got at from bytes ∷ log)).sent else owed setup log
owed setup (Idle at ∷ log) = owed setup log
owed setup (Turn at ∷ log) = if same_address at setup.address then (course_at setup (Turn at ∷ log)).sent else owed setup log

abbrev pub IsFirstSend : List Send → Address → List ℕ → Type 0
IsFirstSend [] to bytes = ⊥
IsFirstSend (p ∷ posts) to bytes = (p.to ≡ to) × (p.bytes ≡ bytes)

abbrev pub where_it_is : Bool → Type 0 → Type 0
where_it_is true P = P
where_it_is false P = Unit {0}

-- the master sends what it owes, and has no event before that
abbrev pub MasterActs : Setup → LogEntry → List LogEntry → Type 0
MasterActs setup (Sent from to bytes) log = where_it_is (same_address from setup.address) (IsFirstSend (owed setup log) to bytes)
MasterActs setup (Got at from bytes) log = where_it_is (same_address at setup.address) (owed setup log ≡ [])
MasterActs setup (Idle at) log = Unit {0}
MasterActs setup (Turn at) log = where_it_is (same_address at setup.address) (owed setup log ≡ [])

-- after the last event the sends are a front of those of the definition
abbrev pub IsRun : Setup → List LogEntry → Type 0
IsRun setup [] = Unit {0}
IsRun setup (e ∷ log) = MasterActs setup e log × IsRun setup log
