-- The messages that were sent, by the list of calls.
use Rattle.std.specs.Prelude.{ℕ, ◌==◌, ◌&&◌, Bool, true, false, List, Option, None, Some, slice_get, slice_index}
use Rattle.std.specs.List.{count_by}
use Rattle.dcp_types.specs.declared.addresses.Address.{Address}
use Rattle.dcp_ends.specs.Logs.{same_address}
use Rattle.dcp_ends.specs.declared.entries.LogEntry.{LogEntry}
use Rattle.dcp_ends.specs.declared.entries.LogEntry.TheVariants.{Sent, Got, Idle, Turn}

abbrev pub is_message : LogEntry → Bool
is_message (Sent from to bytes) = true
is_message (Got at from bytes) = false
is_message (Idle at) = false
is_message (Turn at) = false

-- how many messages were sent in these calls
abbrev pub messages : List LogEntry → ℕ
messages calls = count_by is_message calls

abbrev pub is_at : Address → Option Address → Bool
is_at a None = false
is_at a (Some b) = same_address b a

-- the address is that of the end with this number: the master is end 0, and slaves count from 1
abbrev pub is_end : List Address → ℕ → Address → Bool
is_end all end a = is_at a (slice_get all end)

-- a message with this type code from this end: the code is its first byte
abbrev pub is_from_end : List Address → ℕ → ℕ → Address → List ℕ → Bool
is_from_end all end type_id from bytes = is_end all end from && (slice_index bytes 0 == type_id)

abbrev pub is_call_of : List Address → ℕ → ℕ → LogEntry → Bool
is_call_of all end type_id (Sent from to bytes) = is_from_end all end type_id from bytes
is_call_of all end type_id (Got at from bytes) = false
is_call_of all end type_id (Idle at) = false
is_call_of all end type_id (Turn at) = false

-- how many messages with this type code this end sent in these calls
abbrev pub messages_from : List Address → ℕ → ℕ → List LogEntry → ℕ
messages_from all end type_id calls = count_by (is_call_of all end type_id) calls
