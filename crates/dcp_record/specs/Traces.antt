-- The bytes of a trace.
use Rattle.std.specs.Prelude.{◌≡◌, ℕ, ◌<◌, ◌^◌, List, [], ◌∷◌, ◌++◌, length}
use Rattle.std.specs.List.{All}
use Rattle.std.specs.Int.{to_le_bytes, w16, w32}
use Rattle.dcp_types.specs.declared.addresses.Address.{Address}
use Rattle.dcp_ends.specs.Logs.{IsInRange}
use Rattle.dcp_ends.specs.declared.entries.LogEntry.{LogEntry}
use Rattle.dcp_ends.specs.declared.entries.LogEntry.TheVariants.{Sent, Got, Idle, Turn}

-- an ip of four bytes and a port of two, the lowest byte first
abbrev pub address_bytes : Address → List ℕ
address_bytes a = to_le_bytes w32 a.ip ++ to_le_bytes w16 a.port

-- a length of two bytes, and so many bytes
abbrev pub payload_bytes : List ℕ → List ℕ
payload_bytes bytes = to_le_bytes w16 (length bytes) ++ bytes

-- the tag of its kind, and then its addresses and its bytes
abbrev pub log_entry_bytes : LogEntry → List ℕ
log_entry_bytes (Sent from to bytes) = (1 ∷ []) ++ address_bytes from ++ address_bytes to ++ payload_bytes bytes
log_entry_bytes (Got at from bytes) = (2 ∷ []) ++ address_bytes at ++ address_bytes from ++ payload_bytes bytes
log_entry_bytes (Idle at) = (3 ∷ []) ++ address_bytes at
log_entry_bytes (Turn at) = (4 ∷ []) ++ address_bytes at

abbrev pub all_entry_bytes : List LogEntry → List ℕ
all_entry_bytes [] = []
all_entry_bytes (entry ∷ entries) = log_entry_bytes entry ++ all_entry_bytes entries

-- the letters DCPR and the version 1
abbrev pub form : List ℕ
form = 68 ∷ 67 ∷ 80 ∷ 82 ∷ 1 ∷ []

-- the form, the hosted ends as bits, and the length of the scenario's text
abbrev pub header_bytes : ℕ → ℕ → List ℕ
header_bytes hosted len = form ++ to_le_bytes w32 hosted ++ to_le_bytes w32 len

-- a trace: the header, the scenario's text, and the entries to the end
abbrev pub trace_bytes : ℕ → List ℕ → List LogEntry → List ℕ
trace_bytes hosted scenario entries = header_bytes hosted (length scenario) ++ scenario ++ all_entry_bytes entries

-- the numbers of an address fit their bytes
pub record IsTraceAddress (a : Address) : Type 0 where
  pub ip_fits : a.ip < 2 ^ 32
  pub port_fits : a.port < 2 ^ 16

abbrev pub HasPlaces : LogEntry → Type 0
HasPlaces (Sent from to bytes) = IsTraceAddress from × IsTraceAddress to
HasPlaces (Got at from bytes) = IsTraceAddress at × IsTraceAddress from
HasPlaces (Idle at) = IsTraceAddress at
HasPlaces (Turn at) = IsTraceAddress at

-- all that an entry says fits its bytes
pub record IsRecordable (entry : LogEntry) : Type 0 where
  pub places : HasPlaces entry
  pub in_range : IsInRange entry

-- These bytes are the trace of a run: the hosted ends are among the master and 16 slaves, the scenario's length fits its four
-- bytes, and each entry fits its own.
pub record IsTrace (b : List ℕ) (hosted : ℕ) (scenario : List ℕ) (entries : List LogEntry) : Type 0 where
  pub known : hosted < 2 ^ 17
  pub measured : length scenario < 2 ^ 32
  pub recordable : All IsRecordable entries
  pub bytes : b ≡ trace_bytes hosted scenario entries
