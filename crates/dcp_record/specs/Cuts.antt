-- What the steps of reading say of the bytes that are left.
use Rattle.std.specs.Prelude.{◌≡◌, ℕ, ◌+◌, ◌<◌, ◌≤◌, ◌^◌, ◌⊎◌, List, ◌++◌, length}
use Rattle.std.specs.List.{All}
use Rattle.std.specs.Int.{to_le_bytes, w16}
use Rattle.dcp_types.specs.declared.addresses.Address.{Address}
use Rattle.dcp_ends.specs.declared.entries.LogEntry.{LogEntry}
use Rattle.dcp_record.specs.declared.faults.TraceWhy.{TraceWhy}
use Rattle.dcp_record.specs.declared.faults.TraceWhy.TheVariants.{Header, Tag, Short, Length}
use Rattle.dcp_record.specs.Traces.{address_bytes, header_bytes, payload_bytes, all_entry_bytes, log_entry_bytes, IsTraceAddress, IsRecordable}
use Rattle.dcp_record.specs.Refusals.{EntryRefused, entry_place}

-- a header with its scenario, and what is left behind it
pub record IsHead (b : List ℕ) (hosted : ℕ) (scenario rest : List ℕ) : Type 0 where
  pub known : hosted < 2 ^ 17
  pub measured : length scenario < 2 ^ 32
  pub parts : b ≡ header_bytes hosted (length scenario) ++ scenario ++ rest

-- two addresses and a payload, and what is left behind them
pub record IsExchange (least most : ℕ) (b : List ℕ) (first second : Address) (payload rest : List ℕ) : Type 0 where
  pub first_fits : IsTraceAddress first
  pub second_fits : IsTraceAddress second
  pub low : least ≤ length payload
  pub high : length payload ≤ most
  pub parts : b ≡ address_bytes first ++ address_bytes second ++ payload_bytes payload ++ rest

-- a front of such, and not all of it
pub record ExchangeCut (least most : ℕ) (b : List ℕ) : Type 0 where
  pub first : Address
  pub second : Address
  pub payload : List ℕ
  pub missing : List ℕ
  pub first_fits : IsTraceAddress first
  pub second_fits : IsTraceAddress second
  pub low : least ≤ length payload
  pub high : length payload ≤ most
  pub lacks : 0 < length missing
  pub whole : b ++ missing ≡ address_bytes first ++ address_bytes second ++ payload_bytes payload

-- two addresses, and a length that is out of range
pub record ExchangeOut (least most : ℕ) (b : List ℕ) : Type 0 where
  pub first : Address
  pub second : Address
  pub size : ℕ
  pub more : List ℕ
  pub fits : size < 2 ^ 16
  pub parts : b ≡ address_bytes first ++ address_bytes second ++ to_le_bytes w16 size ++ more
  pub out : (size < least) ⊎ (most < size)

abbrev pub ExchangeRefused : ℕ → ℕ → List ℕ → TraceWhy → Type 0
ExchangeRefused least most b Header = ⊥
ExchangeRefused least most b Tag = ⊥
ExchangeRefused least most b Length = ExchangeOut least most b
ExchangeRefused least most b Short = ExchangeCut least most b

-- an entry, and what is left behind it
pub record IsFirstEntry (b : List ℕ) (entry : LogEntry) (rest : List ℕ) : Type 0 where
  pub recordable : IsRecordable entry
  pub parts : b ≡ log_entry_bytes entry ++ rest

-- entries to the end of the bytes
pub record AreEntries (b : List ℕ) (entries : List LogEntry) : Type 0 where
  pub recordable : All IsRecordable entries
  pub parts : b ≡ all_entry_bytes entries

-- entries, and behind them one that does not read
pub record BadEntry (start : ℕ) (b : List ℕ) (at : ℕ) (why : TraceWhy) : Type 0 where
  pub entries : List LogEntry
  pub rest : List ℕ
  pub recordable : All IsRecordable entries
  pub parts : b ≡ all_entry_bytes entries ++ rest
  pub refused : EntryRefused rest why
  pub here : at ≡ start + length (all_entry_bytes entries) + entry_place rest why
