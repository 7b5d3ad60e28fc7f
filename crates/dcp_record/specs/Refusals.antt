-- Why bytes are no trace, and where.
use Rattle.std.specs.Prelude.{◌≡◌, ◌≢◌, ℕ, ◌+◌, ◌<◌, ◌≤◌, ◌^◌, ◌⊎◌, List, [], ◌∷◌, ◌++◌, length, take, slice_index}
use Rattle.std.specs.Int.{to_le_bytes, w16, w32}
use Rattle.dcp_types.specs.declared.addresses.Address.{Address}
use Rattle.dcp_ends.specs.declared.entries.LogEntry.{LogEntry}
use Rattle.dcp_record.specs.declared.faults.TraceWhy.{TraceWhy}
use Rattle.dcp_record.specs.declared.faults.TraceWhy.TheVariants.{Header, Tag, Short, Length}
use Rattle.dcp_record.specs.Traces.{form, address_bytes, header_bytes, log_entry_bytes, IsRecordable, IsTrace}

-- the first of the bytes 0 to 4 that is there and differs from the form
pub record FormDiffers (b : List ℕ) (at : ℕ) : Type 0 where
  pub within : at < 5
  pub there : at < length b
  pub same : take at b ≡ take at form
  pub differs : slice_index b at ≢ slice_index form at

-- the hosted ends begin at byte 5, are all there, and one of them is past the sixteenth slave
pub record HostedBeyond (b : List ℕ) (at : ℕ) : Type 0 where
  pub hosted : ℕ
  pub rest : List ℕ
  pub here : at ≡ 5
  pub beyond : 2 ^ 17 ≤ hosted
  pub fits : hosted < 2 ^ 32
  pub parts : b ≡ form ++ to_le_bytes w32 hosted ++ rest

-- the bytes end within a header or its scenario; the hosted ends, where they are all there, are known
pub record HeaderCut (b : List ℕ) (at : ℕ) : Type 0 where
  pub hosted : ℕ
  pub scenario : List ℕ
  pub missing : List ℕ
  pub here : at ≡ length b
  pub fits : hosted < 2 ^ 32
  pub known : 9 ≤ length b → hosted < 2 ^ 17
  pub measured : length scenario < 2 ^ 32
  pub lacks : 0 < length missing
  pub whole : b ++ missing ≡ header_bytes hosted (length scenario) ++ scenario

abbrev pub HeaderRefused : List ℕ → ℕ → Type 0
HeaderRefused b at = FormDiffers b at ⊎ (HostedBeyond b at ⊎ HeaderCut b at)

-- an entry would begin with a byte that is no tag
pub record HasNoTag (rest : List ℕ) : Type 0 where
  pub tag : ℕ
  pub more : List ℕ
  pub parts : rest ≡ tag ∷ more
  pub unknown : (tag < 1) ⊎ (4 < tag)

-- this tag, two addresses, and a length that is there and below the least or above the most
pub record HasBadLength (tag least most : ℕ) (rest : List ℕ) : Type 0 where
  pub first : Address
  pub second : Address
  pub size : ℕ
  pub more : List ℕ
  pub fits : size < 2 ^ 16
  pub parts : rest ≡ (tag ∷ []) ++ address_bytes first ++ address_bytes second ++ to_le_bytes w16 size ++ more
  pub out : (size < least) ⊎ (most < size)

-- some of an entry that fits its bytes, and not all of it
pub record IsTruncated (rest : List ℕ) : Type 0 where
  pub entry : LogEntry
  pub missing : List ℕ
  pub recordable : IsRecordable entry
  pub some : 0 < length rest
  pub lacks : 0 < length missing
  pub whole : rest ++ missing ≡ log_entry_bytes entry

-- the first entry of these bytes does not read
abbrev pub EntryRefused : List ℕ → TraceWhy → Type 0
EntryRefused rest Header = ⊥
EntryRefused rest Tag = HasNoTag rest
EntryRefused rest Length = HasBadLength 1 1 1024 rest ⊎ HasBadLength 2 0 1025 rest
EntryRefused rest Short = IsTruncated rest

-- Where in these bytes: at the tag, at the length behind the tag and two addresses, or at the end.
abbrev pub entry_place : List ℕ → TraceWhy → ℕ
entry_place rest Header = 0
entry_place rest Tag = 0
entry_place rest Length = 13
entry_place rest Short = length rest

-- a trace, and behind it an entry that does not read
pub record RefusedEntry (b : List ℕ) (at : ℕ) (why : TraceWhy) : Type 0 where
  pub hosted : ℕ
  pub scenario : List ℕ
  pub entries : List LogEntry
  pub before : List ℕ
  pub rest : List ℕ
  pub reads : IsTrace before hosted scenario entries
  pub parts : b ≡ before ++ rest
  pub refused : EntryRefused rest why
  pub here : at ≡ length before + entry_place rest why

-- these bytes are refused at this place and for this cause
abbrev pub TraceRefusal : List ℕ → ℕ → TraceWhy → Type 0
TraceRefusal b at Header = HeaderRefused b at
TraceRefusal b at Tag = RefusedEntry b at Tag
TraceRefusal b at Length = RefusedEntry b at Length
TraceRefusal b at Short = RefusedEntry b at Short
