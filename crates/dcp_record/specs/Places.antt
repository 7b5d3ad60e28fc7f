-- Logs in bytes, and places in them.
use Rattle.std.specs.Prelude.{◌≡◌, ℕ, ◌+◌, ◌<◌, ◌≤◌, ◌^◌, List, [], ◌∷◌, length, drop}
use Rattle.dcp_ends.specs.declared.entries.LogEntry.{LogEntry}
use Rattle.dcp_ends.specs.declared.entries.LogEntry.TheVariants.{Sent, Got, Idle, Turn}
use Rattle.dcp_record.specs.Cuts.{AreEntries}

-- a place in a log: so many of its entries are behind
pub record LogPlace : Type 0 where
  pub entries : List LogEntry
  pub at : ℕ

-- a log that grows: its entries, and for how many bytes more there is room
pub record LogSoFar : Type 0 where
  pub entries : List LogEntry
  pub room : ℕ

-- how many datagrams were got
abbrev pub gots_in : List LogEntry → ℕ
gots_in [] = 0
gots_in (Sent from to bytes ∷ entries) = gots_in entries
gots_in (Got at from bytes ∷ entries) = 1 + gots_in entries
gots_in (Idle at ∷ entries) = gots_in entries
gots_in (Turn at ∷ entries) = gots_in entries

-- these bytes are the entries of a log, and so many of them tell of a datagram that was got
pub record IsCountedLog (b : List ℕ) (gots : ℕ) (entries : List LogEntry) : Type 0 where
  pub all : AreEntries b entries
  pub counted : gots ≡ gots_in entries

-- these bytes are these entries, so many
pub record IsLogIn (b : List ℕ) (count : ℕ) (entries : List LogEntry) : Type 0 where
  pub all : AreEntries b entries
  pub counted : count ≡ length entries
  pub few : length entries < 2 ^ 64

-- these bytes are the entries from this place on
pub record IsLeftFrom (b : List ℕ) (entries : List LogEntry) (at : ℕ) : Type 0 where
  pub within : at ≤ length entries
  pub few : length entries < 2 ^ 64
  pub left : AreEntries b (drop at entries)
