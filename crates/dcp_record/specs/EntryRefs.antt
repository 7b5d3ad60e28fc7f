-- Entries in bytes that were read, as entries of a log.
use Rattle.dcp_ends.specs.declared.entries.LogEntry.{LogEntry}
use Rattle.dcp_ends.specs.declared.entries.LogEntry.TheVariants.{Sent, Got, Idle, Turn}
use Rattle.dcp_record.specs.declared.entry_refs.EntryRef.{EntryRef}
use Rattle.dcp_record.specs.declared.entry_refs.EntryRef.TheVariants as refs

-- the entry with these addresses and these bytes
abbrev pub entry_told : EntryRef → LogEntry
entry_told (refs.Sent from to bytes) = Sent from to bytes.now
entry_told (refs.Got at from bytes) = Got at from bytes.now
entry_told (refs.Idle at) = Idle at
entry_told (refs.Turn at) = Turn at
