-- Calls as entries of a log.
use Rattle.dcp_ends.specs.declared.entries.LogEntry.{LogEntry}
use Rattle.dcp_ends.specs.declared.entries.LogEntry.TheVariants.{Sent, Got, Idle}
use Rattle.dcp_ends.specs.declared.histories.Call.{Call}
use Rattle.dcp_ends.specs.declared.histories.Call.TheVariants as call

-- the entry that tells of a call
abbrev pub call_entry : Call → LogEntry
call_entry (call.Sent from to bytes) = Sent from to bytes.now
call_entry (call.Got at from bytes) = Got at from bytes.now
call_entry (call.Idle at) = Idle at
