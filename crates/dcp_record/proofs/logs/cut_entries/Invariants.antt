use Rattle.std.proofs.Common.{◌≡◌, ◌+◌, ◌≤◌, ◌++◌, length}
use Rattle.std.specs.List.{All}
use Rattle.dcp_record.specs.Traces.{all_entry_bytes, IsRecordable}
use Rattle.dcp_record.proofs.logs.cut_entries.Given as goal

-- the entries so far, and behind them what is left
abbrev pub invariant-entries : goal.invariant-entries
invariant-entries l = record {
  recordable : All IsRecordable l.told.entries;
  parts : l.fn.bytes ≡ all_entry_bytes l.told.entries ++ l.rest;
  counted : l.count ≡ length l.told.entries;
  few : l.count + length l.rest ≤ length l.fn.bytes;
}

abbrev pub decreases-entries : goal.decreases-entries
decreases-entries l = length l.rest
