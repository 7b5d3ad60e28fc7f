use Rattle.std.proofs.Common.{◌-◌, ◌≤◌, length, take}
use Rattle.dcp_record.specs.Puts.{Puts}
use Rattle.dcp_record.proofs.writers.put_text.Given as goal

abbrev pub invariant-loop-at : goal.invariant-loop-at
invariant-loop-at g l = record {
  within : l.at ≤ length l.text;
  puts : Puts (g.K.Sink.written l.fn.sink) (g.K.Sink.written l.sink) (g.K.Sink.faults l.fn.sink) (g.K.Sink.faults l.sink) l.fn.spool l.spool (take l.at l.text);
}

abbrev pub decreases-loop-at : goal.decreases-loop-at
decreases-loop-at g l = length l.text - l.at
