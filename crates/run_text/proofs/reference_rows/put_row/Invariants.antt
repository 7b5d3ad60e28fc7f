-- The number and the values so far were put.
use Rattle.std.proofs.Common.{◌++◌, take}
use Rattle.std.specs.List.{flat_map}
use Rattle.std.specs.Prelude.{decimal}
use Rattle.run_text.specs.Puts.{Puts}
use Rattle.run_text.specs.Rows.{spaced_value}
use Rattle.run_text.proofs.reference_rows.put_row.Given as goal

abbrev pub invariant-loop-value : goal.invariant-loop-value
invariant-loop-value g l =
    Puts (g.K.Sink.written l.fn.out) (g.K.Sink.written l.out) (g.K.Sink.faults l.fn.out) (g.K.Sink.faults l.out) l.fn.spool l.spool
    (decimal l.number ++ flat_map spaced_value (take l.value-index l.values))
