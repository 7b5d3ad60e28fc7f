-- The rows so far were put.
use Rattle.std.proofs.Common.{take}
use Rattle.run_text.specs.Puts.{Puts}
use Rattle.run_text.specs.Rows.{rows_text}
use Rattle.run_text.proofs.reference_rows.put_reference_rows.Given as goal

abbrev pub invariant-loop-number : goal.invariant-loop-number
invariant-loop-number g l =
    Puts (g.K.Sink.written l.fn.out) (g.K.Sink.written l.out) (g.K.Sink.faults l.fn.out) (g.K.Sink.faults l.out) l.fn.spool l.spool
    (rows_text 0 (take l.number l.rows))
