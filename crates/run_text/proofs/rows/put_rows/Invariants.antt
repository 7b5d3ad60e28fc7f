-- The rows so far were put.
use Rattle.std.proofs.Common.{List, take}
use Rattle.std.specs.Prelude.{reverse}
use Rattle.dcp_ends.specs.Events.{Event}
use Rattle.master_spec.specs.Course.{course}
use Rattle.master_core.specs.Standing.{StandsAfter, core_setup}
use Rattle.run_text.specs.Puts.{Puts}
use Rattle.run_text.specs.Rows.{rows_text}
use Rattle.run_text.proofs.rows.put_rows.Given as goal

abbrev pub invariant-loop-k : goal.invariant-loop-k
invariant-loop-k g l =
    (events : List Event) → StandsAfter l.master events
    → Puts (g.K.Sink.written l.fn.out) (g.K.Sink.written l.out) (g.K.Sink.faults l.fn.out) (g.K.Sink.faults l.out) l.fn.spool l.spool
    (rows_text 0 (take l.k (course (core_setup l.master) (reverse events)).rows))
