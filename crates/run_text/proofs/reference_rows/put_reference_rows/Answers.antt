use Rattle.std.proofs.Common.{List, ℕ, subst}
use Rattle.run_text.proofs.Growth.{row_more}
use Rattle.dcp_io.specs.Spools.{Spooled}
use Rattle.run_text.proofs.reference_rows.put_reference_rows.Goals as goal

pub loop-number-preserved : goal.loop-number-preserved
loop-number-preserved g c = λ old before text spooled.
    let P : List ℕ → Type 0 = λ l. Spooled old (g.K.Sink.written c.put_row.new.out) before (g.K.Sink.faults c.put_row.new.out) l c.put_row.new.spool in
    subst P (row_more text c.loop-number.number c.args.rows.now c.row.result.now c.row.ensures)
    (c.put_row.ensures old before _ (c.loop-number.invariant old before text spooled))
