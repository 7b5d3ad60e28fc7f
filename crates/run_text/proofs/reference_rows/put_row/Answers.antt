use Rattle.std.proofs.Common.{List, ℕ, subst}
use Rattle.std.specs.Prelude.{decimal}
use Rattle.run_text.proofs.Growth.{value_more}
use Rattle.dcp_io.specs.Spools.{Spooled}
use Rattle.run_text.proofs.reference_rows.put_row.Goals as goal

pub loop-value-preserved : goal.loop-value-preserved
loop-value-preserved g c = λ old before text spooled.
    let P : List ℕ → Type 0 = λ l. Spooled old (g.K.Sink.written c.put_value.new.out) before (g.K.Sink.faults c.put_value.new.out) l c.put_value.new.spool in
    subst P (value_more text (decimal c.args.number) c.args.values.now c.loop-value.value-index c.loop-value-test.true)
    (c.put_value.ensures old before _ (c.loop-value.invariant old before text spooled))
