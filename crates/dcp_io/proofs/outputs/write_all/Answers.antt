use Rattle.std.proofs.Common.{arith, sym, subst, ◌∙◌, take-append-drop, take, drop}
use Rattle.std.proofs.lemmas.List.{length-drop, take_rest}
use Rattle.dcp_io.specs.Faults.{Rose}
use Rattle.dcp_io.proofs.Pieces.{then_none_added, wrote_more}
use Rattle.dcp_io.proofs.outputs.write_all.Goals as goal

pub returns-in-Failed : goal.returns-in-Failed
returns-in-Failed g c =
    let at = c.loop-at.at in
    let text = c.args.text.now in (
      take at text,
      drop at text,
      sym (take-append-drop at text),
      then_none_added _ _ _ _ c.loop-at.invariant.added c.in-Failed.ensures.bytes,
      subst (λ b. Rose b (g.K.Sink.faults c.write.new.self)) c.loop-at.invariant.no_fault c.in-Failed.ensures.cause.1,
    )

pub loop-at-preserved : goal.loop-at-preserved
loop-at-preserved g c = record {
  within = omega (arith, c.in-Wrote.ensures.fits, length-drop c.loop-at.at c.args.text.now);
  added = wrote_more _ _ _ c.args.text.now _ c.loop-at.at c.in-Wrote.count (take_rest c.args.text.now c.loop-at.at) c.loop-at.invariant.added c.in-Wrote.ensures.bytes;
  no_fault = c.in-Wrote.ensures.cause ∙ c.loop-at.invariant.no_fault;
}
