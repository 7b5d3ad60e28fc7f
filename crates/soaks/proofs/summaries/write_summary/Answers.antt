use Rattle.std.proofs.Common.{[], ◌++◌, ◌∙◌, rules, subst}
use Rattle.std.specs.Int.{w128}
use Rattle.std.specs.Prelude.{ℤ}
use Rattle.std.proofs.lemmas.Int.{to_z-of_z}
use Rattle.dcp_io.specs.Outputs.{Delivers}
use Rattle.dcp_io.proofs.Spooling.{begun}
use Rattle.soaks.specs.Summaries.{first_line, sum_text}
use Rattle.soaks.proofs.summaries.write_summary.Goals as goal

pub returns : goal.returns
returns g c = λ events stands.
    let held = g.K.Sink.written c.args.out.now in
    let count = g.K.Sink.faults c.args.out.now in
    let Summed : ℤ → Type 0 = λ sum. Delivers held (g.K.Sink.written c.finish.new.out) count (g.K.Sink.faults c.finish.new.out) (first_line c.args.number c.args.report ++ sum_text sum) c.finish.result in
    subst Summed (to_z-of_z w128 c.sum_of_rows-sum.result (search rules) ∙ c.sum_of_rows-sum.ensures events stands)
    (c.finish.ensures held count _ (c.put_sum.ensures held count _ (c.put_first.ensures held count [] (begun held count _ c.new-spool.ensures))))
