use Rattle.std.proofs.Common.{[]}
use Rattle.dcp_io.proofs.Spooling.{begun}
use Rattle.run_text.proofs.runs.write_report.Goals as goal

pub returns : goal.returns
returns g c = λ events stands.
    let held = g.K.Sink.written c.args.out.now in
    let count = g.K.Sink.faults c.args.out.now in
    c.finish.ensures held count _ (c.put_report_line.ensures held count _ (c.put_rows.ensures events stands held count [] (begun held count _ c.new-spool.ensures)))
