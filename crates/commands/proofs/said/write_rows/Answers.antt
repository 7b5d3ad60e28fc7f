use Rattle.std.proofs.Common.{[]}
use Rattle.dcp_io.proofs.Spooling.{begun}
use Rattle.commands.proofs.said.write_rows.Goals as goal

pub returns : goal.returns
returns g c =
    let held = g.K.Sink.written c.args.out.now in
    let count = g.K.Sink.faults c.args.out.now in
    c.finish.ensures held count _ (c.put_reference_line.ensures held count _ (c.put_reference_rows.ensures held count [] (begun held count _ c.new-spool.ensures)))
