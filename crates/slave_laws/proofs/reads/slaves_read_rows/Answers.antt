use Rattle.slave_laws.proofs.Wiring.Rows.{reads_rows}
use Rattle.slave_laws.proofs.reads.slaves_read_rows.Goals as goal

pub returns : goal.returns
returns c = reads_rows
