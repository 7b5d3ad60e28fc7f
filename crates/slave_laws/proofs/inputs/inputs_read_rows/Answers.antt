use Rattle.slave_laws.proofs.Wiring.Inputs.{read_rows}
use Rattle.slave_laws.proofs.inputs.inputs_read_rows.Goals as goal

pub returns : goal.returns
returns c = read_rows
