use Rattle.slave_laws.proofs.Wiring.RowParts.{have_parts}
use Rattle.slave_laws.proofs.rows.rows_have_parts.Goals as goal

pub returns : goal.returns
returns c = have_parts
