use Rattle.dcp_types.proofs.Residues.{one_value}
use Rattle.dcp_types.proofs.laws.value_bytes_are_one_to_one.Goals as goal

pub returns : goal.returns
returns c = one_value
