use Rattle.master_laws.proofs.RowCounts.Goes.{one_by_one}
use Rattle.master_laws.proofs.row_counts.rows_go_one_by_one.Goals as goal

pub returns : goal.returns
returns c = one_by_one
