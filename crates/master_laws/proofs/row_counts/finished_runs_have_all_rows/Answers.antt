use Rattle.master_laws.proofs.RowCounts.All.{finished_all}
use Rattle.master_laws.proofs.row_counts.finished_runs_have_all_rows.Goals as goal

pub returns : goal.returns
returns c = finished_all
