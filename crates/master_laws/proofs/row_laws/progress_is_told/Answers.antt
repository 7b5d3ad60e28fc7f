use Rattle.master_laws.proofs.Rows.Views.{progress_told}
use Rattle.master_laws.proofs.row_laws.progress_is_told.Goals as goal

pub returns : goal.returns
returns c = progress_told
