use Rattle.master_laws.proofs.Rows.Views.{acknowledged}
use Rattle.master_laws.proofs.row_laws.events_are_acknowledged.Goals as goal

pub returns : goal.returns
returns c = acknowledged
