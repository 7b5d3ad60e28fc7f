use Rattle.master_log_laws.proofs.Index.ByEntry.{entry_by_entry}
use Rattle.master_log_laws.proofs.index_laws.runs_go_entry_by_entry.Goals as goal

pub returns : goal.returns
returns c = entry_by_entry
