use Rattle.master_log_laws.proofs.Index.Laws.{index_up_to_report, index_once_reported}
use Rattle.master_log_laws.proofs.index_laws.marks_index_the_log.Goals as goal

pub returns-clause-running : goal.returns-clause-running
returns-clause-running c = index_up_to_report

pub returns-clause-reported : goal.returns-clause-reported
returns-clause-reported c = index_once_reported
