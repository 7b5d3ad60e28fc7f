use Rattle.slave_log.proofs.Keeping.{keeps_all}
use Rattle.slave_log.proofs.logs.the_log_keeps_all.Goals as goal

pub returns : goal.returns
returns c = keeps_all
