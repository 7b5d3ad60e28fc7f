use Rattle.slave_laws.proofs.Data.Taken.{past_tuned}
use Rattle.slave_laws.proofs.emits.slaves_past_setup_are_tuned.Goals as goal

pub returns : goal.returns
returns c = past_tuned
