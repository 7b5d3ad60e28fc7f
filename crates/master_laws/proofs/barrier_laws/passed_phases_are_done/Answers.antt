use Rattle.master_laws.proofs.Barrier.Standing.{passed_done}
use Rattle.master_laws.proofs.barrier_laws.passed_phases_are_done.Goals as goal

pub returns : goal.returns
returns c = passed_done
