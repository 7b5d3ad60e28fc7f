use Rattle.master_laws.proofs.Barrier.Standing.{progress_by_phase}
use Rattle.master_laws.proofs.barrier_laws.progress_goes_by_phase.Goals as goal

pub returns : goal.returns
returns c = progress_by_phase
