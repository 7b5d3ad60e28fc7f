use Rattle.master_laws.proofs.Barrier.Standing.{rows_in_phase}
use Rattle.master_laws.proofs.barrier_laws.rows_are_shown_in_their_phase.Goals as goal

pub returns : goal.returns
returns c = rows_in_phase
