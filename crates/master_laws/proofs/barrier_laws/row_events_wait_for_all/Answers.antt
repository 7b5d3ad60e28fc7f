use Rattle.master_laws.proofs.Barrier.Waiting.{events_wait}
use Rattle.master_laws.proofs.barrier_laws.row_events_wait_for_all.Goals as goal

pub returns : goal.returns
returns c = events_wait
