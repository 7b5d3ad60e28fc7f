use Rattle.witness_laws.proofs.Shown.Runs.{overlapping_not}
use Rattle.witness_laws.proofs.finished.runs_wait_for_each_other.Goals as goal

pub returns : goal.returns
returns c = overlapping_not
