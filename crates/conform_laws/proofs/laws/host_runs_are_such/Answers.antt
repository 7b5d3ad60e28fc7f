use Rattle.conform_laws.proofs.Once.{host_runs}
use Rattle.conform_laws.proofs.laws.host_runs_are_such.Goals as goal

pub returns : goal.returns
returns c = host_runs
