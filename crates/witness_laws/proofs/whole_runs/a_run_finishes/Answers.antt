use Rattle.witness_laws.proofs.Runs.Loop.{runs, timely, ends}
use Rattle.witness_laws.proofs.whole_runs.a_run_finishes.Goals as goal

pub returns-clause-run : goal.returns-clause-run
returns-clause-run c = runs

pub returns-clause-timely : goal.returns-clause-timely
returns-clause-timely c = timely

pub returns-clause-ends : goal.returns-clause-ends
returns-clause-ends c = ends
