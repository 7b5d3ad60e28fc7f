use Rattle.witness_laws.proofs.Shown.Runs.{run_twice, all_twice}
use Rattle.witness_laws.proofs.finished.finished_runs_are_separate.Goals as goal

pub returns-clause-run : goal.returns-clause-run
returns-clause-run c = run_twice

pub returns-clause-exchanged : goal.returns-clause-exchanged
returns-clause-exchanged c = all_twice
