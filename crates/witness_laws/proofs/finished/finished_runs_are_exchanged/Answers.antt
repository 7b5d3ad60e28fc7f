use Rattle.witness_laws.proofs.Shown.Exchanges.{run_whole, all_exchanged}
use Rattle.witness_laws.proofs.finished.finished_runs_are_exchanged.Goals as goal

pub returns-clause-run : goal.returns-clause-run
returns-clause-run c = run_whole

pub returns-clause-exchanged : goal.returns-clause-exchanged
returns-clause-exchanged c = all_exchanged
