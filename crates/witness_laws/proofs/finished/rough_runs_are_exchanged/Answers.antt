use Rattle.witness_laws.proofs.Shown.RoughRun.{run_whole, all_rough}
use Rattle.witness_laws.proofs.finished.rough_runs_are_exchanged.Goals as goal

pub returns-clause-run : goal.returns-clause-run
returns-clause-run c = run_whole

pub returns-clause-exchanged : goal.returns-clause-exchanged
returns-clause-exchanged c = all_rough
