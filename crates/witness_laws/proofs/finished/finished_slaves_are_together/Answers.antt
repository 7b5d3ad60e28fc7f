use Rattle.witness_laws.proofs.Shown.Together.{run_together, all_together}
use Rattle.witness_laws.proofs.finished.finished_slaves_are_together.Goals as goal

pub returns-clause-run : goal.returns-clause-run
returns-clause-run c = run_together

pub returns-clause-exchanged : goal.returns-clause-exchanged
returns-clause-exchanged c = all_together
