use Rattle.witness_laws.proofs.Runs.Late.{runs, not_timely, asked_again, ends}
use Rattle.witness_laws.proofs.whole_runs.a_run_loses_an_answer.Goals as goal

pub returns-clause-run : goal.returns-clause-run
returns-clause-run c = runs

pub returns-clause-late : goal.returns-clause-late
returns-clause-late c = not_timely

pub returns-clause-again : goal.returns-clause-again
returns-clause-again c = asked_again

pub returns-clause-ends : goal.returns-clause-ends
returns-clause-ends c = ends
