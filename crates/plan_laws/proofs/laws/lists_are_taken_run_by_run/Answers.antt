use Rattle.plan_laws.proofs.Running.{runs_taken, runs_set, runs_complete}
use Rattle.plan_laws.proofs.laws.lists_are_taken_run_by_run.Goals as goal

pub returns-clause-taken : goal.returns-clause-taken
returns-clause-taken c = λ sc s x p happened r h. runs_taken sc s x p happened r h

pub returns-clause-parameters : goal.returns-clause-parameters
returns-clause-parameters c = λ sc s x p happened r h. runs_set sc s x p happened r h

pub returns-clause-complete : goal.returns-clause-complete
returns-clause-complete c = λ sc s x p happened r h. runs_complete sc s x p happened r h
