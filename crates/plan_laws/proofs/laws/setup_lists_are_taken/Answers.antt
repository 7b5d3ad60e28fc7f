use Rattle.plan_laws.proofs.Taken.{setup_taken, setup_stays, setup_completes, setup_sets}
use Rattle.plan_laws.proofs.laws.setup_lists_are_taken.Goals as goal

pub returns-clause-taken : goal.returns-clause-taken
returns-clause-taken c = λ sc s x p h here. setup_taken sc s x p h here

pub returns-clause-stays : goal.returns-clause-stays
returns-clause-stays c = λ sc s x p h. setup_stays sc s x p h

pub returns-clause-complete : goal.returns-clause-complete
returns-clause-complete c = λ sc s x p h. setup_completes sc s x p h

pub returns-clause-model : goal.returns-clause-model
returns-clause-model c = λ sc s x p h. setup_sets sc s x p h
