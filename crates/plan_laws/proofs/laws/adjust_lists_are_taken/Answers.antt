use Rattle.plan_laws.proofs.Running.{adjust_taken, adjust_stays, adjust_sets, adjust_begins}
use Rattle.plan_laws.proofs.laws.adjust_lists_are_taken.Goals as goal

pub returns-clause-taken : goal.returns-clause-taken
returns-clause-taken c = λ sc s x p r h here kind same. adjust_taken sc s x p r h here kind same

pub returns-clause-parameters : goal.returns-clause-parameters
returns-clause-parameters c = λ sc s x p r h kind same. (adjust_sets sc s x p r h kind same).1

pub returns-clause-model : goal.returns-clause-model
returns-clause-model c = λ sc s x p r h is. adjust_begins sc s x p r h is

pub returns-clause-stays : goal.returns-clause-stays
returns-clause-stays c = λ sc s x p r h kind same. adjust_stays sc s x p r h kind same
