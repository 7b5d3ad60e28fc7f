use Rattle.plan_laws.proofs.Running.{acknowledged}
use Rattle.plan_laws.proofs.laws.settings_are_acknowledged.Goals as goal

pub returns : goal.returns
returns c = λ x p body fine. acknowledged x p body fine
