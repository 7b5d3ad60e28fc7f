use Rattle.run_laws.proofs.Headline.Rows.{models_always}
use Rattle.run_laws.proofs.headline_laws.models_stand_in_lockstep.Goals as goal

pub returns : goal.returns
returns c = models_always
