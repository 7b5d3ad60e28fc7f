use Rattle.run_laws.proofs.Headline.Behaving.{all_behave}
use Rattle.run_laws.proofs.headline_laws.all_behave.Goals as goal

pub returns : goal.returns
returns c = all_behave
