use Rattle.run_laws.proofs.Headline.Others.{no_difference}
use Rattle.run_laws.proofs.headline_laws.others_make_no_difference.Goals as goal

pub returns : goal.returns
returns c = no_difference
