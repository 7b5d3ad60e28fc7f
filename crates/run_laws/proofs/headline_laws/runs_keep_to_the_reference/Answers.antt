use Rattle.run_laws.proofs.Headline.Headline.{keep_to_reference}
use Rattle.run_laws.proofs.headline_laws.runs_keep_to_the_reference.Goals as goal

pub returns : goal.returns
returns c = keep_to_reference
