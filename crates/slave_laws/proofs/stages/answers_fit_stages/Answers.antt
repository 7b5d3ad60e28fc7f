use Rattle.slave_laws.proofs.Model.Standing.{answers_fit}
use Rattle.slave_laws.proofs.stages.answers_fit_stages.Goals as goal

pub returns : goal.returns
returns c = answers_fit
