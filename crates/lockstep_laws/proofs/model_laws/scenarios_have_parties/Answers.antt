use Rattle.lockstep_laws.proofs.Models.Scenarios.{has_parties}
use Rattle.lockstep_laws.proofs.model_laws.scenarios_have_parties.Goals as goal

pub returns : goal.returns
returns c = has_parties
