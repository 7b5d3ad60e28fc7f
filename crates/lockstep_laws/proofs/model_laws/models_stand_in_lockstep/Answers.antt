use Rattle.lockstep_laws.proofs.Models.Moments.{models}
use Rattle.lockstep_laws.proofs.model_laws.models_stand_in_lockstep.Goals as goal

pub returns : goal.returns
returns c w x m ok are rows fault ref later log b = models w x m ok are rows fault ref later log b
