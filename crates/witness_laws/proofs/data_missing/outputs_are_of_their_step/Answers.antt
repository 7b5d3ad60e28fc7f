use Rattle.witness_laws.proofs.Shown.RoughRun.{tells_missing}
use Rattle.witness_laws.proofs.data_missing.outputs_are_of_their_step.Goals as goal

pub returns : goal.returns
returns c = tells_missing
