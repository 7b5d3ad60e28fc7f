use Rattle.witness_laws.proofs.Shown.Runs.{tells_old}
use Rattle.witness_laws.proofs.data_missing.outputs_are_of_their_run.Goals as goal

pub returns : goal.returns
returns c = tells_old
