use Rattle.witness_laws.proofs.Shown.FirstPhases.{none_right}
use Rattle.witness_laws.proofs.unexpected.targets_are_expected.Goals as goal

pub returns : goal.returns
returns c = none_right
