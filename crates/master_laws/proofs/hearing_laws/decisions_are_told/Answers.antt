use Rattle.master_laws.proofs.Hears.Decided.{are_told}
use Rattle.master_laws.proofs.hearing_laws.decisions_are_told.Goals as goal

pub returns : goal.returns
returns c = are_told
