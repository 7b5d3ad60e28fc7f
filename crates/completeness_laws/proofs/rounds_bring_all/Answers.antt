use Rattle.completeness_laws.proofs.Quiet.Patient.{all_brought}
use Rattle.completeness_laws.proofs.rounds_bring_all.Goals as goal

pub returns : goal.returns
returns c = all_brought
