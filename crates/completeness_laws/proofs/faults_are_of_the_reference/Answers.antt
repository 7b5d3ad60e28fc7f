use Rattle.completeness_laws.proofs.Causes.Reference.{faults_of_reference}
use Rattle.completeness_laws.proofs.faults_are_of_the_reference.Goals as goal

pub returns : goal.returns
returns c = faults_of_reference
