use Rattle.witness_laws.proofs.Shown.FirstPhases.{tells_faulted, only_faulted}
use Rattle.witness_laws.proofs.faulted.faults_are_shown.Goals as goal

pub returns-clause-first : goal.returns-clause-first
returns-clause-first c = tells_faulted

pub returns-clause-only : goal.returns-clause-only
returns-clause-only c = only_faulted
