use Rattle.witness_laws.proofs.Shown.Pairs.{tells_silent, none_passed}
use Rattle.witness_laws.proofs.least.passed_slaves_are_not_named.Goals as goal

pub returns-clause-second : goal.returns-clause-second
returns-clause-second c = tells_silent

pub returns-clause-first : goal.returns-clause-first
returns-clause-first c = none_passed
