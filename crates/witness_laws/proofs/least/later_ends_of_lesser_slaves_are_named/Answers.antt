use Rattle.witness_laws.proofs.Shown.Pairs.{tells_faulted, shown_other}
use Rattle.witness_laws.proofs.least.later_ends_of_lesser_slaves_are_named.Goals as goal

pub returns-clause-first : goal.returns-clause-first
returns-clause-first c = tells_faulted

pub returns-clause-second : goal.returns-clause-second
returns-clause-second c = shown_other
