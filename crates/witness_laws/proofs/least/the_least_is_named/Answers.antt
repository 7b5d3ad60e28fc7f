use Rattle.witness_laws.proofs.Shown.Pairs.{tells_both, shown_two, not_second}
use Rattle.witness_laws.proofs.least.the_least_is_named.Goals as goal

pub returns-clause-first : goal.returns-clause-first
returns-clause-first c = tells_both

pub returns-clause-second : goal.returns-clause-second
returns-clause-second c = shown_two

pub returns-clause-not_first : goal.returns-clause-not_first
returns-clause-not_first c = not_second
