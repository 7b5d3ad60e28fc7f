use Rattle.witness_laws.proofs.Shown.Pairs.{tells_setup, none_setup}
use Rattle.witness_laws.proofs.least.signs_of_life_show_nothing.Goals as goal

pub returns-clause-second : goal.returns-clause-second
returns-clause-second c = tells_setup

pub returns-clause-first : goal.returns-clause-first
returns-clause-first c = none_setup
