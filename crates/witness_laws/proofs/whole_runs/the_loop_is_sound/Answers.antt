use Rattle.witness_laws.proofs.Runs.Sound.{loop_is_scenario}
use Rattle.witness_laws.proofs.Runs.References.{loop_is_referred}
use Rattle.witness_laws.proofs.Runs.Roomy.{loop_is_roomy}
use Rattle.witness_laws.proofs.whole_runs.the_loop_is_sound.Goals as goal

pub returns-clause-sound : goal.returns-clause-sound
returns-clause-sound c = loop_is_scenario

pub returns-clause-roomy : goal.returns-clause-roomy
returns-clause-roomy c = loop_is_roomy

pub returns-clause-reference : goal.returns-clause-reference
returns-clause-reference c = loop_is_referred
