use Rattle.commands.proofs.Elsewhere.{all_models}
use Rattle.commands.proofs.says.reference.say_reference.Goals as goal

pub reference-requires-clause-models : goal.reference-requires-clause-models
reference-requires-clause-models c = all_models c.in-Ok.scenario c.in-Ok.ensures.range c.in_default.ensures.models
