use Rattle.completeness_laws.proofs.Quiet.Emptied.{lose_nothing}
use Rattle.completeness_laws.proofs.quiet_nets_lose_nothing.Goals as goal

pub returns : goal.returns
returns c = lose_nothing
