use Rattle.run_laws.proofs.Honesty.{honest}
use Rattle.run_laws.proofs.nets.recent_is_honest.Goals as goal

pub returns : goal.returns
returns c = honest
