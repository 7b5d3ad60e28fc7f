use Rattle.completeness_laws.proofs.Timely.Retries.{steps_wait}
use Rattle.completeness_laws.proofs.steps_wait_to_be_asked_again.Goals as goal

pub returns : goal.returns
returns c = steps_wait
