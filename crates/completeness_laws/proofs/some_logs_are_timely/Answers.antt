use Rattle.completeness_laws.proofs.Timely.Witnesses.{timely}
use Rattle.completeness_laws.proofs.some_logs_are_timely.Goals as goal

pub returns : goal.returns
returns c = timely
