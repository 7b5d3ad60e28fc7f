use Rattle.completeness_laws.proofs.Timely.Reasoned.{completes}
use Rattle.completeness_laws.proofs.timely_runs_report_the_reference.Goals as goal

pub returns : goal.returns
returns c = completes
