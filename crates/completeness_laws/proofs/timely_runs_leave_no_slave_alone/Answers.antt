use Rattle.completeness_laws.proofs.Timely.Hearts.{hearts_kept}
use Rattle.completeness_laws.proofs.timely_runs_leave_no_slave_alone.Goals as goal

pub returns : goal.returns
returns c = hearts_kept
