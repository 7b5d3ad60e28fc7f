use Rattle.completeness_laws.proofs.Timely.Witnesses.{leave_time}
use Rattle.completeness_laws.proofs.quick_slaves_leave_time.Goals as goal

pub returns : goal.returns
returns c = leave_time
