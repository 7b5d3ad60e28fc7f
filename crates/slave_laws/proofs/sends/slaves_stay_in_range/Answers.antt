use Rattle.slave_laws.proofs.Talk.Sending.{in_range}
use Rattle.slave_laws.proofs.sends.slaves_stay_in_range.Goals as goal

pub returns : goal.returns
returns c = in_range
