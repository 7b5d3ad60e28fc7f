use Rattle.completeness_laws.proofs.Quiet.Little.{send_little}
use Rattle.completeness_laws.proofs.slaves_send_little.Goals as goal

pub returns : goal.returns
returns c = send_little
