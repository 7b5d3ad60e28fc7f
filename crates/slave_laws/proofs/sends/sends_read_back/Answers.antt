use Rattle.slave_laws.proofs.Talk.Sending.{sends_back}
use Rattle.slave_laws.proofs.sends.sends_read_back.Goals as goal

pub returns : goal.returns
returns c = sends_back
