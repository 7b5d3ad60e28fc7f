use Rattle.slave_laws.proofs.Talk.Sending.{are_lawful}
use Rattle.slave_laws.proofs.sends.slaves_are_lawful.Goals as goal

pub returns : goal.returns
returns c = are_lawful
