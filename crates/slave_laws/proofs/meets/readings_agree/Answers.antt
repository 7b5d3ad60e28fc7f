use Rattle.slave_laws.proofs.Talk.Agreeing.{readings_agree}
use Rattle.slave_laws.proofs.meets.readings_agree.Goals as goal

pub returns : goal.returns
returns c = readings_agree
