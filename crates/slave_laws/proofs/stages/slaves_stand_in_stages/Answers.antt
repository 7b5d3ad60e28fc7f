use Rattle.slave_laws.proofs.Model.Standing.{slaves_stand}
use Rattle.slave_laws.proofs.stages.slaves_stand_in_stages.Goals as goal

pub returns : goal.returns
returns c = slaves_stand
