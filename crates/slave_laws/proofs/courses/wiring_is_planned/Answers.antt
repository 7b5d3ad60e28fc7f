use Rattle.slave_laws.proofs.Wiring.Courses.{is_planned}
use Rattle.slave_laws.proofs.courses.wiring_is_planned.Goals as goal

pub returns : goal.returns
returns c = is_planned
