use Rattle.slave_laws.proofs.Wiring.Courses.{is_counted}
use Rattle.slave_laws.proofs.courses.steps_are_in_range.Goals as goal

pub returns : goal.returns
returns c = is_counted
