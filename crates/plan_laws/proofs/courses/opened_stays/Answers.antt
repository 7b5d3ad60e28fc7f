use Rattle.plan_laws.proofs.Course.Courses.{stays}
use Rattle.plan_laws.proofs.courses.opened_stays.Goals as goal

pub returns : goal.returns
returns c = stays
