use Rattle.plan_laws.proofs.Course.Courses.{opened_tuned}
use Rattle.plan_laws.proofs.courses.opened_is_tuned.Goals as goal

pub returns : goal.returns
returns c = opened_tuned
