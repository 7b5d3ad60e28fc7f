use Rattle.plan_laws.proofs.Course.Courses.{begun}
use Rattle.plan_laws.proofs.courses.begun_is_opened.Goals as goal

pub returns : goal.returns
returns c = begun
