use Rattle.master_laws.proofs.PlanOrder.Following.{requests_follow}
use Rattle.master_laws.proofs.plan_order.requests_follow_the_plan.Goals as goal

pub returns : goal.returns
returns c = requests_follow
