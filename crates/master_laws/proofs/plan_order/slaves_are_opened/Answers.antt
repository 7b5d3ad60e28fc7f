use Rattle.master_laws.proofs.PlanOrder.Following.{slaves_opened}
use Rattle.master_laws.proofs.plan_order.slaves_are_opened.Goals as goal

pub returns : goal.returns
returns c = slaves_opened
