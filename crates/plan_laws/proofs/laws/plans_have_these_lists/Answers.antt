use Rattle.plan_laws.proofs.Plans.{setup_at, adjust_at}
use Rattle.plan_laws.proofs.laws.plans_have_these_lists.Goals as goal

pub returns-clause-setup : goal.returns-clause-setup
returns-clause-setup c = λ sc s d h. setup_at sc s d h

pub returns-clause-adjust : goal.returns-clause-adjust
returns-clause-adjust c = λ sc s d r h low high. adjust_at sc s d r h low high
