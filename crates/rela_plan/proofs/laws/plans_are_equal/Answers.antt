use Rattle.rela_plan.proofs.OnePlan.{plan_same}
use Rattle.rela_plan.proofs.laws.plans_are_equal.Goals as goal

pub returns : goal.returns
returns c = plan_same
