use Rattle.token.proofs.PlanCases.{plan_empty, plan_data}
use Rattle.token.proofs.plan.build_control_td_plan.Goals as goal

pub returns-then-length-eq0 : goal.returns-then-length-eq0
returns-then-length-eq0 c = search plan_empty

pub returns : goal.returns
returns c = search plan_data
