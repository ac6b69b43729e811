use Rattle.graph.proofs.NotLive.{not_live_stages_are_a_plan_lem}
use Rattle.graph.proofs.plans.not_live_stages_are_a_plan.Goals as goal

pub returns : goal.returns
returns c = not_live_stages_are_a_plan_lem
