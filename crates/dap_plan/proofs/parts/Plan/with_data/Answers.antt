-- A plan with data.
use Rattle.dap_plan.proofs.PlanLemmas.{data-plan}
use Rattle.dap_plan.proofs.parts.Plan.with_data.Goals as goal

pub invariant_of-result : goal.invariant_of-result
invariant_of-result c = (
  data-plan c.args.front c.args.source c.args.sent c.args.len c.requires.sent c.requires.len c.requires.few,
  c.requires.laid,
)
