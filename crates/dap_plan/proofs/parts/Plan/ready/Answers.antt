-- A plan of bytes that stand ready.
use Rattle.std.proofs.Common.{List, None, subst, sym}
use Rattle.dap_model.specs.declared.projection.Sent.{Sent}
use Rattle.dap_plan.specs.Parts.{IsPlan}
use Rattle.dap_plan.proofs.PlanLemmas.{ready-plan}
use Rattle.dap_plan.proofs.parts.Plan.ready.Goals as goal

pub invariant_of-result : goal.invariant_of-result
invariant_of-result c = (
  subst (λ (sent : List Sent). IsPlan (record { front = c.args.front; source = None; sent = sent }) c.len-len.result)
      (sym c.new.ensures) (ready-plan c.args.front c.len-len.result c.len-len.ensures),
  tt,
)
