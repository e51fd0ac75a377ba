-- The bytes that stand ready are counted, and the data behind them is as long as before.
use Rattle.std.proofs.Common.{◌++◌, ◌∙◌, ap, arith}
use Rattle.dap_plan.proofs.PlanLemmas.{behind-plan, data-count}
use Rattle.dap_plan.proofs.parts.Plan.behind.Goals as goal

pub overflow_sub-data : goal.overflow_sub-data
overflow_sub-data c = omega (arith, c.len.ensures, (data-count _ c.self.inside.len c.self.invariant.0).0)

pub overflow_add-len : goal.overflow_add-len
overflow_add-len c = omega (
  arith,
  c.len.ensures,
  c.ready_len.ensures.small,
  (data-count _ c.self.inside.len c.self.invariant.0).1,
  c.self.invariant.0.few,
)

pub invariant_of-result : goal.invariant_of-result
invariant_of-result c = (
  behind-plan _ c.self.inside.len c.ready_len.result _ c.args.front c.put_before.new.text c.self.invariant.0
      c.ready_len.ensures.exact (omega (arith, c.len.ensures))
      (c.in_ok-put_before.ensures ∙ ap (λ l. l ++ c.self.inside.front) c.as_slice.ensures),
  c.self.invariant.1,
)
