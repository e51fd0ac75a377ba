-- The parts begin in their order.
use Rattle.std.proofs.Common.{rules, of_calls, ℕ, nat_le}
use Rattle.std.proofs.lemmas.Fn.{always_returns_same}
use Rattle.std.proofs.lemmas.List.Sorted.{IsPartitionedBy-leb}
use Rattle.dap_plan.proofs.laid.begun_at.Goals as goal

pub returns-clause-begun : goal.returns-clause-begun
returns-clause-begun c = c.partition_point.ensures.partitioned (λ (begin : ℕ). nat_le begin c.args.from)
    (always_returns_same _ _ _ (λ a r f k. search (rules, of_calls)))
    (IsPartitionedBy-leb (λ (begin : ℕ). begin) c.args.begins.now c.args.from c.requires)
