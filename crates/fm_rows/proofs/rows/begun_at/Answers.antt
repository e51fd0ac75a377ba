-- The pages begin in their order.
use Rattle.std.proofs.Common.{rules, of_calls, nat_le}
use Rattle.std.proofs.lemmas.Fn.{always_returns_same}
use Rattle.std.proofs.lemmas.List.Sorted.{IsPartitionedBy-leb}
use Rattle.fm_rows.specs.declared.rows.Page.{Page}
use Rattle.fm_rows.proofs.rows.begun_at.Goals as goal

pub returns-clause-begun : goal.returns-clause-begun
returns-clause-begun c = c.partition_point.ensures.partitioned (λ (p : Page). nat_le p.start c.args.index)
    (always_returns_same _ _ _ (λ a r f k. search (rules, of_calls)))
    (IsPartitionedBy-leb (λ (p : Page). p.start) c.args.pages.now c.args.index c.requires)
