use Rattle.std.proofs.Common.{◌≡◌, ◌+◌, replicate}
use Rattle.pub_snap.proofs.share.cut.Given as goal

abbrev pub invariant-loop-made : goal.invariant-loop-made
invariant-loop-made g l =
    (l.shares ≡ replicate l._made 0) × (l.rest.parts + l._made ≡ l.fn.rest.parts) × (l.rest.amount ≡ 0)
