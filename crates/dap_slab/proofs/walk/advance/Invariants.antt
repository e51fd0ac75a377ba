-- The slabs from an index on have started again, and the indices before it are as they were.
use Rattle.std.proofs.Common.{◌≡◌, ◌≤◌, length, take, drop}
use Rattle.dap_slab.proofs.WalkLemmas.{Carried}
use Rattle.dap_slab.proofs.walk.advance.Given as goal

abbrev pub invariant-loop-at : goal.invariant-loop-at
invariant-loop-at l =
    (l.at ≤ length l.slabs)
    × (length l.index ≡ length l.slabs)
    × Carried (take l.at l.slabs) (drop l.at l.slabs) l.index l.given

abbrev pub decreases-loop-at : goal.decreases-loop-at
decreases-loop-at l = l.at
