-- The indices so far, and those of what is left of the element among the slabs that are left.
use Rattle.std.proofs.Common.{◌≡◌, ◌<◌, ◌++◌, take, drop, length}
use Rattle.dap_model.specs.Box.{box_len, index_at}
use Rattle.dap_slab.proofs.index.put_index.Given as goal

abbrev pub invariant-loop-at : goal.invariant-loop-at
invariant-loop-at l =
    (length l.index ≡ length l.slabs)
    × (l.others ≡ box_len (drop l.at l.slabs))
    × (l.rest < l.others)
    × (take l.at l.index ++ index_at (drop l.at l.slabs) l.rest ≡ index_at l.slabs l.element)
