-- The slabs before the index are those of whole dimensions.
use Rattle.std.proofs.Common.{◌≡◌, drop}
use Rattle.std.specs.Cmp.Lexicographic.{pointwise}
use Rattle.dap_model.specs.ClauseFaults.{is_same_slab}
use Rattle.dap_model.specs.Picking.{whole_slabs}
use Rattle.dap_project.proofs.slabs.are_whole.Given as goal

abbrev pub invariant-loop-at : goal.invariant-loop-at
invariant-loop-at l = pointwise is_same_slab (drop l.at l.slabs) (whole_slabs (drop l.at l.dims))
    ≡ pointwise is_same_slab l.slabs (whole_slabs l.dims)
