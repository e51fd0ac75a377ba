-- The count so far, times that of the slabs still to come, is that of all.
use Rattle.std.proofs.Common.{◌≡◌, ◌*◌, drop}
use Rattle.dap_model.specs.Box.{box_len}
use Rattle.dap_slab.proofs.count.slab_len.Given as goal

abbrev pub invariant-loop-slab : goal.invariant-loop-slab
invariant-loop-slab l = l.len * box_len (drop l.slab-index l.slabs) ≡ box_len l.slabs
