-- A slab for each dimension so far.
use Rattle.std.proofs.Common.{◌≡◌, take}
use Rattle.dap_model.specs.Picking.{whole_slabs}
use Rattle.dap_project.proofs.slabs.whole_slabs.Given as goal

abbrev pub invariant-loop-dim : goal.invariant-loop-dim
invariant-loop-dim l = l.slabs ≡ whole_slabs (take l.dim-index l.dims)
