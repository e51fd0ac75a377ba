-- The dimensions so far are added.
use Rattle.std.proofs.Common.{◌≡◌, ◌++◌, take}
use Rattle.fm_twod.proofs.declare.put_dims.Given as goal

abbrev pub invariant-loop-dim : goal.invariant-loop-dim
invariant-loop-dim l = l.list ≡ l.fn.list ++ take l.dim-index l.dims
