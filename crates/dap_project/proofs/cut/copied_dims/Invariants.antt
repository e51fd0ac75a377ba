-- The dimensions so far are copied.
use Rattle.std.proofs.Common.{◌≡◌, take}
use Rattle.dap_project.proofs.cut.copied_dims.Given as goal

abbrev pub invariant-loop-dim : goal.invariant-loop-dim
invariant-loop-dim l = l.copy ≡ take l.dim-index l.dims
