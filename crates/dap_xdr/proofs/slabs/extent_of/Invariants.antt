-- The extent of the slabs from `at` on.
use Rattle.std.proofs.Common.{◌≡◌, ◌≤◌, drop, length}
use Rattle.dap_xdr.specs.Stretch.{extent_of}
use Rattle.dap_xdr.proofs.slabs.extent_of.Given as goal

abbrev pub decreases-loop-at : goal.decreases-loop-at
decreases-loop-at l = l.at

abbrev pub invariant-loop-at : goal.invariant-loop-at
invariant-loop-at l = (l.at ≤ length l.slabs) × (l.extent ≡ extent_of (drop l.at l.dims) (drop l.at l.slabs))
