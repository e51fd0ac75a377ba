-- The first dimension of the name is that of the dimensions that are left.
use Rattle.std.proofs.Common.{◌≡◌, ◌+◌, length}
use Rattle.nc_writer.specs.Dims.{dim_number}
use Rattle.nc_writer.proofs.dims.dim_number.Given as goal

abbrev pub invariant-loop-left : goal.invariant-loop-left
invariant-loop-left l =
    (l.at + dim_number l.left l.name ≡ dim_number l.dims l.name) × (l.at + length l.left ≡ length l.dims)

abbrev pub decreases-loop-left : goal.decreases-loop-left
decreases-loop-left l = length l.left
