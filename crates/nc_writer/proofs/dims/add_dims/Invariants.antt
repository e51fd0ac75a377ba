-- The dimensions that are left, after those that were found, come to what all come to.
use Rattle.std.proofs.Common.{◌≡◌, drop}
use Rattle.nc_writer.specs.Dims.{add_dims}
use Rattle.nc_writer.proofs.dims.add_dims.Given as goal

abbrev pub invariant-loop-dim : goal.invariant-loop-dim
invariant-loop-dim l = add_dims l.fn.found l.dims ≡ add_dims l.found (drop l.dim-index l.dims)
