-- The dimension that is looked for stands among those that are left.
use Rattle.std.proofs.Common.{◌≡◌, drop, find}
use Rattle.nc_writer.specs.Dims.{is_named}
use Rattle.nc_writer.proofs.dims.has_size.Given as goal

abbrev pub invariant-loop-dim : goal.invariant-loop-dim
invariant-loop-dim l = find (is_named l.name) (drop l.dim-index l.found) ≡ find (is_named l.name) l.found
