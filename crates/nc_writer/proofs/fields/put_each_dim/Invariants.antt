-- The dimensions so far are written.
use Rattle.std.proofs.Common.{◌≡◌, ◌++◌, take}
use Rattle.std.specs.List.{flat_map}
use Rattle.nc_writer.specs.Header.{dim_bytes}
use Rattle.nc_writer.proofs.fields.put_each_dim.Given as goal

abbrev pub invariant-loop-dim : goal.invariant-loop-dim
invariant-loop-dim l = l.out ≡ l.fn.out ++ flat_map dim_bytes (take l.dim-index l.dims)
