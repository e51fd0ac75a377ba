-- The variables that are left, after the dimensions that were found, come to what all come to.
use Rattle.std.proofs.Common.{◌≡◌, [], drop}
use Rattle.nc_writer.specs.Dims.{dims_from}
use Rattle.nc_writer.proofs.dims.dims_of.Given as goal

abbrev pub invariant-loop-variable : goal.invariant-loop-variable
invariant-loop-variable l = dims_from [] l.variables ≡ dims_from l.found (drop l.variable-index l.variables)
