-- The variables that are left come to what all come to.
use Rattle.std.proofs.Common.{◌≡◌, drop}
use Rattle.nc_writer.specs.Dims.{names_free}
use Rattle.nc_writer.proofs.dims.check_names.Given as goal

abbrev pub invariant-loop-variable : goal.invariant-loop-variable
invariant-loop-variable l = names_free l.all l.variables ≡ names_free l.all (drop l.variable-index l.variables)
