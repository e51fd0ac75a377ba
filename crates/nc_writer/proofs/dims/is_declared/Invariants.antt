-- A variable that has the dimension is among those that are left.
use Rattle.std.proofs.Common.{◌≡◌, drop}
use Rattle.std.specs.List.{list_any}
use Rattle.nc_writer.specs.Dims.{declares}
use Rattle.nc_writer.proofs.dims.is_declared.Given as goal

abbrev pub invariant-loop-variable : goal.invariant-loop-variable
invariant-loop-variable l =
    list_any (declares l.name) (drop l.variable-index l.all) ≡ list_any (declares l.name) l.all
