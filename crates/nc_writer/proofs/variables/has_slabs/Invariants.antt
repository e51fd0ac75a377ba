-- The variable that is looked for stands among those that are left.
use Rattle.std.proofs.Common.{◌≡◌, drop, find}
use Rattle.nc_writer.specs.Variables.{has_name}
use Rattle.nc_writer.proofs.variables.has_slabs.Given as goal

abbrev pub invariant-loop-variable : goal.invariant-loop-variable
invariant-loop-variable l = find (has_name l.name) (drop l.variable-index l.found) ≡ find (has_name l.name) l.found
