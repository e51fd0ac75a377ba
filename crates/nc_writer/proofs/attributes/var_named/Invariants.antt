-- The variable that is looked for stands among those that are left.
use Rattle.std.proofs.Common.{◌≡◌, drop, find}
use Rattle.nc_writer.specs.Attributes.{is_of_name}
use Rattle.nc_writer.proofs.attributes.var_named.Given as goal

abbrev pub invariant-loop-var : goal.invariant-loop-var
invariant-loop-var l = find (is_of_name l.name) (drop l.var-index l.vars) ≡ find (is_of_name l.name) l.vars
