-- The axis stands among the variables that are left.
use Rattle.std.proofs.Common.{◌≡◌, drop, find}
use Rattle.fm_model.specs.Variable.{is_axis}
use Rattle.fm_file.proofs.variable.axis_of.Given as goal

abbrev pub invariant-loop-var : goal.invariant-loop-var
invariant-loop-var l = find (is_axis l.header) (drop l.var-index l.header.vars) ≡ find (is_axis l.header) l.header.vars
