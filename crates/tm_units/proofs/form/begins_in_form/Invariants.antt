-- The test of what is left of the form and the text has the same result.
use Rattle.std.proofs.Common.{◌≡◌, drop}
use Rattle.nc_model.specs.Stamp.{begins_in_form}
use Rattle.tm_units.proofs.form.begins_in_form.Given as goal

abbrev pub invariant-loop-i : goal.invariant-loop-i
invariant-loop-i l = begins_in_form l.form l.text ≡ begins_in_form (drop l.i l.form) (drop l.i l.text)
