-- The number so far is that of the digits so far, and fits.
use Rattle.std.proofs.Common.{◌≡◌, ◌≤◌, drop}
use Rattle.nc_model.specs.Stamp.{number_of, number_after}
use Rattle.tm_units.proofs.form.number_of.Given as goal

abbrev pub invariant-loop-digit : goal.invariant-loop-digit
invariant-loop-digit l = record {
  so_far : number_of l.digits ≡ number_after l.number (drop l.digit-index l.digits);
  first : l.digit-index ≤ 0 → l.number ≤ 0;
  second : l.digit-index ≤ 1 → l.number ≤ 207;
  third : l.digit-index ≤ 2 → l.number ≤ 2277;
  fourth : l.digit-index ≤ 3 → l.number ≤ 22977;
}
