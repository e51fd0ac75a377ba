-- The number so far is that of the digits so far, and fits.
use Rattle.std.proofs.Common.{◌≡◌, ◌≤◌, drop}
use Rattle.nc_model.specs.Stamp.{number_of, number_after}
use Rattle.dap_client.proofs.length.number_of.Given as goal

abbrev pub invariant-loop-digit : goal.invariant-loop-digit
invariant-loop-digit l = record {
  so_far : number_of l.digits ≡ number_after l.number (drop l.digit-index l.digits);
  below_0 : l.digit-index ≤ 0 → l.number ≤ 0;
  below_1 : l.digit-index ≤ 1 → l.number ≤ 207;
  below_2 : l.digit-index ≤ 2 → l.number ≤ 2277;
  below_3 : l.digit-index ≤ 3 → l.number ≤ 22977;
  below_4 : l.digit-index ≤ 4 → l.number ≤ 229977;
  below_5 : l.digit-index ≤ 5 → l.number ≤ 2299977;
  below_6 : l.digit-index ≤ 6 → l.number ≤ 22999977;
  below_7 : l.digit-index ≤ 7 → l.number ≤ 229999977;
  below_8 : l.digit-index ≤ 8 → l.number ≤ 2299999977;
  below_9 : l.digit-index ≤ 9 → l.number ≤ 22999999977;
}
