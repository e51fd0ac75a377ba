-- The run of a file that was taken is an instant.
use Rattle.std.proofs.Common.{◌≡◌, ℕ, false, not, List, Option, Some, None, Ok, ℤ, ◌-ℤ◌, pos, negsuc, map, subst, FitsSigned, w64, arith}
use Rattle.std.proofs.lemmas.Int.{ints}
use Rattle.std.specs.Prelude.{int_le, neg_ℤ}
use Rattle.std.specs.Option.{ok_or}
use Rattle.std.proofs.lemmas.Bool.{and_parts, not-false}
use Rattle.nc_model.specs.declared.header.Header.{Header as FileHeader}
use Rattle.nc_model.specs.declared.header.NcVar.{NcVar}
use Rattle.nc_model.specs.Stamp.{mark_of}
use Rattle.fm_model.specs.declared.limit.TheConstants.{MAX_INSTANT}
use Rattle.fm_model.specs.declared.loaded.LoadFault.{LoadFault}
use Rattle.fm_model.specs.declared.loaded.LoadFault.TheVariants.{NoRunTime, RunNotWhole}
use Rattle.fm_model.specs.declared.site.Site.{Site}
use Rattle.fm_model.specs.LoadTimes.{file_units, seconds_at, from_epoch, is_instant, run_in_range, run_by, run_by_variable, run_by_name, file_run, IsInstant}
use Rattle.fm_model.specs.Variable.{reference_of}
use Rattle.fm_base.proofs.ChainLemmas.{step_ok, refuse_if_ok, same_Ok}
use Rattle.fm_base.proofs.NumberLemmas.{at_most_from_test}

-- seconds that pass the test are an instant
pub IsInstant-from_test : (seconds : ℤ) → not (is_instant seconds) ≡ false → IsInstant seconds
unfolding is_instant
IsInstant-from_test seconds e =
    let parts = and_parts (int_le (neg_ℤ MAX_INSTANT) seconds) (int_le seconds MAX_INSTANT) (not-false _ e) in
    record {
      low = at_most_from_test
          (neg_ℤ MAX_INSTANT) seconds parts.0;
      high = at_most_from_test seconds MAX_INSTANT parts.1;
    }

IsInstant-run_in_range : (seconds run : ℤ) → run_in_range seconds ≡ Ok run → IsInstant run
unfolding run_in_range
IsInstant-run_in_range seconds run e =
    let passed = refuse_if_ok (not (is_instant seconds)) _ (Ok seconds) run e in
    subst IsInstant (same_Ok {E = LoadFault} seconds run passed.1) (IsInstant-from_test seconds passed.0)

IsInstant-by_variable : (site : Site) (bytes : List ℕ) (header : FileHeader) (var : NcVar) (run : ℤ)
    → run_by_variable site bytes header var ≡ Ok run → IsInstant run
unfolding run_by_variable
IsInstant-by_variable site bytes header var run e =
    let passed = refuse_if_ok _ _ _ run e in
    let units = step_ok (file_units var) _ run passed.1 in
    let seconds = step_ok (ok_or (seconds_at bytes header var units.0 (map (λ id. 0) var.dims)) RunNotWhole)
    (λ s. run_in_range (from_epoch site units.0 s)) run units.2 in
    IsInstant-run_in_range (from_epoch site units.0 seconds.0) run seconds.2

IsInstant-by_name : (site : Site) (name : List ℕ) (run : ℤ) → run_by_name site name ≡ Ok run → IsInstant run
unfolding run_by_name
IsInstant-by_name site name run e =
    let moment = step_ok (ok_or (mark_of name site.mark) NoRunTime) (λ m. run_in_range (m -ℤ site.epoch)) run e in
    IsInstant-run_in_range (moment.0 -ℤ site.epoch) run moment.2

pub IsInstant-file_run : (site : Site) (name bytes : List ℕ) (header : FileHeader) (run : ℤ)
    → file_run site name bytes header ≡ Ok run → IsInstant run
unfolding file_run
IsInstant-file_run site name bytes header run e = by_reference (reference_of header) e
  where
    by_reference : (o : Option NcVar) → run_by site name bytes header o ≡ Ok run → IsInstant run
    by_reference (Some var) e = IsInstant-by_variable site bytes header var run e
    by_reference None e = IsInstant-by_name site name run e

fits : (seconds : ℤ) → IsInstant seconds → FitsSigned w64 seconds
fits (pos n) is = record { sfits = omega (arith, ints, is.high) }
fits (negsuc n) is = record { sfits = omega (arith, ints, is.low) }

-- an instant of a collection fits eight bytes
pub instant_fits : (seconds : ℤ) → not (is_instant seconds) ≡ false → FitsSigned w64 seconds
instant_fits seconds is = fits seconds (IsInstant-from_test seconds is)
