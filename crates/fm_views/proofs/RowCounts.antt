-- How many rows a view has, at most: as many as all files have times, or as there are files.
use Rattle.std.proofs.Common.{ℕ, ◌≤◌, List, [], length, map, Some, None, ℤ, ◌+ℤ◌, refl, arith}
use Rattle.std.specs.Prelude.{filter, not, sum_by}
use Rattle.std.specs.List.{flat_map}
use Rattle.std.specs.Ordering.{int_eq}
use Rattle.std.proofs.lemmas.List.{length-map}
use Rattle.std.proofs.lemmas.List.Concat.{length-flat_map}
use Rattle.std.proofs.lemmas.List.Filters.{sum_by-filter_both}
use Rattle.fm_base.proofs.ListLemmas.{length-filter_map}
use Rattle.fm_model.specs.declared.limit.TheConstants.{MAX_ROWS}
use Rattle.fm_model.specs.declared.loaded.Loaded.{Loaded}
use Rattle.fm_model.specs.declared.row.ViewName.{ViewName}
use Rattle.fm_model.specs.declared.row.ViewName.TheVariants.{Best, BestFrom, Run, Offset, Forecast}
use Rattle.fm_model.specs.Cell.{runs_of, times_of, times_of_run}
use Rattle.fm_model.specs.Rows.{best_row, row_at, rows}
use Rattle.fm_edition.proofs.TallyLemmas.{Bounds}
use Rattle.fm_edition.proofs.CountLemmas.{length-rising}

-- how many times some files have
abbrev time_count : List Loaded → ℕ
time_count files = sum_by (λ (f : Loaded). length f.times) files

length-runs_of : (files : List Loaded) → length (runs_of files) ≤ length files
unfolding runs_of
length-runs_of files = let few = length-rising (map (λ (f : Loaded). f.run) files) in
    let same = length-map files (λ (f : Loaded). f.run) in omega (arith, few, same)

length-times_of : (files : List Loaded) → length (times_of files) ≤ time_count files
unfolding times_of
length-times_of files = let few = length-rising (flat_map (λ (f : Loaded). f.times) files) in
    let same = length-flat_map (λ (f : Loaded). f.times) files in omega (arith, few, same)

length-times_of_run : (files : List Loaded) (run : ℤ) → length (times_of_run files run) ≤ time_count files
unfolding times_of_run
length-times_of_run files run =
    let is = λ (f : Loaded). int_eq f.run run in
    let both = sum_by-filter_both is (λ f. not (is f)) (λ f. refl) (λ (f : Loaded). length f.times) files in
    omega (arith, length-times_of (filter is files), both)

-- of each view
pub few_rows : (files : List Loaded) (view : ViewName) → Bounds files → length (rows files view) ≤ MAX_ROWS
unfolding rows
few_rows files Best bounds = omega (
  arith,
  length-filter_map (best_row files None) (times_of files),
  length-times_of files,
  bounds.rows,
)
few_rows files (BestFrom least) bounds = omega (
  arith,
  length-filter_map (best_row files (Some least)) (times_of files),
  length-times_of files,
  bounds.rows,
)
few_rows files (Run run) bounds = omega (
  arith,
  length-filter_map (row_at files run) (times_of_run files run),
  length-times_of_run files run,
  bounds.rows,
)
few_rows files (Offset seconds) bounds = omega (
  arith,
  length-filter_map (λ run. row_at files run (run +ℤ seconds)) (runs_of files),
  length-runs_of files,
  bounds.count,
)
few_rows files (Forecast valid) bounds = omega (
  arith,
  length-filter_map (λ run. row_at files run valid) (runs_of files),
  length-runs_of files,
  bounds.count,
)
