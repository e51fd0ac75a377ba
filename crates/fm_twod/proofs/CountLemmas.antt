-- All runs have as many cells as all files have times, at most.
use Rattle.std.proofs.Common.{◌≡◌, ◌≤◌, ℕ, Bool, true, false, cond, not, List, [], ◌∷◌, length, map, ℤ, ◌<ℤ◌, refl, ap, arith}
use Rattle.std.specs.Prelude.{filter, sum_by}
use Rattle.std.specs.Cmp.{signed_Decides}
use Rattle.std.specs.List.{flat_map}
use Rattle.std.specs.Ordering.{int_eq}
use Rattle.std.proofs.lemmas.Int.{ints}
use Rattle.std.proofs.lemmas.List.{length-map}
use Rattle.std.proofs.lemmas.List.Concat.{length-flat_map}
use Rattle.std.proofs.lemmas.List.Filters.{sum_by-filter_both}
use Rattle.std.proofs.lemmas.List.Sums.{sum_by-cons}
use Rattle.fm_base.proofs.ListLemmas.{length-filter_map}
use Rattle.fm_model.specs.declared.loaded.Loaded.{Loaded}
use Rattle.fm_model.specs.Cell.{runs_of, times_of, times_of_run}
use Rattle.fm_model.specs.Rows.{row_at, rows}
use Rattle.fm_model.proofs.Members.{Each, EachPair}
use Rattle.fm_model.proofs.RisingLemmas.{Above, rises_rising}
use Rattle.fm_edition.proofs.CountLemmas.{length-rising}
use Rattle.fm_twod.specs.Cells.{cells_of, run_rows}

-- how many times some files have
abbrev pub time_count : List Loaded → ℕ
time_count files = sum_by (λ (f : Loaded). length f.times) files

-- whether a file is of a run
abbrev is_of : ℤ → Loaded → Bool
is_of run = λ (file : Loaded). int_eq file.run run

-- the files of a run
abbrev of_run : ℤ → List Loaded → List Loaded
of_run run files = filter (is_of run) files

-- the files that are of no such run
abbrev other_files : ℤ → List Loaded → List Loaded
other_files run files = filter (λ (f : Loaded). not (is_of run f)) files

-- the files of a later run are all among those of other runs
kept-others : (run later : ℤ) → run <ℤ later → (files : List Loaded)
    → of_run later (other_files run files) ≡ of_run later files
kept-others run later above [] = refl
kept-others run later above (file ∷ files) =
    by_tests (int_eq file.run run) refl (int_eq file.run later) refl (kept-others run later above files)
  where
    by_tests : (b : Bool) → int_eq file.run run ≡ b → (c : Bool) → int_eq file.run later ≡ c
        → of_run later (other_files run files) ≡ of_run later files
        → of_run later (cond (not b) (file ∷ other_files run files) (other_files run files))
        ≡ cond c (file ∷ of_run later files) (of_run later files)
    by_tests true one true two more =
        let same : file.run ≡ run = (signed_Decides file.run run).0 one in
        let other : file.run ≡ later = (signed_Decides file.run later).0 two in
        absurd (omega (arith, ints, above, same, other))
    by_tests true one false two more = more
    by_tests false one c two more = rw two (ap (λ (l : List Loaded). cond c (file ∷ l) l) more)

-- the times of later runs are all of files of other runs
times-others : (run : ℤ) (runs : List ℤ) (files : List Loaded) → Each (Above run) runs
    → sum_by (λ r. time_count (of_run r (other_files run files))) runs ≡ sum_by (λ r. time_count (of_run r files)) runs
times-others run [] files each = refl
times-others run (later ∷ runs) files each = omega (
  arith,
  sum_by-cons (λ r. time_count (of_run r (other_files run files))) later runs,
  sum_by-cons (λ r. time_count (of_run r files)) later runs,
  ap time_count (kept-others run later each.0 files),
  times-others run runs files each.1,
)

-- the times of different runs are no more than all
times-few : (runs : List ℤ) (files : List Loaded) → EachPair Above runs
    → sum_by (λ r. time_count (of_run r files)) runs ≤ time_count files
times-few [] files pairs = omega arith
times-few (run ∷ runs) files pairs =
    let both = sum_by-filter_both (is_of run) (λ f. not (is_of run f)) (λ f. refl) (λ (f : Loaded). length f.times)
    files in
    omega (
      arith,
      sum_by-cons (λ r. time_count (of_run r files)) run runs,
      both,
      times-others run runs files pairs.0,
      times-few runs (other_files run files) pairs.1,
    )

-- a run has as many rows as its files have times, at most
rows-few : (files : List Loaded) (run : ℤ) → length (run_rows files run) ≤ time_count (of_run run files)
unfolding rows times_of_run times_of
rows-few files run =
    let made = length-filter_map (row_at files run) (times_of_run files run) in
    let once = length-rising (flat_map (λ (f : Loaded). f.times) (of_run run files)) in
    let all = length-flat_map (λ (f : Loaded). f.times) (of_run run files) in
    omega (arith, made, once, all)

-- so have some runs
runs-few : (files : List Loaded) (runs : List ℤ)
    → sum_by (λ r. length (run_rows files r)) runs ≤ sum_by (λ r. time_count (of_run r files)) runs
runs-few files [] = omega arith
runs-few files (run ∷ runs) = omega (
  arith,
  sum_by-cons (λ r. length (run_rows files r)) run runs,
  sum_by-cons (λ r. time_count (of_run r files)) run runs,
  rows-few files run,
  runs-few files runs,
)

pub cells-few : (files : List Loaded) → length (cells_of files) ≤ time_count files
unfolding cells_of runs_of
cells-few files =
    let runs = runs_of files in
    omega (
      arith,
      length-flat_map (run_rows files) runs,
      runs-few files runs,
      times-few runs files (rises_rising (map (λ (f : Loaded). f.run) files)),
    )

-- there are no more runs than files
pub length-runs_of : (files : List Loaded) → length (runs_of files) ≤ length files
unfolding runs_of
length-runs_of files =
    let once = length-rising (map (λ (f : Loaded). f.run) files) in
    let all = length-map files (λ (f : Loaded). f.run) in
    omega (arith, once, all)
