-- The rows of the best time series with a least offset.
use Rattle.std.proofs.Common.{◌≡◌, ◌↔◌, List, [], ◌∷◌, map, Option, Some, None, ℤ, ◌-ℤ◌, ◌≤ℤ◌, refl, sym, ap, ap₂, subst, ◌∙◌}
use Rattle.std.specs.Prelude.{All, Any, Contains, option_and_then}
use Rattle.std.specs.List.{filter_map, cons_option}
use Rattle.fm_model.specs.declared.loaded.Loaded.{Loaded}
use Rattle.fm_model.specs.declared.row.Row.{Row}
use Rattle.fm_model.specs.declared.row.ViewName.TheVariants.{Best, BestFrom}
use Rattle.fm_model.specs.Cell.{times_of, best, HasTimeFrom, IsBest}
use Rattle.fm_model.specs.Rows.{row_at, best_row, rows}
use Rattle.fm_model.proofs.BestLemmas.{best_file, best-least, IsBest-from_best, best-from_file}
use Rattle.fm_model.proofs.InstantLemmas.{value-from_some, In-times_of}
use Rattle.fm_model.proofs.Members.{In, Each, Contains-from_in, in_from_Contains, In-map, in_map, In-filter_map, in_filter_map, Each-in, Each-from_in, each_from_All, Any-from_in, in_from_Any}
use Rattle.fm_model.proofs.RowLemmas.{IsBestRow-from_best_row, Contains-rows, best_row-from_best}

-- a row with a least offset is from the greatest run that has the time so
pub IsBest-row_from : (files : List Loaded) (least : ℤ) (row : Row) → Contains (rows files (BestFrom least)) row
    → IsBest files row.valid (Some least) row.run
IsBest-row_from files least row c =
    IsBest-from_best files row.valid (Some least) row.run ((Contains-rows files (BestFrom least) row).0 c).1

-- with a least offset those valid times stay that some run has early enough
pub Contains-best_from : (files : List Loaded) (least valid : ℤ)
    → Contains (map (λ (row : Row). row.valid) (rows files (BestFrom least))) valid ↔ Any
    (HasTimeFrom valid (Some least)) files
unfolding rows
Contains-best_from files least valid = (there, back)
  where
    there : Contains (map (λ (row : Row). row.valid) (rows files (BestFrom least))) valid
        → Any (HasTimeFrom valid (Some least)) files
    there c =
        let row = in_map (λ (row : Row). row.valid) valid (rows files (BestFrom least)) (in_from_Contains valid _ c) in
        let made = in_filter_map (best_row files (Some least)) row.0 (times_of files) row.1 in
        let is = IsBestRow-from_best_row files (Some least) made.0 row.0 made.2 in
        let time : made.0 ≡ valid = sym is.row_is.valid_is ∙ row.2 in
        let best_is : best files valid (Some least) ≡ Some row.0.run = ap (λ t. best files t (Some least)) (sym time)
        ∙ is.best_is in
        let file = best_file files valid (Some least) row.0.run best_is in
        let late : least ≤ℤ (valid -ℤ row.0.run) = (IsBest-from_best files valid (Some least) row.0.run best_is).late in
        Any-from_in (HasTimeFrom valid (Some least)) file.0 files file.1
        (Contains-from_in valid file.0.times file.3, subst (λ r. least ≤ℤ (valid -ℤ r)) (sym file.2) late)

    back : Any (HasTimeFrom valid (Some least)) files
        → Contains (map (λ (row : Row). row.valid) (rows files (BestFrom least))) valid
    back any =
        let found = in_from_Any (HasTimeFrom valid (Some least)) files any in
        let time = in_from_Contains valid found.0.times found.2.0 in
        let row = value-from_some (best_row files (Some least) valid)
        (best_row-from_best files (Some least) valid
        (best-from_file files valid (Some least) found.0 found.1 time found.2.1)) in
        let held : In row.0 (rows files (BestFrom least)) =
        In-filter_map (best_row files (Some least)) row.0 valid (times_of files)
        (In-times_of files found.0 valid found.1 time) row.1 in
        let valid_is : row.0.valid
        ≡ valid = (IsBestRow-from_best_row files (Some least) valid row.0 row.1).row_is.valid_is in
        Contains-from_in valid _ (subst (λ t. In t (map (λ (r : Row). r.valid) (rows files (BestFrom least)))) valid_is
        (In-map (λ (r : Row). r.valid) row.0 (rows files (BestFrom least)) held))

-- the same rows are made where each instant makes the same
filter_map-same : (make other : ℤ → Option Row) (instants : List ℤ) → Each (λ t. make t ≡ other t) instants
    → filter_map make instants ≡ filter_map other instants
filter_map-same make other [] each = refl
filter_map-same make other (t ∷ more) each = ap₂ cons_option each.0 (filter_map-same make other more each.1)

-- each valid time of a file lies at least that many seconds after its run
abbrev pub LiesFrom : ℤ → Loaded → Type 0
LiesFrom least file = All (λ time. least ≤ℤ (time -ℤ file.run)) file.times

pub best_from-least : (files : List Loaded) (least : ℤ) → All (LiesFrom least) files
    → rows files (BestFrom least) ≡ rows files Best
unfolding rows best_row
best_from-least files least all = filter_map-same (best_row files (Some least)) (best_row files None) (times_of files)
    (Each-from_in _ (times_of files) (λ valid h. ap (option_and_then (λ run. row_at files run valid))
    (best-least files valid least (λ file held time. Each-in (λ t. least ≤ℤ (t -ℤ file.run)) valid file.times
    (each_from_All (λ t. least ≤ℤ (t -ℤ file.run)) file.times
    (Each-in (LiesFrom least) file files (each_from_All (LiesFrom least) files all) held)) time))))
