-- The rows of views: which they are, and that they rise.
use Rattle.std.proofs.Common.{◌≡◌, ◌↔◌, ℕ, List, [], ◌∷◌, map, Option, Some, None, ℤ, ◌+ℤ◌, refl, sym, ap, subst, ◌∙◌}
use Rattle.std.specs.Prelude.{Any, Contains, IsSome, is_some}
use Rattle.std.specs.List.{filter_map, cons_option}
use Rattle.std.proofs.lemmas.Option.{option_and_then_some}
use Rattle.fm_base.proofs.OptionLemmas.{mapped_some}
use Rattle.fm_model.specs.declared.loaded.Loaded.{Loaded}
use Rattle.fm_model.specs.declared.row.Row.{Row}
use Rattle.fm_model.specs.declared.row.ViewName.{ViewName}
use Rattle.fm_model.specs.declared.row.ViewName.TheVariants.{Best, BestFrom, Run, Offset, Forecast}
use Rattle.fm_model.specs.Cell.{runs_of, times_of, times_of_run, cell, best, IsBest}
use Rattle.fm_model.specs.Rising.{Rises}
use Rattle.fm_model.specs.Rows.{row_at, best_row, rows, instant_in, Shows, HasHeldFile}
use Rattle.fm_model.proofs.BestLemmas.{cell-from_Any, time_of_run_of_cell, run_of_cell, time_of_cell, IsBest-from_best, best-from_file}
use Rattle.fm_model.proofs.InstantLemmas.{value-from_some, rises_runs_of, rises_times_of, rises_times_of_run, in_times_of_run, in_times_of, In-times_of}
use Rattle.fm_model.proofs.CellLemmas.{IsCell-from_cell, held-from_cell, cell-from_file}
use Rattle.fm_model.proofs.Members.{In, Each, EachPair, Contains-from_in, in_from_Contains, in_map, In-filter_map, in_filter_map, Each-in, Each-from_in, AllPairs-from_each, Any-from_in, in_from_Any}
use Rattle.fm_model.proofs.RisingLemmas.{Above}

-- what a row says of its cell
pub record IsRowAt (files : List Loaded) (run valid : ℤ) (row : Row) : Type 0 where
  pub run_is : row.run ≡ run
  pub valid_is : row.valid ≡ valid
  pub cell_is : cell files row.run row.valid ≡ Some (row.file, row.index)

pub IsRowAt-from_row_at : (files : List Loaded) (run valid : ℤ) (row : Row) → row_at files run valid ≡ Some row
    → IsRowAt files run valid row
unfolding row_at
IsRowAt-from_row_at files run valid row e =
    let found = mapped_some (λ (c : Loaded × ℕ). record { valid = valid; run = run; file = c.0; index = c.1 })
    (cell files run valid) row e in
    subst (IsRowAt files run valid) found.2 (record { run_is = refl; valid_is = refl; cell_is = found.1 })

pub row_at-from_cell : (files : List Loaded) (row : Row) → cell files row.run row.valid ≡ Some (row.file, row.index)
    → row_at files row.run row.valid ≡ Some row
unfolding row_at
row_at-from_cell files row e = rw e refl

-- the row of the best run
pub record IsBestRow (files : List Loaded) (least : Option ℤ) (valid : ℤ) (row : Row) : Type 0 where
  pub best_is : best files valid least ≡ Some row.run
  pub row_is : IsRowAt files row.run valid row

pub IsBestRow-from_best_row : (files : List Loaded) (least : Option ℤ) (valid : ℤ) (row : Row)
    → best_row files least valid ≡ Some row
    → IsBestRow files least valid row
unfolding best_row
IsBestRow-from_best_row files least valid row e = option_and_then_some {P = IsBestRow files least valid row}
    (λ run. row_at files run valid) (best files valid least) row e
    (λ run best_is row_is.
    let found = IsRowAt-from_row_at files run valid row row_is in
    record {
      best_is = best_is ∙ ap Some
          (sym found.run_is);
      row_is = record { run_is = refl; valid_is = found.valid_is; cell_is = found.cell_is };
    })

-- rows made of rising instants rise, where the key of each row is the instant that it is made of
rises_filter_map : (key : Row → ℤ) (make : ℤ → Option Row) (instants : List ℤ)
    → ((t : ℤ) (row : Row) → make t ≡ Some row → key row ≡ t) → EachPair Above instants
    → EachPair Above (map key (filter_map make instants))
rises_filter_map key make [] keyed rises = tt
rises_filter_map key make (t ∷ more) keyed rises = by_first (make t) refl (rises_filter_map key make more keyed rises.1)
  where
    by_first : (o : Option Row) → make t ≡ o → EachPair Above (map key (filter_map make more))
        → EachPair Above (map key (cons_option o (filter_map make more)))
    by_first None is others = others
    by_first (Some row) is others = (
      Each-from_in _ _ (λ x h.
          let mapped = in_map key x (filter_map make more) h in
          let made = in_filter_map make mapped.0 more mapped.1 in
          let same : x ≡ made.0 = sym mapped.2 ∙ keyed made.0 mapped.0 made.2 in
          subst (λ a. Above a x) (sym (keyed t row is))
          (subst (Above t) (sym same) (Each-in (Above t) made.0 more rises.0 made.1))),
      others,
    )

best_rows_rise : (files : List Loaded) (least : Option ℤ)
    → EachPair Above (map (λ (row : Row). row.valid) (filter_map (best_row files least) (times_of files)))
best_rows_rise files least = rises_filter_map (λ (row : Row). row.valid) (best_row files least) (times_of files)
    (λ t row e. (IsBestRow-from_best_row files least t row e).row_is.valid_is) (rises_times_of files)

rows_rise : (files : List Loaded) (view : ViewName) → EachPair Above (map (instant_in view) (rows files view))
unfolding rows
rows_rise files Best = best_rows_rise files None
rows_rise files (BestFrom least) = best_rows_rise files (Some least)
rows_rise files (Run run) = rises_filter_map (λ (row : Row). row.valid) (row_at files run) (times_of_run files run)
    (λ t row e. (IsRowAt-from_row_at files run t row e).valid_is) (rises_times_of_run files run)
rows_rise files (Offset seconds) = rises_filter_map (λ (row : Row). row.run) (λ run. row_at files run (run +ℤ seconds))
    (runs_of files) (λ t row e. (IsRowAt-from_row_at files t (t +ℤ seconds) row e).run_is) (rises_runs_of files)
rows_rise files (Forecast valid) = rises_filter_map (λ (row : Row). row.run) (λ run. row_at files run valid)
    (runs_of files) (λ t row e. (IsRowAt-from_row_at files t valid row e).run_is) (rises_runs_of files)

pub Rises-rows : (files : List Loaded) (view : ViewName) → Rises (map (instant_in view) (rows files view))
Rises-rows files view = AllPairs-from_each Above (map (instant_in view) (rows files view)) (rows_rise files view)

-- a row stands for its cell, and the view shows it
abbrev pub IsShown : List Loaded → ViewName → Row → Type 0
IsShown files view row = (cell files row.run row.valid ≡ Some
    (row.file, row.index)) × Shows files view row.run row.valid

-- a row of a best time series stands for its cell, and is from the best run
shown_from_best : (files : List Loaded) (least : Option ℤ) (row : Row)
    → In row (filter_map (best_row files least) (times_of files))
    → (cell files row.run row.valid ≡ Some (row.file, row.index)) × (best files row.valid least ≡ Some row.run)
shown_from_best files least row h =
    let found = in_filter_map (best_row files least) row (times_of files) h in
    let is = IsBestRow-from_best_row files least found.0 row found.2 in
    (is.row_is.cell_is, ap (λ t. best files t least) is.row_is.valid_is ∙ is.best_is)

shown_from_in : (files : List Loaded) (view : ViewName) (row : Row) → In row (rows files view) → IsShown files view row
unfolding rows
shown_from_in files Best row h = shown_from_best files None row h
shown_from_in files (BestFrom least) row h = shown_from_best files (Some least) row h
shown_from_in files (Run run) row h =
    let found = in_filter_map (row_at files run) row (times_of_run files run) h in
    let is = IsRowAt-from_row_at files run found.0 row found.2 in
    (is.cell_is, is.run_is)
shown_from_in files (Offset seconds) row h =
    let found = in_filter_map (λ run. row_at files run (run +ℤ seconds)) row (runs_of files) h in
    let is = IsRowAt-from_row_at files found.0 (found.0 +ℤ seconds) row found.2 in
    (is.cell_is, is.valid_is ∙ ap (λ r. r +ℤ seconds) (sym is.run_is))
shown_from_in files (Forecast valid) row h =
    let found = in_filter_map (λ run. row_at files run valid) row (runs_of files) h in
    let is = IsRowAt-from_row_at files found.0 valid row found.2 in
    (is.cell_is, is.valid_is)

best_from_shown : (files : List Loaded) (least : Option ℤ) (row : Row)
    → cell files row.run row.valid ≡ Some (row.file, row.index)
    → best files row.valid least ≡ Some row.run → In row (filter_map (best_row files least) (times_of files))
unfolding best_row
best_from_shown files least row e is =
    let has : IsSome (cell files row.run row.valid) = ap is_some e in
    In-filter_map (best_row files least) row row.valid (times_of files) (time_of_cell files row.run row.valid has)
    (rw is (row_at-from_cell files row e))

in_from_shown : (files : List Loaded) (view : ViewName) (row : Row) → IsShown files view row → In row (rows files view)
unfolding rows
in_from_shown files Best row shown = best_from_shown files None row shown.0 shown.1
in_from_shown files (BestFrom least) row shown = best_from_shown files (Some least) row shown.0 shown.1
in_from_shown files (Run run) row shown =
    let has : IsSome (cell files row.run row.valid) = ap is_some shown.0 in
    let time : In row.valid (times_of_run files run) = subst (λ r. In row.valid (times_of_run files r)) shown.1
    (time_of_run_of_cell files row.run row.valid has) in
    In-filter_map (row_at files run) row row.valid (times_of_run files run) time
    (ap (λ r. row_at files r row.valid) (sym shown.1) ∙ row_at-from_cell files row shown.0)
in_from_shown files (Offset seconds) row shown =
    let has : IsSome (cell files row.run row.valid) = ap is_some shown.0 in
    In-filter_map (λ run. row_at files run (run +ℤ seconds)) row row.run (runs_of files)
    (run_of_cell files row.run row.valid has)
    (ap (row_at files row.run) (sym shown.1) ∙ row_at-from_cell files row shown.0)
in_from_shown files (Forecast valid) row shown =
    let has : IsSome (cell files row.run row.valid) = ap is_some shown.0 in
    In-filter_map (λ run. row_at files run valid) row row.run (runs_of files) (run_of_cell files row.run row.valid has)
    (ap (row_at files row.run) (sym shown.1) ∙ row_at-from_cell files row shown.0)

-- a view has exactly the rows that are shown
pub Contains-rows : (files : List Loaded) (view : ViewName) (row : Row)
    → Contains (rows files view) row ↔ IsShown files view row
Contains-rows files view row = (
  λ c. shown_from_in files view row (in_from_Contains row (rows files view) c),
  λ shown. Contains-from_in row (rows files view) (in_from_shown files view row shown),
)

-- where each instant makes a row whose key it is, the keys of the rows are the instants
map-filter_map : (key : Row → ℤ) (make : ℤ → Option Row) (instants : List ℤ) → Each (λ t. IsSome (make t)) instants
    → ((t : ℤ) (row : Row) → make t ≡ Some row → key row ≡ t)
    → map key (filter_map make instants) ≡ instants
map-filter_map key make [] each keyed = refl
map-filter_map key make (t ∷ more) each keyed =
    let made = value-from_some (make t) each.0 in
    let first : key made.0 ≡ t = keyed t made.0 made.1 in
    let others : map key (filter_map make more) ≡ more = map-filter_map key make more each.1 keyed in
    rw made.1 (cc (first, others))

-- a best run has a row
pub best_row-from_best : (files : List Loaded) (least : Option ℤ) (valid : ℤ) → IsSome (best files valid least)
    → IsSome (best_row files least valid)
unfolding best_row row_at
best_row-from_best files least valid has =
    let run = value-from_some (best files valid least) has in
    let found = value-from_some (cell files run.0 valid)
    (cell-from_Any files run.0 valid (IsBest-from_best files valid least run.0 run.1).has) in
    rw (run.1, found.1) refl

best_row-from_time : (files : List Loaded) (valid : ℤ) → In valid (times_of files) → IsSome (best_row files None valid)
best_row-from_time files valid h =
    let found = in_times_of files valid h in
    best_row-from_best files None valid (best-from_file files valid None found.0 found.1 found.2 tt)

pub map-valid-best : (files : List Loaded) → map (λ (row : Row). row.valid) (rows files Best) ≡ times_of files
unfolding rows
map-valid-best files = map-filter_map (λ (row : Row). row.valid) (best_row files None) (times_of files)
    (Each-from_in (λ t. IsSome (best_row files None t)) (times_of files) (best_row-from_time files))
    (λ t row e. (IsBestRow-from_best_row files None t row e).row_is.valid_is)

-- the valid times of the best time series are those of all files
pub Contains-best : (files : List Loaded) (valid : ℤ)
    → Contains (map (λ (row : Row). row.valid) (rows files Best)) valid ↔ Any (λ file. Contains file.times valid) files
Contains-best files valid = (there, back)
  where
    there : Contains (map (λ (row : Row). row.valid) (rows files Best)) valid
        → Any (λ file. Contains file.times valid) files
    there c =
        let found = in_times_of files valid
        (in_from_Contains valid (times_of files) (subst (λ l. Contains l valid) (map-valid-best files) c)) in
        Any-from_in (λ (file : Loaded). Contains file.times valid) found.0 files found.1
        (Contains-from_in valid found.0.times found.2)

    back : Any (λ file. Contains file.times valid) files
        → Contains (map (λ (row : Row). row.valid) (rows files Best)) valid
    back any =
        let found = in_from_Any (λ (file : Loaded). Contains file.times valid) files any in
        subst (λ l. Contains l valid) (sym (map-valid-best files))
        (Contains-from_in valid (times_of files)
        (In-times_of files found.0 valid found.1 (in_from_Contains valid found.0.times found.2)))

-- each row of a view has a file of the collection
pub HasHeldFile-rows : (files : List Loaded) (view : ViewName) (row : Row) → Contains (rows files view) row
    → HasHeldFile files row
HasHeldFile-rows files view row c =
    let shown = (Contains-rows files view row).0 c in
    let is = IsCell-from_cell files row.run row.valid row.file row.index shown.0 in
    record {
      held = Contains-from_in row.file files
          (held-from_cell files row.run row.valid row.file row.index is);
      run_is = is.run_is;
      time_is = is.time_is;
    }

-- a row of the best time series is from the greatest run
pub IsBest-row : (files : List Loaded) (row : Row) → Contains (rows files Best) row
    → IsBest files row.valid None row.run
IsBest-row files row c = IsBest-from_best files row.valid None row.run ((Contains-rows files Best row).0 c).1

-- each of a run's valid times has a row
pub map-valid-run : (files : List Loaded) (run : ℤ)
    → map (λ (row : Row). row.valid) (rows files (Run run)) ≡ times_of_run files run
unfolding rows row_at
map-valid-run files run = map-filter_map (λ (row : Row). row.valid) (row_at files run) (times_of_run files run)
    (Each-from_in (λ t. IsSome (row_at files run t)) (times_of_run files run) (λ valid h.
    let found = in_times_of_run files run valid h in
    let has = value-from_some (cell files run valid) (cell-from_file files run valid found.0 found.1 found.2) in
    rw has.1 refl))
    (λ t row e. (IsRowAt-from_row_at files run t row e).valid_is)
