-- The row that is found at a run and an offset is that of their cell.
use Rattle.std.proofs.Common.{◌≡◌, ℕ, zero, suc, ◌+◌, ◌-◌, ◌<◌, ◌≤◌, Bool, true, false, cond, not, List, [], ◌∷◌, length, get_or, map, Option, Some, None, ℤ, ◌+ℤ◌, inl, inr, refl, sym, ap, ap₂, subst, ◌∙◌, arith}
use Rattle.std.specs.Prelude.{position, slice_get, option_and_then}
use Rattle.std.specs.Cmp.{signed_Decides}
use Rattle.std.specs.List.{position_or_len}
use Rattle.std.specs.Option.{option_map}
use Rattle.std.specs.Ordering.{int_eq}
use Rattle.std.proofs.lemmas.Bool.{lt-ltb}
use Rattle.std.proofs.lemmas.Int.{ints}
use Rattle.std.proofs.lemmas.List.{get_or-map, length-map}
use Rattle.std.proofs.lemmas.List.Quantifiers.{position-Some}
use Rattle.std.proofs.lemmas.Option.{none-some, same_Some, slice_get_cases, slice_get_past}
use Rattle.fm_base.proofs.ListLemmas.{slice_get-append}
use Rattle.fm_model.specs.declared.loaded.Loaded.{Loaded}
use Rattle.fm_model.specs.declared.row.Row.{Row}
use Rattle.fm_model.specs.declared.row.ViewName.TheVariants.{Run}
use Rattle.fm_model.specs.Cell.{runs_of}
use Rattle.fm_model.specs.Rows.{row_at}
use Rattle.fm_model.proofs.CellLemmas.{in_from_slice_get}
use Rattle.fm_model.proofs.Members.{Contains-from_in, In, In-map, in_from_Contains}
use Rattle.fm_model.proofs.RowLemmas.{Contains-rows, IsRowAt-from_row_at, row_at-from_cell}
use Rattle.fm_dataset.specs.Values.{offset_time}
use Rattle.fm_dataset.proofs.PartLemmas.{slice_get-after}
use Rattle.fm_twod.specs.declared.cells.RunCells.{RunCells}
use Rattle.fm_twod.specs.Cells.{cells_of, rows_of_runs, run_cells, run_rows, runs_from}
use Rattle.fm_twod.specs.Laid.{number_in}
use Rattle.fm_twod.proofs.LaidLemmas.{length-runs_from}

-- a search among items of which one passes ends before their end
position-before : {A : Type 0} (test : A → Bool) (xs : List A) (x : A) → In x xs → test x ≡ true
    → position_or_len test xs < length xs
position-before test [] x held passes = absurd held
position-before test (y ∷ ys) x (inl same) passes = rw (ap test same ∙ passes) (omega arith)
position-before {A} test (y ∷ ys) x (inr held) passes = by_first (test y) (position-before test ys x held passes)
  where
    by_first : (b : Bool) → position_or_len test ys < length ys
        → cond (not b) (1 + position_or_len test ys) 0 < length (y ∷ ys)
    by_first true more = omega arith
    by_first false more = omega (arith, more)

-- the offsets of a run's rows
abbrev run_offsets : List Loaded → ℤ → List ℤ
run_offsets files run = map offset_time (run_rows files run)

-- the row that has an offset is that of the run's cell
record IsFound (files : List Loaded) (run offset : ℤ) (index : ℕ) : Type 0 where
  row : Row
  row_is : slice_get (run_rows files run) index ≡ Some row
  cell_is : row_at files run (run +ℤ offset) ≡ Some row

found-row : (files : List Loaded) (run offset : ℤ) (index : ℕ)
    → position (λ other. int_eq other offset) (run_offsets files run) ≡ Some index → IsFound files run offset index
found-row files run offset index is =
    let rows : List Row = run_rows files run in
    let at_index = position-Some (λ other. int_eq other offset) (run_offsets files run) index offset is in
    let below : index < length rows = omega (arith, at_index.0, length-map rows offset_time) in
    elim (slice_get_cases rows index).1 [
      | inl found ↦
          let row : Row = found.0 in
          let time : offset_time row ≡ offset =
          sym (get_or-map offset_time rows index row offset below ∙ ap offset_time found.3)
          ∙ (signed_Decides (get_or (run_offsets files run) index offset) offset).0 at_index.1 in
          let shown = (Contains-rows files (Run run) row).0
          (Contains-from_in row rows (in_from_slice_get rows index row found.2)) in
          let valid : row.valid ≡ run +ℤ offset = omega (arith, ints, time, shown.1) in
          record {
            row = row;
            row_is = found.2;
            cell_is = ap₂ (row_at files) (sym shown.1) (sym valid) ∙ row_at-from_cell files row shown.0;
          }
      | inr past ↦ absurd (omega (arith, below, past.0))
    ]

-- where no row has the offset, the run has no such cell
lost-row : (files : List Loaded) (run offset : ℤ)
    → position (λ other. int_eq other offset) (run_offsets files run) ≡ None → row_at files run (run +ℤ offset) ≡ None
lost-row files run offset none = by_row (row_at files run (run +ℤ offset)) refl
  where
    by_row : (o : Option Row) → row_at files run (run +ℤ offset) ≡ o → row_at files run (run +ℤ offset) ≡ None
    by_row None is = is
    by_row (Some row) is =
        let rows : List Row = run_rows files run in
        let stands = IsRowAt-from_row_at files run (run +ℤ offset) row is in
        let held : In row rows =
        in_from_Contains row rows ((Contains-rows files (Run run) row).1 (stands.cell_is, stands.run_is)) in
        let time : offset_time row ≡ offset = omega (arith, ints, stands.run_is, stands.valid_is) in
        let before = position-before (λ other. int_eq other offset) (run_offsets files run) (offset_time row)
        (In-map offset_time row rows held) ((signed_Decides (offset_time row) offset).1 time) in
        let some : Some (position_or_len (λ other. int_eq other offset) (run_offsets files run)) ≡ None =
        rw (lt-ltb _ _ before) at none in
        absurd (none-some _ (sym some))

-- the cells of the run at an index, and where its rows stand among all
record IsRunAt (files : List Loaded) (first : ℕ) (runs : List ℤ) (index : ℕ) (run : ℤ) : Type 0 where
  number : ℕ
  cells_are : slice_get (runs_from files first runs) index ≡ Some (run_cells files number run)
  later : first ≤ number
  rows_are : (k : ℕ) → k < length (run_rows files run)
      → slice_get (rows_of_runs files runs) (number - first + k) ≡ slice_get (run_rows files run) k

run-at : (files : List Loaded) (first : ℕ) (runs : List ℤ) (index : ℕ) (run : ℤ) → slice_get runs index ≡ Some run
    → IsRunAt files first runs index run
unfolding runs_from
run-at files first [] index run is = absurd (none-some run is)
run-at files first (other ∷ runs) zero run is =
    let same : other ≡ run = same_Some other run is in
    record {
      number = first;
      cells_are = ap (λ (r : ℤ). Some (run_cells files first r)) same;
      later = omega arith;
      rows_are = λ k below.
          let own : k < length (run_rows files other) = subst (λ r. k < length (run_rows files r)) (sym same) below in
          let here : first - first + k ≡ k = omega arith in
          ap (slice_get (rows_of_runs files (other ∷ runs))) here
          ∙ slice_get-append (run_rows files other) (rows_of_runs files runs) k own
          ∙ ap (λ r. slice_get (run_rows files r) k) same;
    }
run-at files first (other ∷ runs) (suc index) run is =
    let long : ℕ = length (run_rows files other) in
    let more = run-at files (first + long) runs index run is in
    record {
      number = more.number;
      cells_are = more.cells_are;
      later = omega (arith, more.later);
      rows_are = λ k below.
          let back : more.number - first + k - long ≡ more.number - (first + long) + k = omega (arith, more.later) in
          slice_get-after (run_rows files other) (rows_of_runs files runs) (more.number - first + k)
          (omega (arith, more.later))
          ∙ ap (slice_get (rows_of_runs files runs)) back ∙ more.rows_are k below;
    }

no-run : (files : List Loaded) (runs : List ℤ) (index : ℕ) → slice_get runs index ≡ None
    → slice_get (runs_from files 0 runs) index ≡ None
no-run files runs index none = elim (slice_get_cases runs index).1 [
  | inl found ↦ absurd (none-some found.0 (sym none ∙ found.2))
  | inr past ↦ slice_get_past (runs_from files 0 runs) index (omega (arith, past.0, length-runs_from files 0 runs))
]

-- a number and a row are both there, and the number is the row's; or neither is
abbrev pub Agree : List Row → Option ℕ → Option Row → Type 0
Agree rows None None = Unit {0}
Agree rows None (Some row) = ⊥
Agree rows (Some number) None = ⊥
Agree rows (Some number) (Some row) = slice_get rows number ≡ Some row

-- by an offset
agree-in : (files : List Loaded) (runs : List ℤ) (index : ℕ) (run offset : ℤ)
    → (at_run : IsRunAt files 0 runs index run)
    → Agree (rows_of_runs files runs) (number_in (run_cells files at_run.number run) offset)
    (row_at files run (run +ℤ offset))
unfolding number_in
agree-in files runs index run offset at_run =
    by_index (position (λ other. int_eq other offset) (run_offsets files run)) refl
  where
    by_index : (o : Option ℕ) → position (λ other. int_eq other offset) (run_offsets files run) ≡ o
        → Agree (rows_of_runs files runs) (option_map (λ k. at_run.number + k) o) (row_at files run (run +ℤ offset))
    by_index None is =
        subst (Agree (rows_of_runs files runs) None) (sym (lost-row files run offset is)) tt
    by_index (Some k) is =
        let found = found-row files run offset k is in
        let below : k < length (run_rows files run) =
        omega (
          arith,
          (position-Some (λ other. int_eq other offset) (run_offsets files run) k offset is).0,
          length-map (run_rows files run) offset_time,
        ) in
        let here : at_run.number - 0 + k ≡ at_run.number + k = omega arith in
        subst (Agree (rows_of_runs files runs) (Some (at_run.number + k))) (sym found.cell_is)
        (ap (slice_get (rows_of_runs files runs)) (sym here) ∙ at_run.rows_are k below ∙ found.row_is)

-- by the indices of a run and an offset
pub agree-at : (files : List Loaded) (offsets : List ℤ) (i j : ℕ) → Agree (cells_of files)
    (option_and_then (λ (cells : RunCells). option_and_then (number_in cells) (slice_get offsets j))
    (slice_get (runs_from files 0 (runs_of files)) i))
    (option_and_then (λ run. option_and_then (λ seconds. row_at files run (run +ℤ seconds)) (slice_get offsets j))
    (slice_get (runs_of files) i))
unfolding cells_of
agree-at files offsets i j = by_run (slice_get (runs_of files) i) refl
  where
    by_offset : (run : ℤ) → (at_run : IsRunAt files 0 (runs_of files) i run) → (o : Option ℤ)
        → Agree (rows_of_runs files (runs_of files))
        (option_and_then (number_in (run_cells files at_run.number run)) o)
        (option_and_then (λ seconds. row_at files run (run +ℤ seconds)) o)
    by_offset run at_run None = tt
    by_offset run at_run (Some offset) = agree-in files (runs_of files) i run offset at_run

    by_run : (r : Option ℤ) → slice_get (runs_of files) i ≡ r → Agree (rows_of_runs files (runs_of files))
        (option_and_then (λ (cells : RunCells). option_and_then (number_in cells) (slice_get offsets j))
        (slice_get (runs_from files 0 (runs_of files)) i))
        (option_and_then (λ run. option_and_then (λ seconds. row_at files run (run +ℤ seconds))
        (slice_get offsets j)) r)
    by_run None is =
        subst (λ (o : Option RunCells). Agree (rows_of_runs files (runs_of files))
        (option_and_then (λ (cells : RunCells). option_and_then (number_in cells) (slice_get offsets j)) o) None)
        (sym (no-run files (runs_of files) i is)) tt
    by_run (Some run) is =
        let at_run = run-at files 0 (runs_of files) i run is in
        subst (λ (o : Option RunCells). Agree (rows_of_runs files (runs_of files))
        (option_and_then (λ (cells : RunCells). option_and_then (number_in cells) (slice_get offsets j)) o)
        (option_and_then (λ seconds. row_at files run (run +ℤ seconds)) (slice_get offsets j)))
        (sym at_run.cells_are) (by_offset run at_run (slice_get offsets j))
