-- The cells of runs, run after run.
use Rattle.std.proofs.Common.{◌≡◌, ◌≢◌, ℕ, ◌+◌, ◌<◌, List, [], ◌∷◌, ◌++◌, length, get_or, take, All, ℤ, refl, sym, ap, ap₂, subst, ◌∙◌, arith}
use Rattle.std.specs.List.{filter_map}
use Rattle.std.proofs.lemmas.Grind.{flat_map-append}
use Rattle.std.proofs.lemmas.List.{append-nil, length-append, take_more}
use Rattle.std.proofs.lemmas.List.Elements.{All-nil}
use Rattle.fm_model.specs.declared.loaded.Loaded.{Loaded}
use Rattle.fm_model.specs.declared.row.Row.{Row}
use Rattle.fm_model.specs.declared.row.ViewName.TheVariants.{Run}
use Rattle.fm_model.specs.Cell.{times_of_run}
use Rattle.fm_model.specs.Rows.{row_at, rows}
use Rattle.fm_model.proofs.ProtoLemmas.{IsSound-given}
use Rattle.fm_edition.specs.Held.{Held, IsEdition}
use Rattle.fm_dataset.specs.Kept.{HasInstants}
use Rattle.fm_dataset.proofs.RowLemmas.{instants}
use Rattle.fm_views.proofs.RowFacts.{are_rows}
use Rattle.fm_twod.specs.declared.cells.RunCells.{RunCells}
use Rattle.fm_twod.specs.Cells.{rows_of_runs, run_cells, run_rows, runs_from}

-- the rows of a run, as they are made
pub run_rows-made : (files : List Loaded) (run : ℤ)
    → run_rows files run ≡ filter_map (row_at files run) (times_of_run files run)
unfolding rows
run_rows-made files run = refl

-- their times are instants
pub run-times : (held : Held) (run : ℤ) → IsEdition held → All HasInstants (run_rows held.files run)
run-times held run edition = by_rows (run_rows held.files run) refl
  where
    by_rows : (list : List Row) → run_rows held.files run ≡ list → All HasInstants (run_rows held.files run)
    by_rows [] is = subst (All HasInstants) (sym is) (All-nil HasInstants)
    by_rows (row ∷ others) is =
        let some : run_rows held.files run ≢ [] = λ none. omega (arith, ap length is, ap length none) in
        instants held.proto (run_rows held.files run) (IsSound-given held.proto edition.prototype)
        (are_rows held (Run run) edition some)

pub run-instants : (held : Held) (run : ℤ) → IsEdition held
    → All HasInstants (filter_map (row_at held.files run) (times_of_run held.files run))
run-instants held run edition = subst (All HasInstants) (run_rows-made held.files run) (run-times held run edition)

-- the cells of one run more
pub runs_from-push : (files : List Loaded) (first : ℕ) (runs : List ℤ) (run : ℤ)
    → runs_from files first (runs ++ run ∷ [])
    ≡ runs_from files first runs ++ run_cells files (first + length (rows_of_runs files runs)) run ∷ []
unfolding runs_from
runs_from-push files first [] run =
    let same : first ≡ first + 0 = omega arith in ap (λ (n : ℕ). run_cells files n run ∷ []) same
runs_from-push files first (other ∷ runs) run =
    let many : first + length (run_rows files other) + length (rows_of_runs files runs)
    ≡ first + length (run_rows files other ++ rows_of_runs files runs) =
    omega (arith, length-append (run_rows files other) (rows_of_runs files runs)) in
    ap (λ (l : List RunCells). run_cells files first other ∷ l)
    (runs_from-push files (first + length (run_rows files other)) runs run
    ∙ ap (λ (n : ℕ). runs_from files (first + length (run_rows files other)) runs ++ run_cells files n run ∷ []) many)

-- the rows of one run more
pub rows_of_runs-push : (files : List Loaded) (runs : List ℤ) (run : ℤ)
    → rows_of_runs files (runs ++ run ∷ []) ≡ rows_of_runs files runs ++ run_rows files run
rows_of_runs-push files runs run =
    flat_map-append (run_rows files) runs (run ∷ [])
    ∙ ap (λ (l : List Row). rows_of_runs files runs ++ l) (append-nil (run_rows files run))

-- the next run of some
pub runs-more : (files : List Loaded) (all : List ℤ) (i : ℕ) (d : ℤ) (old new : List Row) (before after : List RunCells)
    → i < length all → old ≡ rows_of_runs files (take i all) → before ≡ runs_from files 0 (take i all)
    → new ≡ old ++ run_rows files (get_or all i d)
    → after ≡ before ++ run_cells files (length old) (get_or all i d) ∷ []
    → (new ≡ rows_of_runs files (take (i + 1) all)) × (after ≡ runs_from files 0 (take (i + 1) all))
runs-more files all i d old new before after within rows_are runs_are rows_next runs_next =
    let run : ℤ = get_or all i d in
    let next : take (i + 1) all ≡ take i all ++ run ∷ [] = take_more all i d within in
    let many : length old ≡ 0 + length (rows_of_runs files (take i all)) = omega (arith, ap length rows_are) in (
      rows_next ∙ ap (λ (l : List Row). l ++ run_rows files run) rows_are
          ∙ sym (ap (rows_of_runs files) next ∙ rows_of_runs-push files (take i all) run),
      runs_next
          ∙ ap₂ (λ (l : List RunCells) (n : ℕ). l ++ run_cells files n run ∷ []) runs_are many
          ∙ sym (ap (runs_from files 0) next ∙ runs_from-push files 0 (take i all) run),
    )
