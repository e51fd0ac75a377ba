-- The cells of a collection, by run and by valid time (THREDDS Data Server, Forecast Model Run Collections).
use Rattle.std.specs.Prelude.{ℕ, ◌+◌, List, [], ◌∷◌, length, map, ℤ}
use Rattle.std.specs.List.{flat_map}
use Rattle.fm_model.specs.declared.loaded.Loaded.{Loaded}
use Rattle.fm_model.specs.declared.row.Row.{Row}
use Rattle.fm_model.specs.declared.row.ViewName.TheVariants.{Run}
use Rattle.fm_model.specs.Cell.{runs_of}
use Rattle.fm_model.specs.Rising.{rising}
use Rattle.fm_model.specs.Rows.{rows}
use Rattle.fm_dataset.specs.Values.{offset_time}
use Rattle.fm_twod.specs.declared.cells.RunCells.{RunCells}

-- the rows of a run, one for each of its valid times
abbrev pub run_rows : List Loaded → ℤ → List Row
run_rows files run = rows files (Run run)

-- the rows of some runs, run after run
abbrev pub rows_of_runs : List Loaded → List ℤ → List Row
rows_of_runs files runs = flat_map (run_rows files) runs

-- the rows of all cells
unfoldable pub cells_of : List Loaded → List Row
cells_of files = rows_of_runs files (runs_of files)

-- the cells of a run, the first of which has this number among all
abbrev pub run_cells : List Loaded → ℕ → ℤ → RunCells
run_cells files first run = record { run = run; first = first; offsets = map offset_time (run_rows files run) }

-- the cells of some runs, run after run
unfoldable pub runs_from : List Loaded → ℕ → List ℤ → List RunCells
runs_from files first [] = []
runs_from files first (run ∷ runs) =
    run_cells files first run ∷ runs_from files (first + length (run_rows files run)) runs

-- the offsets of some cells, each once, rising
unfoldable pub offsets_of : List RunCells → List ℤ
offsets_of runs = rising (flat_map (λ (cells : RunCells). cells.offsets) runs)
