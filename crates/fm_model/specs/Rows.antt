-- The rows of the views of a collection (THREDDS Data Server, Forecast Model Run Collections: run, constant offset,
-- constant forecast and best time series datasets).
use Rattle.std.specs.Prelude.{◌≡◌, Contains, slice_get, List, Option, None, Some, option_and_then, ℤ, ◌+ℤ◌}
use Rattle.std.specs.List.{filter_map}
use Rattle.std.specs.Option.{option_map}
use Rattle.fm_model.specs.declared.loaded.Loaded.{Loaded}
use Rattle.fm_model.specs.declared.row.Row.{Row}
use Rattle.fm_model.specs.declared.row.ViewName.{ViewName}
use Rattle.fm_model.specs.declared.row.ViewName.TheVariants.{Best, BestFrom, Run, Offset, Forecast}
use Rattle.fm_model.specs.Cell.{runs_of, times_of, times_of_run, cell, best}

-- the row of a run and a valid time, where they have a cell
unfoldable pub row_at : List Loaded → ℤ → ℤ → Option Row
row_at files run valid = option_map (λ found. record { valid = valid; run = run; file = found.0; index = found.1 })
    (cell files run valid)

-- the row of a valid time in a best time series, from the best run
unfoldable pub best_row : List Loaded → Option ℤ → ℤ → Option Row
best_row files least valid = option_and_then (λ run. row_at files run valid) (best files valid least)

-- the rows of a view: of the best time series, one for each valid time of any run, and with a least offset for each
-- that some run has at least that many seconds after it; of a run, one for each of its valid times; at an offset, one
-- for each run that has the valid time that many seconds after it; for a forecast time, one for each run that has it
unfoldable pub rows : List Loaded → ViewName → List Row
rows files Best = filter_map (best_row files None) (times_of files)
rows files (BestFrom least) = filter_map (best_row files (Some least)) (times_of files)
rows files (Run run) = filter_map (row_at files run) (times_of_run files run)
rows files (Offset seconds) = filter_map (λ run. row_at files run (run +ℤ seconds)) (runs_of files)
rows files (Forecast valid) = filter_map (λ run. row_at files run valid) (runs_of files)

-- what a view's rows rise by: the valid times, or the runs
abbrev pub instant_in : ViewName → Row → ℤ
instant_in Best row = row.valid
instant_in (BestFrom least) row = row.valid
instant_in (Run run) row = row.valid
instant_in (Offset seconds) row = row.run
instant_in (Forecast valid) row = row.run

-- whether a view shows rows of this run and valid time, given that they have a cell
abbrev pub Shows : List Loaded → ViewName → ℤ → ℤ → Type 0
Shows files Best run valid = best files valid None ≡ Some run
Shows files (BestFrom least) run valid = best files valid (Some least) ≡ Some run
Shows files (Run only) run valid = run ≡ only
Shows files (Offset seconds) run valid = valid ≡ run +ℤ seconds
Shows files (Forecast only) run valid = valid ≡ only

-- a row's file is held, and has the row's run and valid time
pub record HasHeldFile (files : List Loaded) (row : Row) : Type 0 where
  pub held : Contains files row.file
  pub run_is : row.file.run ≡ row.run
  pub time_is : slice_get row.file.times row.index ≡ Some row.valid
