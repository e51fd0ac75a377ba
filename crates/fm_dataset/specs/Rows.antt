-- Which rows a dataset may have.
use Rattle.std.specs.Prelude.{◌≡◌, ◌<◌, ◌≤◌, List, length, slice_get, Some, All, None}
use Rattle.fm_model.specs.declared.limit.TheConstants.{MAX_BYTES, MAX_ROWS}
use Rattle.fm_model.specs.declared.loaded.Loaded.{Loaded}
use Rattle.fm_model.specs.declared.proto.Proto.{Proto}
use Rattle.fm_model.specs.declared.row.Row.{Row}
use Rattle.fm_model.specs.Cell.{IsBest, IsCell}
use Rattle.fm_model.specs.Load.{Fits}
use Rattle.fm_model.specs.Rows.{HasHeldFile}

-- a row is of a file that fits the prototype and is within the limit, with the file's run, and with the time at its
-- index as its valid time
pub record IsRowOf (proto : Proto) (row : Row) : Type 0 where
  pub fits : Fits row.file proto
  pub small : length row.file.content ≤ MAX_BYTES
  pub run_is : row.file.run ≡ row.run
  pub time_is : slice_get row.file.times row.index ≡ Some row.valid

-- there are 1 to 262,144 rows, each of the prototype's collection
pub record AreRows (proto : Proto) (rows : List Row) : Type 0 where
  pub some : 0 < length rows
  pub few : length rows ≤ MAX_ROWS
  pub each : All (IsRowOf proto) rows

-- a row's file is held and is the last of its run with the row's valid time, and the run is the latest that has it
pub record IsOfLatestRun (files : List Loaded) (row : Row) : Type 0 where
  pub held : HasHeldFile files row
  pub best : IsBest files row.valid None row.run
  pub cell : IsCell files row.run row.valid row.file row.index
