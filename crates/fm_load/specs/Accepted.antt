-- What makes a file one that is taken, step by step.
use Rattle.std.specs.Prelude.{◌≡◌, ℕ, List, length, Ok}
use Rattle.nc_model.specs.declared.header.Header.{Header as FileHeader}
use Rattle.nc_model.specs.declared.header.NcVar.{NcVar}
use Rattle.nc_model.specs.declared.units.Units.{Units as TimeUnits}
use Rattle.fm_model.specs.declared.loaded.Loaded.{Loaded}
use Rattle.fm_model.specs.declared.proto.Proto.{Proto}
use Rattle.fm_model.specs.LoadAxis.{file_axis, file_header}
use Rattle.fm_model.specs.LoadTimes.{file_run, file_times, file_units, time_count}
use Rattle.fm_model.specs.LoadVars.{file_slots}

-- each step of loading a file of this name with these bytes accepts, and gives what the file has
pub record IsAccepted (name bytes : List ℕ) (proto : Proto) (file : Loaded) : Type 0 where
  pub header : FileHeader
  pub axis : NcVar
  pub units : TimeUnits
  pub header_is : file_header bytes ≡ Ok header
  pub axis_is : file_axis proto header ≡ Ok axis
  pub units_is : file_units axis ≡ Ok units
  pub run_is : file_run proto.site name bytes header ≡ Ok file.run
  pub count_is : time_count header axis ≡ Ok (length file.times)
  pub times_is : file_times proto.site bytes header axis units (length file.times) ≡ Ok file.times
  pub slots_is : file_slots proto bytes header axis ≡ Ok file.slots
  pub name_is : file.name ≡ name
  pub content_is : file.content ≡ bytes
