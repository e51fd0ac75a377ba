-- What is taken of a file whose header has no fault.
use Rattle.std.specs.Prelude.{ℕ, List, Result, Ok}
use Rattle.fm_base.specs.Chain.{◌>>=◌}
use Rattle.nc_model.specs.declared.header.Header.{Header}
use Rattle.fm_model.specs.declared.loaded.Loaded.{Loaded}
use Rattle.fm_model.specs.declared.loaded.LoadFault.{LoadFault}
use Rattle.fm_model.specs.declared.proto.Proto.{Proto}
use Rattle.fm_model.specs.LoadAxis.{file_axis}
use Rattle.fm_model.specs.LoadTimes.{file_run, file_times, file_units, time_count}
use Rattle.fm_model.specs.LoadVars.{file_slots}
use Rattle.fm_load.specs.declared.loading.Taken.{Taken}

-- the loaded file of this name and these bytes, of which this was read
abbrev pub loaded_as : List ℕ → List ℕ → Taken → Loaded
loaded_as name bytes taken = record {
  name = name;
  run = taken.run;
  times = taken.times;
  content = bytes;
  slots = taken.slots;
}

-- the loaded file of this name and the bytes with this header, or the first fault
unfoldable pub load_over : List ℕ → List ℕ → Proto → Header → Result Loaded LoadFault
load_over name bytes proto header = do
  axis ← file_axis proto header
  units ← file_units axis
  run ← file_run proto.site name bytes header
  count ← time_count header axis
  times ← file_times proto.site bytes header axis units count
  slots ← file_slots proto bytes header axis
  Ok (record { name = name; run = run; times = times; content = bytes; slots = slots })
