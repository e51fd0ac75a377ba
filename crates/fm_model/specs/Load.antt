-- What a file is taken for over a prototype, or the first fault.
use Rattle.std.specs.Prelude.{◌≡◌, ℕ, List, Result, Ok}
use Rattle.fm_model.specs.declared.loaded.Loaded.{Loaded}
use Rattle.fm_model.specs.declared.loaded.LoadFault.{LoadFault}
use Rattle.fm_model.specs.declared.proto.Proto.{Proto}
use Rattle.fm_base.specs.Chain.{◌>>=◌}
use Rattle.fm_model.specs.LoadAxis.{file_header, file_axis}
use Rattle.fm_model.specs.LoadTimes.{file_units, file_run, time_count, file_times}
use Rattle.fm_model.specs.LoadVars.{file_slots}

-- the loaded file of this name and these bytes, or the first fault
unfoldable pub load_of : List ℕ → List ℕ → Proto → Result Loaded LoadFault
load_of name bytes proto = do
  header ← file_header bytes
  axis ← file_axis proto header
  units ← file_units axis
  run ← file_run proto.site name bytes header
  count ← time_count header axis
  times ← file_times proto.site bytes header axis units count
  slots ← file_slots proto bytes header axis
  Ok (record { name = name; run = run; times = times; content = bytes; slots = slots })

-- a file fits a prototype where it is what its name and content are taken for
abbrev pub Fits : Loaded → Proto → Type 0
Fits file proto = load_of file.name file.content proto ≡ Ok file
