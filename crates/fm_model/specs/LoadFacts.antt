-- What holds of a file that fits a prototype.
use Rattle.std.specs.Prelude.{◌≡◌, ◌≢◌, ◌<◌, ◌≤◌, ℤ, All, AllPairs, Ok, length}
use Rattle.std.specs.List.{AllZip}
use Rattle.nc_model.specs.declared.header.Header.{Header as FileHeader}
use Rattle.nc_model.specs.declared.header.NcVar.{NcVar}
use Rattle.fm_model.specs.declared.limit.TheConstants.{MAX_TIMES}
use Rattle.fm_model.specs.declared.loaded.Loaded.{Loaded}
use Rattle.fm_model.specs.declared.proto.Proto.{Proto}
use Rattle.fm_model.specs.LoadAxis.{file_axis, file_header}
use Rattle.fm_model.specs.LoadTimes.{IsInstant}
use Rattle.fm_model.specs.LoadVars.{slotted_vars, IsSlotOf, LiesWithin}

-- the run is an instant; there is at least one time and not too many, they are instants, and they differ; each variable
-- along the axis has a slot, in the prototype's order, which says where the variable of its name lies in the file, of
-- the prototype's kind and lengths; and all that a slot says lies in the content
pub record IsFit (file : Loaded) (proto : Proto) : Type 0 where
  pub run : IsInstant file.run
  pub some : 0 < length file.times
  pub few : length file.times ≤ MAX_TIMES
  pub instants : All IsInstant file.times
  pub differ : AllPairs (λ (time other : ℤ). time ≢ other) file.times
  pub header : FileHeader
  pub axis : NcVar
  pub header_is : file_header file.content ≡ Ok header
  pub axis_is : file_axis proto header ≡ Ok axis
  pub slots_count : length file.slots ≡ length (slotted_vars proto)
  pub slots : AllZip (IsSlotOf proto header axis) (slotted_vars proto) file.slots
  pub within : AllZip (LiesWithin proto (length file.times) (length file.content)) (slotted_vars proto) file.slots
