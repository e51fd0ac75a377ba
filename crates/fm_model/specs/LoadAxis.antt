-- The header of a file that is to be taken, and its axis.
use Rattle.std.specs.Prelude.{ℕ, List, not, Result, Ok}
use Rattle.std.specs.Option.{ok_or}
use Rattle.nc_model.specs.declared.header.Header.{Header as FileHeader}
use Rattle.nc_model.specs.declared.header.NcVar.{NcVar}
use Rattle.nc_model.specs.declared.fault.FormatFault.{FormatFault}
use Rattle.nc_model.specs.declared.fault.FormatFault.TheVariants.{OfHeader, OfLayout}
use Rattle.nc_model.specs.Sound.{sound_header}
use Rattle.fm_model.specs.declared.loaded.LoadFault.{LoadFault}
use Rattle.fm_model.specs.declared.loaded.LoadFault.TheVariants.{Header, Layout, MissingVariable, VariableDiffers}
use Rattle.fm_model.specs.declared.proto.Proto.{Proto}
use Rattle.fm_base.specs.Chain.{◌>>=◌, ◌>>◌, refuse_if, fault_as}
use Rattle.fm_model.specs.Variable.{is_coordinate, var_named}

-- a fault of a file as one of loading it
abbrev pub fault_of_load : FormatFault → LoadFault
fault_of_load (OfHeader fault) = Header fault
fault_of_load (OfLayout fault) = Layout fault

-- the header of a file that has no fault
unfoldable pub file_header : List ℕ → Result FileHeader LoadFault
file_header bytes = fault_as fault_of_load (sound_header bytes)

-- the file's variable of this name
unfoldable pub file_var : FileHeader → List ℕ → Result NcVar LoadFault
file_var header name = ok_or (var_named header name) (MissingVariable name)

-- the file's axis: the variable with the name of the prototype's axis, which is a coordinate variable
unfoldable pub file_axis : Proto → FileHeader → Result NcVar LoadFault
file_axis proto header = do
  axis ← file_var header proto.axis
  refuse_if (not (is_coordinate header.dims axis.name axis.kind axis.dims)) (VariableDiffers proto.axis)
  Ok axis
