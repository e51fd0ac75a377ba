-- A file in the classic format that has no fault: its header is sound, and all of its data lies in the file.
use Rattle.std.specs.Prelude.{ℕ, List, length, Result, Ok}
use Rattle.std.specs.Option.{option_map}
use Rattle.nc_model.specs.declared.fault.FormatFault.{FormatFault}
use Rattle.nc_model.specs.declared.fault.FormatFault.TheVariants.{OfHeader, OfLayout}
use Rattle.nc_model.specs.declared.header.Header.{Header}
use Rattle.fm_base.specs.Chain.{◌>>=◌, ◌>>◌, refuse, fault_as}
use Rattle.nc_model.specs.Code.{header_fault_code, layout_fault_code}
use Rattle.nc_model.specs.Layout.{layout_fault}
use Rattle.nc_model.specs.Reading.{header_or_fault}

-- the number of a fault of a file, 1 to 14
abbrev pub format_fault_code : FormatFault → ℕ
format_fault_code (OfHeader fault) = header_fault_code fault
format_fault_code (OfLayout fault) = layout_fault_code fault

-- the header of a file that has no fault, else the first fault
unfoldable pub sound_header : List ℕ → Result Header FormatFault
sound_header bytes = do
  header ← fault_as OfHeader (header_or_fault bytes)
  refuse (option_map OfLayout (layout_fault header (length bytes)))
  Ok header
