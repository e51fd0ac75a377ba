-- The numbers by which faults of files are reported.
use Rattle.std.specs.Prelude.{ℕ}
use Rattle.nc_model.specs.declared.fault.HeaderFault.{HeaderFault}
use Rattle.nc_model.specs.declared.fault.HeaderFault.TheVariants.{BadMagic, BadVersion, Truncated, BadTag, BadCount, BadName, BadType, BadDimId, TwoRecordDims, RecordNotFirst, RepeatedName, Streaming}
use Rattle.nc_model.specs.declared.fault.LayoutFault.{LayoutFault}
use Rattle.nc_model.specs.declared.fault.LayoutFault.TheVariants.{TooLarge, DataOutside}
use Rattle.nc_model.specs.declared.units.UnitsFault.{UnitsFault}
use Rattle.nc_model.specs.declared.units.UnitsFault.TheVariants.{BadUnits, Calendar, MixedCalendar}

-- the number of a fault of a header, 1 to 12
abbrev pub header_fault_code : HeaderFault → ℕ
header_fault_code BadMagic = 1
header_fault_code (BadVersion version) = 2
header_fault_code (Truncated at) = 3
header_fault_code (BadTag at) = 4
header_fault_code (BadCount at) = 5
header_fault_code (BadName at) = 6
header_fault_code (BadType at) = 7
header_fault_code (BadDimId at) = 8
header_fault_code (TwoRecordDims at) = 9
header_fault_code (RecordNotFirst at) = 10
header_fault_code (RepeatedName at) = 11
header_fault_code Streaming = 12

-- the number of a fault of a layout, 13 or 14
abbrev pub layout_fault_code : LayoutFault → ℕ
layout_fault_code (TooLarge var) = 13
layout_fault_code (DataOutside var end len) = 14

-- the number of a fault of units, 15 to 17
abbrev pub units_fault_code : UnitsFault → ℕ
units_fault_code (BadUnits at) = 15
units_fault_code Calendar = 16
units_fault_code MixedCalendar = 17
