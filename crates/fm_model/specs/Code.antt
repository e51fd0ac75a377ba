-- The numbers by which it is reported why a file is no prototype, or isn't taken.
use Rattle.std.specs.Prelude.{ℕ}
use Rattle.nc_model.specs.Code.{header_fault_code, layout_fault_code, units_fault_code}
use Rattle.fm_model.specs.declared.loaded.LoadFault.{LoadFault}
use Rattle.fm_model.specs.declared.loaded.LoadFault.TheVariants as load
use Rattle.fm_model.specs.declared.proto.ProtoFault.{ProtoFault}
use Rattle.fm_model.specs.declared.proto.ProtoFault.TheVariants as proto

-- the number of a fault of a prototype: 1 to 14, 41 to 44 or 56
abbrev pub proto_code : ProtoFault → ℕ
proto_code (proto.Header fault) = header_fault_code fault
proto_code (proto.Layout fault) = layout_fault_code fault
proto_code proto.NoTimeAxis = 41
proto_code (proto.TimeNotFirst name) = 42
proto_code (proto.BadProtoName name) = 43
proto_code (proto.NameTaken name) = 44
proto_code (proto.EmptyDimension name) = 56

-- the number of a fault of a file: 1 to 17, 45 to 55 or 57
abbrev pub load_code : LoadFault → ℕ
load_code (load.Header fault) = header_fault_code fault
load_code (load.Layout fault) = layout_fault_code fault
load_code (load.Units fault) = units_fault_code fault
load_code load.NoRunTime = 45
load_code (load.NotWhole k) = 46
load_code (load.TimeRange k seconds) = 47
load_code (load.TimeRepeated k) = 48
load_code (load.MissingVariable name) = 49
load_code (load.VariableDiffers name) = 50
load_code (load.GridDiffers name byte proto_byte file_byte) = 51
load_code load.NoTimes = 52
load_code (load.TooManyTimes n) = 53
load_code load.RunNotWhole = 54
load_code (load.RunRange seconds) = 55
load_code (load.AttributeDiffers name attribute) = 57
