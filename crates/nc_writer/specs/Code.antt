-- The numbers by which faults of writing a file are reported.
use Rattle.std.specs.Prelude.{ℕ}
use Rattle.nc_writer.specs.declared.fault.WriteFault.{WriteFault}
use Rattle.nc_writer.specs.declared.fault.WriteFault.TheVariants.{SlabsDiffer, SizesDiffer, NameTaken, FileTooLong}

-- the number of a fault of writing a file, 71 to 74
abbrev pub write_code : WriteFault → ℕ
write_code (SlabsDiffer name) = 71
write_code (SizesDiffer name) = 72
write_code (NameTaken name) = 73
write_code (FileTooLong len limit) = 74
