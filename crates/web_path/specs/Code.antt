-- The numbers by which faults of a target are reported.
use Rattle.std.specs.Prelude.{ℕ}
use Rattle.web_path.specs.declared.fault.PathFault.{PathFault}
use Rattle.web_path.specs.declared.fault.PathFault.TheVariants.{BadEscape, NoSuchDataset, NoSuchService}

-- the number of a fault
abbrev pub path_fault_code : PathFault → ℕ
path_fault_code (BadEscape at) = 31
path_fault_code NoSuchDataset = 32
path_fault_code NoSuchService = 33
