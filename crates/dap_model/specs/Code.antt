-- The numbers by which faults of constraints are reported.
use Rattle.std.specs.Prelude.{ℕ}
use Rattle.dap_model.specs.declared.fault.CeFault.{CeFault}
use Rattle.dap_model.specs.declared.fault.CeFault.TheVariants.{BadConstraint, Selection}
use Rattle.dap_model.specs.declared.fault.ProjectFault.{ProjectFault}
use Rattle.dap_model.specs.declared.fault.ProjectFault.TheVariants.{NoSuchVariable, SlabRank, SlabRange, SlabConflict}

-- the number of a fault of a constraint's text, 21 or 22
abbrev pub ce_code : CeFault → ℕ
ce_code (BadConstraint at) = 21
ce_code (Selection at) = 22

-- the number of a fault of a constraint for its dataset, 23 to 26
abbrev pub project_code : ProjectFault → ℕ
project_code (NoSuchVariable name) = 23
project_code (SlabRank name got rank) = 24
project_code (SlabRange name dim size) = 25
project_code (SlabConflict name) = 26
