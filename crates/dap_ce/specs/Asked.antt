-- What a constraint asks for, as the projection that is read from it (ESE-RFC-004, constraint expressions).
use Rattle.std.specs.Prelude.{ℕ, List, Result, Ok, Err}
use Rattle.dap_model.specs.ConstraintReading.{constraint_of}
use Rattle.dap_model.specs.declared.fault.CeFault.{CeFault}
use Rattle.dap_model.specs.declared.projection.Clause.{Clause}
use Rattle.dap_model.specs.declared.projection.Projection.{Projection}

-- clauses as a projection
abbrev pub as_projection : Result (List Clause) CeFault → Result Projection CeFault
as_projection (Ok clauses) = Ok (record { clauses = clauses })
as_projection (Err fault) = Err fault

-- the projection that a text asks for, or its fault
abbrev pub asked_by : List ℕ → Result Projection CeFault
asked_by text = as_projection (constraint_of text)
