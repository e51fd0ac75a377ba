-- The numbers, statuses and messages of what is wrong with a request
-- (ESE-RFC-004, the Error object; RFC 9110, statuses).
use Rattle.std.specs.Prelude.{ℕ, List, ◌++◌, codes}
use Rattle.std.specs.Fmt.{decimal}
use Rattle.fm_bits.specs.Quoted.{quoted}
use Rattle.dap_model.specs.Code.{ce_code, project_code}
use Rattle.dap_model.specs.declared.fault.CeFault.{CeFault}
use Rattle.dap_model.specs.declared.fault.CeFault.TheVariants.{BadConstraint, Selection}
use Rattle.dap_model.specs.declared.fault.ProjectFault.{ProjectFault}
use Rattle.dap_model.specs.declared.fault.ProjectFault.TheVariants.{NoSuchVariable, SlabRank, SlabRange, SlabConflict}
use Rattle.web_path.specs.Code.{path_fault_code}
use Rattle.web_path.specs.declared.fault.PathFault.{PathFault}
use Rattle.web_path.specs.declared.fault.PathFault.TheVariants.{BadEscape, NoSuchDataset, NoSuchService}
use Rattle.dap_reply.specs.declared.fault.DapFault.{DapFault}
use Rattle.dap_reply.specs.declared.status.Status.{Status}
use Rattle.dap_reply.specs.declared.status.Status.TheVariants as statuses
use Rattle.dap_reply.specs.declared.status.Status.TheVariants.{BadRequest, NotFound, NotAllowed, HeadTooLarge}
use Rattle.dap_reply.specs.declared.fault.DapFault.TheVariants.{Constraint, Projection, Path, TooLarge, Method, BodyNotTaken, NoRows, BadHead, HeadTooLong}

-- the number by which a fault is reported
unfoldable pub fault_code : DapFault → ℕ
fault_code (Constraint fault) = ce_code fault
fault_code (Projection fault) = project_code fault
fault_code (Path fault) = path_fault_code fault
fault_code (TooLarge len limit) = 34
fault_code Method = 35
fault_code BodyNotTaken = 36
fault_code NoRows = 37
fault_code BadHead = 38
fault_code HeadTooLong = 39

-- the status of a reply that refuses
unfoldable pub fault_status : DapFault → Status
fault_status (Constraint fault) = BadRequest
fault_status (Projection fault) = BadRequest
fault_status (Path (BadEscape at)) = BadRequest
fault_status (Path NoSuchDataset) = NotFound
fault_status (Path NoSuchService) = NotFound
fault_status (TooLarge len limit) = statuses.TooLarge
fault_status Method = NotAllowed
fault_status BodyNotTaken = BadRequest
fault_status NoRows = NotFound
fault_status BadHead = BadRequest
fault_status HeadTooLong = HeadTooLarge

-- what is said of a constraint
unfoldable pub constraint_message : CeFault → List ℕ
constraint_message (BadConstraint at) = codes "constraint wrong at " ++ decimal at
constraint_message (Selection at) = codes "selection at " ++ decimal at

-- what is said of a constraint for the dataset
unfoldable pub projection_message : ProjectFault → List ℕ
projection_message (NoSuchVariable name) = codes "no variable " ++ name
projection_message (SlabRank name got rank) =
    name ++ codes " takes " ++ decimal rank ++ codes " slabs and has " ++ decimal got
projection_message (SlabRange name dim size) =
    codes "slab " ++ decimal dim ++ codes " of " ++ name ++ codes " is outside " ++ decimal size
projection_message (SlabConflict name) = name ++ codes " has two lists of slabs"

-- what is said of a target
unfoldable pub path_message : PathFault → List ℕ
path_message (BadEscape at) = codes "bad escape at " ++ decimal at
path_message NoSuchDataset = codes "no such dataset"
path_message NoSuchService = codes "no such service"

-- what is said of a fault
unfoldable pub fault_message : DapFault → List ℕ
fault_message (Constraint fault) = constraint_message fault
fault_message (Projection fault) = projection_message fault
fault_message (Path fault) = path_message fault
fault_message (TooLarge len limit) = codes "body of " ++ decimal len ++ codes " bytes is over " ++ decimal limit
fault_message Method = codes "method not taken"
fault_message BodyNotTaken = codes "body not taken"
fault_message NoRows = codes "no rows"
fault_message BadHead = codes "bad request head"
fault_message HeadTooLong = codes "request head over 16384 bytes"

-- the lines of an Error object: its number, and its message
unfoldable pub code_lines : DapFault → List ℕ
code_lines fault = codes "Error {\n    code = " ++ decimal (fault_code fault) ++ codes ";\n"

unfoldable pub message_lines : DapFault → List ℕ
message_lines fault = codes "    message = " ++ quoted (fault_message fault) ++ codes ";\n};\n"

-- the body that says a fault, an Error object
unfoldable pub error_text : DapFault → List ℕ
error_text fault = code_lines fault ++ message_lines fault
