-- The body of a reply over a collection, or the first fault of the request (ESE-RFC-004).
use Rattle.std.specs.Prelude.{ℕ, zero, suc, List, ◌++◌, length, codes, nat_lt, if◌then◌else◌, Some, Result, Ok, Err}
use Rattle.fm_base.specs.Chain.{◌>>=◌, fault_as}
use Rattle.fm_model.specs.declared.loaded.Loaded.{Loaded}
use Rattle.fm_model.specs.declared.proto.Proto.{Proto}
use Rattle.fm_model.specs.Rows.{rows}
use Rattle.fm_views.specs.declared.view.NoRows.{NoRows as HasNoRows}
use Rattle.dap_ce.specs.Asked.{asked_by}
use Rattle.dap_model.specs.declared.declaration.Decl.{Decl}
use Rattle.dap_model.specs.declared.projection.Projected.{Projected}
use Rattle.dap_model.specs.declared.projection.Sent.{Sent}
use Rattle.dap_model.specs.Projection.{projection_of}
use Rattle.dap_model.specs.StructureText.{dds_of}
use Rattle.dap_das.specs.AttributeText.{das_of}
use Rattle.fm_dataset.specs.Declarations.{decls_of}
use Rattle.fm_dataset.specs.Values.{Shown}
use Rattle.fm_views.specs.View.{shown_or_none}
use Rattle.web_path.specs.declared.target.Service.{Service}
use Rattle.web_path.specs.declared.target.Service.TheVariants.{Dds, Das, Dods}
use Rattle.web_path.specs.declared.target.Target.{Target}
use Rattle.dap_reply.specs.declared.body.Body.{Body}
use Rattle.dap_reply.specs.declared.body.BodyKind.{BodyKind}
use Rattle.dap_reply.specs.declared.body.BodyKind.TheVariants.{Structure, Attributes, Data}
use Rattle.dap_reply.specs.declared.fault.DapFault.{DapFault}
use Rattle.dap_reply.specs.declared.fault.DapFault.TheVariants.{Constraint, Projection, TooLarge, NoRows}
use Rattle.dap_plan.specs.Parts.{bytes_of, ready}

-- the most bytes that a body may have
abbrev pub MAX_BODY : ℕ
MAX_BODY = 536870912

-- the number of rows, of which there is one
unfoldable pub some_rows : ℕ → Result ℕ DapFault
some_rows zero = Err NoRows
some_rows (suc count) = Ok (suc count)

-- that a view has no rows, as a fault
abbrev pub has_no_rows : HasNoRows → DapFault
has_no_rows none = NoRows

-- what the dataset of a target shows over a collection, which has rows
unfoldable pub some_shown : Proto → List Loaded → Target → Result Shown DapFault
some_shown proto files target =
    fault_as has_no_rows (shown_or_none (record { proto = proto; files = files }) target.view target.label)

-- what is sent of declarations for a constraint
unfoldable pub projected_of : List Decl → List ℕ → Result Projected DapFault
projected_of decls constraint = do
  asked ← fault_as Constraint (asked_by constraint)
  fault_as Projection (projection_of decls asked.clauses)

-- a body that is a text
abbrev pub text_body : BodyKind → List ℕ → Body
text_body kind text = record { kind = kind; bytes = ready text }

-- the structure text of what is sent, and what stands before the data behind it
unfoldable pub structure_of : Target → Projected → List ℕ
structure_of target projected = dds_of target.label projected.decls

abbrev pub before_data : Target → Projected → List ℕ
before_data target projected = structure_of target projected ++ codes "Data:\n"

-- a body that is data: a text, and behind it what is sent of a dataset
abbrev pub data_behind_text : List ℕ → Shown → List Sent → Body
data_behind_text front shown sent = record {
  kind = Data;
  bytes = record { front = front; source = Some shown; sent = sent };
}

abbrev pub data_body : Shown → Target → Projected → Body
data_body shown target projected = data_behind_text (before_data target projected) shown projected.sent

-- a body within the limit
unfoldable pub within_limit : Body → Result Body DapFault
within_limit body =
    if nat_lt MAX_BODY (length (bytes_of body.bytes))
    then Err (TooLarge (length (bytes_of body.bytes)) MAX_BODY)
    else Ok body

-- the structure text of what is sent of declarations for the constraint of a target, and the parts that are sent
abbrev pub text_asked : List Decl → Target → Result (List ℕ × List Sent) DapFault
text_asked decls target = do
  projected ← projected_of decls target.constraint
  Ok (structure_of target projected, projected.sent)

-- the structure text of declarations for the constraint of a target
abbrev pub structure_by : List Decl → Target → Result Body DapFault
structure_by decls target = do
  projected ← projected_of decls target.constraint
  within_limit (text_body Structure (structure_of target projected))

-- the structure text that a target asks for, its attribute text, and its data, or the first fault
unfoldable pub structure_asked : Proto → List Loaded → Target → Result Body DapFault
structure_asked proto files target = do
  count ← some_rows (length (rows files target.view))
  structure_by (decls_of proto count) target

unfoldable pub attributes_asked : Proto → List Loaded → Target → Result Body DapFault
attributes_asked proto files target = do
  count ← some_rows (length (rows files target.view))
  within_limit (text_body Attributes (das_of proto target.view))

-- the text before the data that a target asks for of declarations, and what is sent of them
abbrev pub sent_asked : List Decl → Target → Result (List ℕ × List Sent) DapFault
sent_asked decls target = do
  projected ← projected_of decls target.constraint
  Ok (before_data target projected, projected.sent)

-- the data that a target asks for of a dataset
abbrev pub dataset_sent : Shown → Target → Result Body DapFault
dataset_sent shown target = do
  projected ← projected_of (decls_of shown.proto (length shown.rows)) target.constraint
  within_limit (data_body shown target projected)

unfoldable pub data_asked : Proto → List Loaded → Target → Result Body DapFault
data_asked proto files target = do
  shown ← some_shown proto files target
  dataset_sent shown target

-- the body that a target asks for over a collection, or the first fault
unfoldable pub body_of : Proto → List Loaded → Target → Result Body DapFault
body_of proto files target = by_service target.service
  where
    by_service : Service → Result Body DapFault
    by_service Dds = structure_asked proto files target
    by_service Das = attributes_asked proto files target
    by_service Dods = data_asked proto files target
