-- The body of the two-dimensional view of a collection, or the first fault (ESE-RFC-004).
use Rattle.std.specs.Prelude.{ℕ, List, [], ◌∷◌, ◌++◌, length, codes, Bool, nat_lt, if◌then◌else◌, Result, Ok, Err}
use Rattle.fm_base.specs.Chain.{◌>>=◌}
use Rattle.fm_model.specs.declared.loaded.Loaded.{Loaded}
use Rattle.fm_model.specs.declared.proto.Proto.{Proto}
use Rattle.fm_model.specs.declared.row.Row.{Row}
use Rattle.fm_edition.specs.Held.{Held}
use Rattle.dap_model.specs.declared.projection.Projected.{Projected}
use Rattle.dap_model.specs.declared.projection.Sent.{Sent}
use Rattle.dap_model.specs.StructureText.{dds_of}
use Rattle.dap_reply.specs.declared.fault.DapFault.{DapFault}
use Rattle.dap_reply.specs.declared.fault.DapFault.TheVariants.{NoRows, TooLarge}
use Rattle.dap_reply.specs.Body.{projected_of, MAX_BODY}
use Rattle.fm_twod.specs.declared.asked.TwodAsk.{TwodAsk}
use Rattle.fm_twod.specs.Cells.{cells_of}
use Rattle.fm_twod.specs.Laid.{decls_in, laid_of, Laid}
use Rattle.fm_twod.specs.Parts.{bytes_of, Body}

-- a collection with a cell, as it is laid out
abbrev pub laid_with : Proto → List Loaded → List Row → Result Laid DapFault
laid_with proto files [] = Err NoRows
laid_with proto files (row ∷ others) = Ok (laid_of proto files)

unfoldable pub some_laid : Held → Result Laid DapFault
some_laid held = laid_with held.proto held.files (cells_of held.files)

-- the name of the view, which ends its structure text
unfoldable pub label_of : Proto → List ℕ
label_of proto = proto.site.name ++ codes "_fmrc"

-- the bytes before the data: the structure text of what is sent, and a line where data follows
unfoldable pub front_of : Bool → Proto → Projected → List ℕ
front_of with_values proto projected =
    if with_values
    then dds_of (label_of proto) projected.decls ++ codes "Data:\n"
    else dds_of (label_of proto) projected.decls

-- the parts whose values are sent
unfoldable pub sent_of : Bool → Projected → List Sent
sent_of with_values projected = if with_values then projected.sent else []

-- what is sent of a view
unfoldable pub body_of : Bool → Laid → Projected → Body
body_of with_values laid projected = record {
  front = front_of with_values laid.cells.proto projected;
  laid = laid;
  sent = sent_of with_values projected;
}

-- a body within the limit
unfoldable pub within_limit : Body → Result Body DapFault
within_limit body =
    if nat_lt MAX_BODY (length (bytes_of body)) then Err (TooLarge (length (bytes_of body)) MAX_BODY) else Ok body

-- the body that is asked for over a collection, or the first fault
unfoldable pub twod_of : Held → TwodAsk → Result Body DapFault
twod_of held ask = do
  laid ← some_laid held
  projected ← projected_of (decls_in laid) ask.constraint
  within_limit (body_of ask.with_values laid projected)
