-- Which variables a file of a view has: the parts that are sent, in their order, each name once (ESE-RFC-004,
-- constraint expressions; NetCDF Users Guide, variables of characters).
use Rattle.std.specs.Prelude.{ℕ, List, [], ◌∷◌, ◌++◌, codes, length, map, find, max, Bool, false, true, if◌then◌else◌, Option, Some, None, Result, Ok, Err}
use Rattle.std.specs.Cmp.Lexicographic.{pointwise}
use Rattle.std.specs.List.{zip}
use Rattle.std.specs.Option.{option_map, option_map_or}
use Rattle.std.specs.Str.{bytes_eq}
use Rattle.fm_base.specs.Chain.{◌>>=◌}
use Rattle.nc_model.specs.declared.header.Dim.{Dim}
use Rattle.dap_model.specs.declared.declaration.Array.{Array}
use Rattle.dap_model.specs.declared.declaration.DapKind.{DapKind}
use Rattle.dap_model.specs.declared.declaration.DapKind.TheVariants.{Byte, Int16, Int32, Float32, Float64, Text}
use Rattle.dap_model.specs.declared.projection.Sent.{Sent}
use Rattle.dap_model.specs.declared.projection.Slab.{Slab}
use Rattle.dap_model.specs.Box.{box_of}
use Rattle.dap_model.specs.ClauseFaults.{is_same_slab}
use Rattle.dap_model.specs.Projection.{cut_dim}
use Rattle.dap_xdr.specs.Content.{array_in, Content}
use Rattle.nc_writer.specs.declared.fault.WriteFault.{WriteFault}
use Rattle.nc_writer.specs.declared.fault.WriteFault.TheVariants.{SlabsDiffer}
use Rattle.nc_writer.specs.declared.variable.Variable.{Variable}

-- whether values are texts
unfoldable pub is_text : DapKind → Bool
is_text Byte = false
is_text Int16 = false
is_text Int32 = false
is_text Float32 = false
is_text Float64 = false
is_text Text = true

-- the name of the dimension of the characters of a text, by that of the text's variable
unfoldable pub characters_name : List ℕ → List ℕ
characters_name name = name ++ codes "_strlen"

-- how many characters the longest of some texts has, and 1 where each is empty
unfoldable pub longest : List (List ℕ) → ℕ
longest [] = 1
longest (text ∷ texts) = max (length text) (longest texts)

-- the texts that are sent of a part
abbrev pub texts_sent : Content → Sent → List (List ℕ)
texts_sent content sent = map (content.text sent.decl sent.part) (box_of sent.slabs)

-- how many characters a text of a part has in the file; 1 for numbers
unfoldable pub width_of : Content → DapKind → Sent → ℕ
width_of content kind sent = if is_text kind then longest (texts_sent content sent) else 1

-- the dimension of the characters of texts
unfoldable pub characters_dims : List ℕ → DapKind → ℕ → List Dim
characters_dims name kind width =
    if is_text kind then (record { name = characters_name name; size = width } ∷ []) else []

-- an array with the slabs that are sent of it, as a variable
unfoldable pub variable_with : Sent → Array → ℕ → Variable
variable_with sent array width = record {
  name = array.name;
  kind = array.kind;
  dims = map cut_dim (zip array.dims sent.slabs) ++ characters_dims array.name array.kind width;
  sent = sent;
  width = width;
}

-- a part that is sent, as a variable
unfoldable pub variable_of : Content → Sent → Array → Variable
variable_of content sent array = variable_with sent array (width_of content array.kind sent)

-- whether a variable has this name
abbrev pub has_name : List ℕ → Variable → Bool
has_name name variable = bytes_eq variable.name name

-- whether the variable of a name has these slabs, where there is one
unfoldable pub has_slabs : List Variable → List ℕ → List Slab → Option Bool
has_slabs found name slabs =
    option_map (λ (variable : Variable). pointwise is_same_slab variable.sent.slabs slabs) (find (has_name name) found)

-- one part more: a part of a name that stands already adds nothing, and has to have the same slabs
abbrev pub add_known : Content → List Variable → Sent → Array → Option Bool → Result (List Variable) WriteFault
add_known content found sent array None = Ok (found ++ variable_of content sent array ∷ [])
add_known content found sent array (Some true) = Ok found
add_known content found sent array (Some false) = Err (SlabsDiffer array.name)

unfoldable pub add_part : Content → List Variable → Sent → Array → Result (List Variable) WriteFault
add_part content found sent array = add_known content found sent array (has_slabs found array.name sent.slabs)

unfoldable pub add_sent : Content → List Variable → Sent → Result (List Variable) WriteFault
add_sent content found sent =
    option_map_or (add_part content found sent) (array_in content.decls sent.decl sent.part) (Ok found)

-- the variables of parts, after those that were found; or the first name that stands with two lists of slabs
unfoldable pub variables_from : Content → List Variable → List Sent → Result (List Variable) WriteFault
variables_from content found [] = Ok found
variables_from content found (sent ∷ more) = add_sent content found sent >>= λ next. variables_from content next more
