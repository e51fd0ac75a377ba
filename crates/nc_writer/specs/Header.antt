-- The header of a file of a view, field by field (NetCDF Classic Format Specification, "The Format in Detail"): padding
-- is zero, there are no records, and the data of the variables follows the header in their order.
use Rattle.std.specs.Prelude.{ℕ, ◌+◌, List, [], ◌∷◌, ◌++◌, codes, length, map, ◌==◌, if◌then◌else◌}
use Rattle.std.specs.Int.{w32, w64, to_be_bytes}
use Rattle.std.specs.List.{flat_map}
use Rattle.nc_model.specs.declared.header.Attr.{Attr}
use Rattle.nc_model.specs.declared.header.Dim.{Dim}
use Rattle.nc_model.specs.declared.header.Header.{Header}
use Rattle.nc_model.specs.declared.header.NcVar.{NcVar}
use Rattle.nc_model.specs.Format.{ATTRIBUTE_TAG, DIMENSION_TAG, VARIABLE_TAG}
use Rattle.nc_model.specs.Kind.{code_of}
use Rattle.fm_gen.specs.Fields.{counted, dim_text, no_list, padding, tagged, var_front, word}
use Rattle.fm_dataset.specs.Values.{Shown}
use Rattle.dap_das.specs.AttributeText.{value_count}
use Rattle.nc_writer.specs.declared.variable.Variable.{Variable}
use Rattle.nc_writer.specs.Attributes.{attributes_of}
use Rattle.nc_writer.specs.Data.{data_len, file_kind}
use Rattle.nc_writer.specs.Dims.{dim_number}

-- the tag of a list and the number of its items; a list without items is two zero words
unfoldable pub list_front : ℕ → ℕ → List ℕ
list_front tag count = if count == 0 then no_list else tagged tag count

-- a list of items
abbrev pub list_bytes : {A : Type 0} → ℕ → (A → List ℕ) → List A → List ℕ
list_bytes tag item items = list_front tag (length items) ++ flat_map item items

-- a dimension
abbrev pub dim_bytes : Dim → List ℕ
dim_bytes dim = dim_text dim.name dim.size

-- the values of an attribute: how many there are, and their bytes with padding
unfoldable pub values_bytes : Attr → List ℕ
values_bytes attr = word (value_count attr.kind attr.values) ++ attr.values ++ padding (length attr.values)

-- an attribute: its name, its kind, and its values
unfoldable pub attr_bytes : Attr → List ℕ
attr_bytes attr = counted attr.name ++ word (code_of attr.kind) ++ values_bytes attr

-- the offset of a variable's data: four bytes in version 1, and else eight
unfoldable pub begin_bytes : ℕ → ℕ → List ℕ
begin_bytes version begin = if version == 1 then to_be_bytes w32 begin else to_be_bytes w64 begin

-- a variable of a header, and how many bytes its data takes
pub record Placed : Type 0 where
  pub var : NcVar
  pub size : ℕ

-- a variable: its name, its dimensions, its attributes, its kind, the bytes of its data, and their offset
unfoldable pub placed_bytes : ℕ → Placed → List ℕ
placed_bytes version placed = var_front placed.var.name placed.var.dims
    ++ list_bytes ATTRIBUTE_TAG attr_bytes placed.var.attrs
    ++ word (code_of placed.var.kind) ++ word placed.size ++ begin_bytes version placed.var.begin

-- what stands before the variables: `CDF` and the version, the number of records, the dimensions, the attributes of the
-- file, and how many variables there are
unfoldable pub before_vars : ℕ → List Dim → List Attr → ℕ → List ℕ
before_vars version dims attrs count =
    codes "CDF" ++ version ∷ [] ++ word 0 ++ list_bytes DIMENSION_TAG dim_bytes dims
    ++ list_bytes ATTRIBUTE_TAG attr_bytes attrs ++ list_front VARIABLE_TAG count

-- a header of these dimensions, attributes of the file, and variables
unfoldable pub header_bytes : ℕ → List Dim → List Attr → List Placed → List ℕ
header_bytes version dims attrs placed =
    before_vars version dims attrs (length placed) ++ flat_map (placed_bytes version) placed

-- the numbers of a variable's dimensions
unfoldable pub ids_of : List Dim → List Dim → List ℕ
ids_of dims own = map (λ (dim : Dim). dim_number dims dim.name) own

-- a variable of the header, with the offset of its data
unfoldable pub var_of : Shown → List Dim → Variable → ℕ → NcVar
var_of shown dims variable begin = record {
  name = variable.name;
  dims = ids_of dims variable.dims;
  attrs = attributes_of shown variable.name;
  kind = file_kind variable.kind;
  begin = begin;
}

-- a variable with the offset and the length of its data
unfoldable pub placed_at : Shown → List Dim → ℕ → Variable → Placed
placed_at shown dims begin variable = record { var = var_of shown dims variable begin; size = data_len variable }

-- the fields after a variable's attributes: its kind, the bytes of its data, and their offset
unfoldable pub var_end : ℕ → Variable → ℕ → List ℕ
var_end version variable begin =
    word (code_of (file_kind variable.kind)) ++ word (data_len variable) ++ begin_bytes version begin

-- variables whose data stands one after the other from an offset on
unfoldable pub placed_from : Shown → List Dim → ℕ → List Variable → List Placed
placed_from shown dims begin [] = []
placed_from shown dims begin (variable ∷ more) =
    placed_at shown dims begin variable ∷ placed_from shown dims (begin + data_len variable) more

-- the header of variables whose data begins at an offset
unfoldable pub front_from : Shown → ℕ → List Dim → List Variable → ℕ → List ℕ
front_from shown version dims variables begin =
    header_bytes version dims shown.proto.attrs (placed_from shown dims begin variables)

-- the header of variables whose data follows it
unfoldable pub front_of : Shown → ℕ → List Dim → List Variable → List ℕ
front_of shown version dims variables =
    front_from shown version dims variables (length (front_from shown version dims variables 0))

-- what the header says
unfoldable pub header_of : Shown → ℕ → List Dim → List Variable → Header
header_of shown version dims variables = record {
  version = version;
  numrecs = 0;
  dims = dims;
  attrs = shown.proto.attrs;
  vars = map (λ (placed : Placed). placed.var)
      (placed_from shown dims (length (front_of shown version dims variables)) variables);
}
