-- The structure text of a dataset (ESE-RFC-004, DDS).
use Rattle.std.specs.Prelude.{ℕ, ◌+◌, ◌*◌, List, ◌++◌, codes, decimal, replicate}
use Rattle.std.specs.List.{flat_map}
use Rattle.nc_model.specs.declared.header.Dim.{Dim}
use Rattle.dap_model.specs.declared.declaration.Array.{Array}
use Rattle.dap_model.specs.declared.declaration.DapKind.{DapKind}
use Rattle.dap_model.specs.declared.declaration.DapKind.TheVariants.{Byte, Int16, Int32, Float32, Float64, Text}
use Rattle.dap_model.specs.declared.declaration.Decl.{Decl}
use Rattle.dap_model.specs.declared.declaration.Decl.TheVariants.{Plain, Grid, Structure}

-- the word of a kind
unfoldable pub kind_text : DapKind → List ℕ
kind_text Byte = codes "Byte"
kind_text Int16 = codes "Int16"
kind_text Int32 = codes "Int32"
kind_text Float32 = codes "Float32"
kind_text Float64 = codes "Float64"
kind_text Text = codes "String"

-- four spaces for each level
unfoldable pub indent : ℕ → List ℕ
indent depth = replicate (4 * depth) 32

-- a dimension: `[time = 3]`
unfoldable pub dim_text : Dim → List ℕ
dim_text dim = codes "[" ++ dim.name ++ codes " = " ++ decimal dim.size ++ codes "]"

-- dimensions one after the other
unfoldable pub dims_text : List Dim → List ℕ
dims_text dims = flat_map dim_text dims

-- the line of an array
unfoldable pub array_text : ℕ → Array → List ℕ
array_text depth array =
    indent depth ++ kind_text array.kind ++ codes " " ++ array.name ++ dims_text array.dims ++ codes ";\n"

-- arrays, each on its line
unfoldable pub arrays_text : ℕ → List Array → List ℕ
arrays_text depth arrays = flat_map (array_text depth) arrays

-- a line of fixed words
unfoldable pub line_text : ℕ → List ℕ → List ℕ
line_text depth words = indent depth ++ words ++ codes "\n"

-- the line that ends a declaration of several lines
unfoldable pub close_text : ℕ → List ℕ → List ℕ
close_text depth name = indent depth ++ codes "} " ++ name ++ codes ";\n"

-- a Grid: its array and its maps, each under a line of its own
unfoldable pub grid_text : ℕ → List ℕ → Array → List Array → List ℕ
grid_text depth name array maps =
    line_text depth (codes "Grid {")
    ++ line_text (depth + 1) (codes "ARRAY:")
    ++ array_text (depth + 2) array
    ++ line_text (depth + 1) (codes "MAPS:")
    ++ arrays_text (depth + 2) maps
    ++ close_text depth name

-- a Structure and its members
unfoldable pub structure_text : ℕ → List ℕ → List Array → List ℕ
structure_text depth name members =
    line_text depth (codes "Structure {") ++ arrays_text (depth + 1) members ++ close_text depth name

-- a declaration, by its case
unfoldable pub decl_text : ℕ → Decl → List ℕ
decl_text depth (Plain array) = array_text depth array
decl_text depth (Grid name array maps) = grid_text depth name array maps
decl_text depth (Structure name members) = structure_text depth name members

-- declarations one after the other
unfoldable pub decls_text : ℕ → List Decl → List ℕ
decls_text depth decls = flat_map (decl_text depth) decls

-- the whole text of a dataset with this label
unfoldable pub dds_of : List ℕ → List Decl → List ℕ
dds_of label decls = line_text 0 (codes "Dataset {") ++ decls_text 1 decls ++ close_text 0 label
