-- The declarations of a view of a collection (ESE-RFC-004, data model; THREDDS Data Server, Forecast Model Run
-- Collections): the prototype's variables, and then the run and the offset of each row.
use Rattle.std.specs.Prelude.{ℕ, ◌-◌, ◌==◌, List, [], ◌∷◌, ◌++◌, length, map, take, drop, find, slice_get, Bool, false, not, ◌&&◌, ◌||◌, if◌then◌else◌, Option, unwrap_or}
use Rattle.std.specs.List.{filter_map}
use Rattle.std.specs.Str.{bytes_eq}
use Rattle.nc_model.specs.declared.header.Dim.{Dim}
use Rattle.nc_model.specs.declared.kind.Kind.{Kind}
use Rattle.nc_model.specs.declared.kind.Kind.TheVariants as kinds
use Rattle.fm_model.specs.declared.proto.Proto.{Proto}
use Rattle.fm_model.specs.declared.proto.ProtoVar.{ProtoVar}
use Rattle.fm_model.specs.Attribute.{is_char}
use Rattle.fm_model.specs.Prototype.{offset_name, run_name}
use Rattle.fm_model.specs.Variable.{are_same, is_coordinate, lies_along}
use Rattle.dap_model.specs.declared.declaration.Array.{Array}
use Rattle.dap_model.specs.declared.declaration.DapKind.{DapKind}
use Rattle.dap_model.specs.declared.declaration.DapKind.TheVariants.{Byte, Int16, Int32, Float32, Float64, Text}
use Rattle.dap_model.specs.declared.declaration.Decl.{Decl}
use Rattle.dap_model.specs.declared.declaration.Decl.TheVariants.{Plain, Grid}

-- the kind as which values of a kind are sent
abbrev pub dap_kind_of : Kind → DapKind
dap_kind_of kinds.Byte = Byte
dap_kind_of kinds.Char = Text
dap_kind_of kinds.Short = Int16
dap_kind_of kinds.Int = Int32
dap_kind_of kinds.Float = Float32
dap_kind_of kinds.Double = Float64

-- whether a variable is the axis of a prototype
abbrev pub is_axis_of : Proto → ProtoVar → Bool
is_axis_of proto var = bytes_eq var.name proto.axis

-- the kind as which a variable is sent: the axis is shown in whole seconds from the epoch, whatever its kind
unfoldable pub kind_in : Proto → ProtoVar → DapKind
kind_in proto var = if is_axis_of proto var then Int32 else dap_kind_of var.kind

-- the numbers of the dimensions of a variable's array: the characters along the last dimension are one text
unfoldable pub array_dims : ProtoVar → List ℕ
array_dims var = if is_char var.kind then take (length var.dims - 1) var.dims else var.dims

-- the dimension of a number; past the last there is none, and nothing names one
unfoldable pub dim_at : Proto → ℕ → Dim
dim_at proto id = unwrap_or (slice_get proto.dims id) (record { name = []; size = 0 })

-- the dimension of the axis, which has the rows of a view along it
abbrev pub rows_dim : Proto → ℕ → Dim
rows_dim proto count = record { name = proto.axis; size = count }

-- the dimensions of a variable's array in a view with this many rows: those along the axis come first
unfoldable pub dims_in : Proto → ℕ → ProtoVar → List Dim
dims_in proto count var =
    if var.timed
    then rows_dim proto count ∷ map (dim_at proto) (drop 1 (array_dims var))
    else map (dim_at proto) (array_dims var)

-- the array of a variable in a view with this many rows
unfoldable pub array_of : Proto → ℕ → ProtoVar → Array
array_of proto count var = record { name = var.name; kind = kind_in proto var; dims = dims_in proto count var }

-- whether a number stands twice
unfoldable pub repeats : List ℕ → Bool
repeats [] = false
repeats (id ∷ ids) = lies_along id ids || repeats ids

-- whether a variable is a coordinate variable
abbrev pub is_coordinate_var : Proto → ProtoVar → Bool
is_coordinate_var proto var = is_coordinate proto.dims var.name var.kind var.dims

-- whether a variable is the coordinate variable of the dimension of this number
unfoldable pub is_coordinate_of : Proto → ℕ → ProtoVar → Bool
is_coordinate_of proto id var = are_same var.dims (id ∷ []) && is_coordinate_var proto var

-- the coordinate variable of the dimension of this number
unfoldable pub coordinate_of : Proto → ℕ → Option ProtoVar
coordinate_of proto id = find (is_coordinate_of proto id) proto.vars

-- the coordinate variables of the dimensions of these numbers, where each has one
unfoldable pub coordinates_of : Proto → List ℕ → List ProtoVar
coordinates_of proto ids = filter_map (coordinate_of proto) ids

-- whether each of the dimensions of these numbers has a coordinate variable
abbrev pub have_coordinates : Proto → List ℕ → Bool
have_coordinates proto ids = length (coordinates_of proto ids) == length ids

-- whether a variable's array has a dimension, none of them stands twice, and the variable is no coordinate variable
abbrev pub may_be_grid : Proto → ProtoVar → Bool
may_be_grid proto var = not (length (array_dims var) == 0) && not (is_coordinate_var proto var)
    && not (repeats (array_dims var))

-- whether a variable is a Grid: it may be one, and each dimension of its array has a coordinate variable
unfoldable pub is_grid : Proto → ProtoVar → Bool
is_grid proto var = may_be_grid proto var && have_coordinates proto (array_dims var)

-- the maps of a Grid: the coordinate variables of its array's dimensions
unfoldable pub maps_of : Proto → ℕ → ProtoVar → List Array
maps_of proto count var = map (array_of proto count) (coordinates_of proto (array_dims var))

-- the declaration of a variable
unfoldable pub decl_of : Proto → ℕ → ProtoVar → Decl
decl_of proto count var =
    if is_grid proto var
    then Grid var.name (array_of proto count var) (maps_of proto count var)
    else Plain (array_of proto count var)

-- whole seconds of each row, under a name that the views add
unfoldable pub seconds_of_rows : Proto → ℕ → List ℕ → Decl
seconds_of_rows proto count name = Plain (record { name = name; kind = Int32; dims = rows_dim proto count ∷ [] })

-- the declarations of a view of a prototype's collection with this many rows
unfoldable pub decls_of : Proto → ℕ → List Decl
decls_of proto count = map (decl_of proto count) proto.vars
    ++ seconds_of_rows proto count (run_name proto.axis) ∷ seconds_of_rows proto count (offset_name proto.axis) ∷ []
