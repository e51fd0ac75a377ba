-- The values of a dataset (ESE-RFC-004, data model; THREDDS Data Server, Forecast Model Run Collections): each is an
-- element of the variable of that name in the file of its row, by the layout of the file's own header.
use Rattle.std.specs.Prelude.{◌≡◌, ◌≢◌, ℕ, zero, suc, ◌-◌, ◌*◌, ◌^◌, ◌<◌, ◌≤◌, ◌==◌, List, [], ◌∷◌, ◌++◌, length, map, take, drop, slice_get, slice_index, Some, nat_lt, Bool, not, ◌&&◌, if◌then◌else◌, Option, option_and_then, IsSomeAnd, IfSome, All, Ok, ℤ, ◌-ℤ◌, false}
use Rattle.std.specs.Int.{w32, cast_unsigned, from_be_bytes}
use Rattle.std.specs.List.{flat_map}
use Rattle.std.specs.Option.{option_map_or}
use Rattle.std.specs.Result.{result_unwrap_or}
use Rattle.nc_model.specs.declared.header.Dim.{Dim}
use Rattle.fm_base.specs.Chain.{◌>>=◌}
use Rattle.nc_model.specs.Kind.{size_of}
use Rattle.nc_model.specs.Layout.{element, indices_of, product, rank_in, IsIndex}
use Rattle.nc_model.specs.Pattern.{width_of}
use Rattle.fm_model.specs.declared.loaded.Loaded.{Loaded}
use Rattle.fm_model.specs.declared.proto.Proto.{Proto}
use Rattle.fm_model.specs.declared.proto.ProtoVar.{ProtoVar}
use Rattle.fm_model.specs.declared.row.Row.{Row}
use Rattle.fm_model.specs.declared.row.ViewName.{ViewName}
use Rattle.fm_model.specs.declared.row.ViewName.TheVariants.{Best, BestFrom, Run, Offset, Forecast}
use Rattle.fm_model.specs.Attribute.{trimmed}
use Rattle.fm_model.specs.LoadAxis.{file_header, file_var}
use Rattle.fm_model.specs.Prototype.{lengths_of}
use Rattle.dap_model.specs.declared.declaration.Array.{Array}
use Rattle.dap_model.specs.declared.declaration.DapKind.TheVariants.{Text}
use Rattle.dap_model.specs.declared.declaration.Decl.{Decl}
use Rattle.dap_model.specs.Picking.{parts_of}
use Rattle.fm_dataset.specs.Declarations.{array_dims, array_of, coordinate_of, decls_of, is_axis_of}

-- what a dataset shows: the rows of a view of a prototype's collection, under a label
pub record Shown : Type 0 where
  pub proto : Proto
  pub rows : List Row
  pub view : ViewName
  pub label : List ℕ

-- the time that the axis shows of a row: its run in the dataset of a constant forecast time, else its valid time
abbrev pub axis_time : ViewName → Row → ℤ
axis_time Best row = row.valid
axis_time (BestFrom least) row = row.valid
axis_time (Run run) row = row.valid
axis_time (Offset seconds) row = row.valid
axis_time (Forecast valid) row = row.run

-- the run of a row
abbrev pub run_time : Row → ℤ
run_time row = row.run

-- the offset of a row: its valid time less its run
abbrev pub offset_time : Row → ℤ
offset_time row = row.valid -ℤ row.run

-- the bits of a time of the row that the first index picks
unfoldable pub time_bits : List Row → (Row → ℤ) → List ℕ → ℕ
time_bits rows time index =
    option_map_or (λ row. cast_unsigned w32 (time row)) (slice_get rows (slice_index index 0)) 0

-- an element of the variable of a name in a file, by the layout of the file's own header
unfoldable pub element_in : Loaded → List ℕ → List ℕ → List ℕ
element_in file name index = result_unwrap_or (do
  header ← file_header file.content
  var ← file_var header name
  Ok (element file.content header var index)) []

-- an element of a variable along the axis: the first index picks a row, and the others are those at its index
unfoldable pub element_along : List Row → ProtoVar → List ℕ → List ℕ
element_along rows var index =
    option_map_or (λ (row : Row). element_in row.file var.name (row.index ∷ drop 1 index))
    (slice_get rows (slice_index index 0)) []

-- an element of a variable without time, which the prototype has
unfoldable pub element_fixed : Proto → ProtoVar → List ℕ → List ℕ
element_fixed proto var index =
    take (size_of var.kind) (drop (size_of var.kind * rank_in (lengths_of proto var.dims) index) var.fixed)

-- an element of a variable
unfoldable pub element_of : Proto → List Row → ProtoVar → List ℕ → List ℕ
element_of proto rows var index =
    if var.timed then element_along rows var index else element_fixed proto var index

-- the bits of a number of a variable
unfoldable pub var_bits : Proto → List Row → ViewName → ProtoVar → List ℕ → ℕ
var_bits proto rows view var index =
    if is_axis_of proto var
    then time_bits rows (axis_time view) index
    else from_be_bytes (width_of var.kind) (element_of proto rows var index)

-- the characters of a variable along the last dimension, or its one character
unfoldable pub characters : Proto → List Row → ProtoVar → List ℕ → List ℕ
characters proto rows var index = flat_map (λ more. element_of proto rows var (index ++ more))
    (indices_of (drop (length index) (lengths_of proto var.dims)))

-- the text of a variable: its characters without the zero bytes at the end
abbrev pub var_text : Proto → List Row → ProtoVar → List ℕ → List ℕ
var_text proto rows var index = trimmed (characters proto rows var index)

-- the numbers of the dimensions along which the elements of one row lie: all but the axis's
abbrev pub row_dims : ProtoVar → List ℕ
row_dims var = if var.timed then drop 1 var.dims else var.dims

-- their lengths
abbrev pub row_shape : Proto → ProtoVar → List ℕ
row_shape proto var = lengths_of proto (row_dims var)

-- an index list within a row
abbrev pub row_index : ProtoVar → List ℕ → List ℕ
row_index var index = if var.timed then drop 1 index else index

-- the index lists of the row that an index list picks, or all of a variable without time, in row-major order
unfoldable pub indices_in_row : Proto → ProtoVar → List ℕ → List (List ℕ)
indices_in_row proto var index =
    if var.timed
    then map (λ (rest : List ℕ). slice_index index 0 ∷ rest) (indices_of (row_shape proto var))
    else indices_of (row_shape proto var)

-- the index lists that follow an index list in its row, itself the first
unfoldable pub indices_from : Proto → ProtoVar → List ℕ → List (List ℕ)
indices_from proto var index =
    drop (rank_in (row_shape proto var) (row_index var index)) (indices_in_row proto var index)

-- how many index lists these are
abbrev pub left_in_row : Proto → ProtoVar → List ℕ → ℕ
left_in_row proto var index = product (row_shape proto var) - rank_in (row_shape proto var) (row_index var index)

-- the bytes of at most `most` elements of a variable, from an index list on
unfoldable pub var_raw : Proto → List Row → ProtoVar → List ℕ → ℕ → List ℕ
var_raw proto rows var index most =
    flat_map (element_of proto rows var) (take most (indices_from proto var index))

-- the variable that is a part of a declaration: its own, or the coordinate variable of a dimension of its array
unfoldable pub var_of_part : Proto → ℕ → ℕ → Option ProtoVar
var_of_part proto decl zero = slice_get proto.vars decl
var_of_part proto decl (suc map) = option_and_then
    (λ (var : ProtoVar). option_and_then (coordinate_of proto) (slice_get (array_dims var) map))
    (slice_get proto.vars decl)

-- the bits of a number of a part: after those of the variables come the declarations of the runs and the offsets
unfoldable pub bits_of : Shown → ℕ → ℕ → List ℕ → ℕ
bits_of shown decl part index =
    if nat_lt decl (length shown.proto.vars)
    then option_map_or (λ var. var_bits shown.proto shown.rows shown.view var index)
    (var_of_part shown.proto decl part) 0
    else time_bits shown.rows (if decl == length shown.proto.vars then run_time else offset_time) index

-- the text of a part
unfoldable pub text_of_part : Shown → ℕ → ℕ → List ℕ → List ℕ
text_of_part shown decl part index =
    option_map_or (λ var. var_text shown.proto shown.rows var index) (var_of_part shown.proto decl part) []

-- the bytes of at most `most` elements of a part as they stand in a file or in the prototype, from an index list on
unfoldable pub raw_of : Shown → ℕ → ℕ → List ℕ → ℕ → List ℕ
raw_of shown decl part index most =
    option_map_or (λ var. var_raw shown.proto shown.rows var index most) (var_of_part shown.proto decl part) []

-- the array that is a part of a declaration
unfoldable pub array_at : Shown → ℕ → ℕ → Option Array
array_at shown decl part = option_and_then (λ (found : Decl). slice_get (parts_of found) part)
    (slice_get (decls_of shown.proto (length shown.rows)) decl)

-- the array of a part is that of the variable that the part's values are of
pub record IsPart (proto : Proto) (count decl part : ℕ) (array : Array) : Type 0 where
  pub var : ProtoVar
  pub var_is : var_of_part proto decl part ≡ Some var
  pub array_is : array ≡ array_of proto count var

-- the lengths of an array's dimensions
abbrev pub shape_of_array : Array → List ℕ
shape_of_array array = map (λ (dim : Dim). dim.size) array.dims

-- an array has few dimensions, none of them empty, and few elements
pub record IsSmall (array : Array) : Type 0 where
  pub rank : length array.dims ≤ 1025
  pub sizes : All (λ (dim : Dim). 1 ≤ dim.size) array.dims
  pub few : product (shape_of_array array) < 2 ^ 64

-- an array is of numbers, and has this index
pub record HasNumberAt (index : List ℕ) (array : Array) : Type 0 where
  pub number : array.kind ≢ Text
  pub index_is : IsIndex (shape_of_array array) index

-- an array is of texts, and has this index
pub record HasTextAt (index : List ℕ) (array : Array) : Type 0 where
  pub text : array.kind ≡ Text
  pub index_is : IsIndex (shape_of_array array) index

-- a part is of numbers, and has this index
abbrev pub HasNumber : Shown → ℕ → ℕ → List ℕ → Type 0
HasNumber shown decl part index = IsSomeAnd (array_at shown decl part) (HasNumberAt index)

-- a part is of texts, and has this index
abbrev pub HasText : Shown → ℕ → ℕ → List ℕ → Type 0
HasText shown decl part index = IsSomeAnd (array_at shown decl part) (HasTextAt index)

-- whether the numbers of a part stand in files or in the prototype,
-- as those of the axis, the runs and the offsets don't
unfoldable pub is_stored : Shown → ℕ → ℕ → Bool
is_stored shown decl part = nat_lt decl (length shown.proto.vars)
    && not (option_map_or (is_axis_of shown.proto) (var_of_part shown.proto decl part) false)

-- a part is of numbers that stand in files or in the prototype, as those of the axis, the runs and the offsets don't,
-- and has this index
pub record HasStored (shown : Shown) (decl part : ℕ) (index : List ℕ) : Type 0 where
  pub has : HasNumber shown decl part index
  pub of_variable : decl < length shown.proto.vars
  pub other : IfSome (var_of_part shown.proto decl part) (λ var. is_axis_of shown.proto var ≡ false)
