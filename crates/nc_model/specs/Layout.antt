-- The offsets of the elements of a file's variables, and the first fault of a layout (NetCDF Classic Format
-- Specification, "Computing File Offsets").
use Rattle.std.specs.Prelude.{ℕ, ◌+◌, ◌-◌, ◌*◌, ◌^◌, List, [], ◌∷◌, take, drop, map, filter, sum_by, Option, Some, None, slice_get, slice_index, Bool, false, nat_lt, not, ◌==◌, if◌then◌else◌, ◌<◌}
use Rattle.std.specs.List.{AllZip, flat_map, range_with_len}
use Rattle.std.specs.Option.{option_map_or, option_or}
use Rattle.nc_model.specs.declared.fault.LayoutFault.{LayoutFault}
use Rattle.nc_model.specs.declared.fault.LayoutFault.TheVariants.{TooLarge, DataOutside}
use Rattle.nc_model.specs.declared.header.Dim.{Dim}
use Rattle.nc_model.specs.declared.header.Header.{Header}
use Rattle.nc_model.specs.declared.header.NcVar.{NcVar}
use Rattle.nc_model.specs.Format.{padded_len, is_record_dim}
use Rattle.nc_model.specs.Kind.{size_of}
use Rattle.nc_model.specs.Reading.{names_record_dim}

-- the length of a dimension, which is the number of records for the record dimension
abbrev pub size_in : Header → Dim → ℕ
size_in header dim = if is_record_dim dim then header.numrecs else dim.size

-- the length of the dimension of this number
abbrev pub size_at : Header → ℕ → ℕ
size_at header id = option_map_or (size_in header) (slice_get header.dims id) 0

-- the lengths of a variable's dimensions
abbrev pub shape_of : Header → NcVar → List ℕ
shape_of header var = map (size_at header) var.dims

-- whether the first dimension of a variable is the record dimension
abbrev pub is_record_var : Header → NcVar → Bool
is_record_var header var = option_map_or (names_record_dim header.dims) (slice_get var.dims 0) false

-- the lengths of a variable's dimensions but for the record dimension
abbrev pub fixed_shape : Header → NcVar → List ℕ
fixed_shape header var = if is_record_var header var then drop 1 (shape_of header var) else shape_of header var

-- the product of some lengths
unfoldable pub product : List ℕ → ℕ
product [] = 1
product (n ∷ ns) = n * product ns

-- how many bytes a variable takes in one record, or in all where it has no records, without padding
unfoldable pub vsize : Header → NcVar → ℕ
vsize header var = size_of var.kind * product (fixed_shape header var)

-- the record variables
abbrev pub record_vars : Header → List NcVar
record_vars header = filter (is_record_var header) header.vars

-- how many bytes one record of these variables takes: each is padded to a multiple of four, but for a lone variable
-- of a kind smaller than four bytes
abbrev pub record_size_of : Header → List NcVar → ℕ
record_size_of header [] = 0
record_size_of header (var ∷ []) =
    if nat_lt (size_of var.kind) 4 then vsize header var else padded_len (vsize header var)
record_size_of header (var ∷ other ∷ more) = sum_by (λ v. padded_len (vsize header v)) (var ∷ other ∷ more)

unfoldable pub record_size : Header → ℕ
record_size header = record_size_of header (record_vars header)

-- an index list of an array of this shape: each index is below the length of its dimension, and there is one for each
abbrev pub IsIndex : List ℕ → List ℕ → Type 0
IsIndex shape index = AllZip (λ n i. i < n) shape index

-- the number of an index list in row-major order, the last index varying fastest
unfoldable pub rank_in : List ℕ → List ℕ → ℕ
rank_in [] index = 0
rank_in (n ∷ shape) [] = 0
rank_in (n ∷ shape) (i ∷ index) = i * product shape + rank_in shape index

-- the offset in the file of the first byte of an element
unfoldable pub offset_of : Header → NcVar → List ℕ → ℕ
offset_of header var index =
    if is_record_var header var
    then var.begin + slice_index index 0 * record_size header
    + size_of var.kind * rank_in (fixed_shape header var) (drop 1 index)
    else var.begin + size_of var.kind * rank_in (fixed_shape header var) index

-- the bytes of an element
unfoldable pub element : List ℕ → Header → NcVar → List ℕ → List ℕ
element bytes header var index = take (size_of var.kind) (drop (offset_of header var index) bytes)

-- all index lists of an array of this shape, in row-major order
unfoldable pub indices_of : List ℕ → List (List ℕ)
indices_of [] = [] ∷ []
indices_of (n ∷ shape) =
    flat_map (λ (i : ℕ). map (λ (index : List ℕ). i ∷ index) (indices_of shape)) (range_with_len 0 n)

-- the bytes of all elements of a variable, in row-major order
unfoldable pub elements_of : List ℕ → Header → NcVar → List ℕ
elements_of bytes header var = flat_map (element bytes header var) (indices_of (shape_of header var))

-- the index list of the last element
abbrev pub last_index : Header → NcVar → List ℕ
last_index header var = map (λ n. n - 1) (shape_of header var)

-- where the last element ends, of a variable that has one
abbrev pub end_of : Header → NcVar → ℕ
end_of header var = offset_of header var (last_index header var) + size_of var.kind

-- whether a variable has an element
abbrev pub has_elements : Header → NcVar → Bool
has_elements header var = not (product (shape_of header var) == 0)

-- whether a variable takes more than 2^40 bytes in one record, or in all where it has no records
abbrev pub is_too_large : Header → NcVar → Bool
is_too_large header var = nat_lt (2 ^ 40) (vsize header var)

-- whether a variable has an element that ends past this length
abbrev pub is_outside : Header → ℕ → NcVar → Bool
is_outside header len var = if has_elements header var then nat_lt len (end_of header var) else false

-- the first of the variables from this number on that is too large
unfoldable pub first_too_large : Header → ℕ → List NcVar → Option LayoutFault
first_too_large header n [] = None
first_too_large header n (var ∷ vars) =
    if is_too_large header var then Some (TooLarge n) else first_too_large header (n + 1) vars

-- the first of the variables from this number on that lies outside
unfoldable pub first_outside : Header → ℕ → ℕ → List NcVar → Option LayoutFault
first_outside header len n [] = None
first_outside header len n (var ∷ vars) =
    if is_outside header len var
    then Some (DataOutside n (end_of header var) len)
    else first_outside header len (n + 1) vars

-- the first fault of the layout of a file of this length: a variable that is too large comes before one outside
unfoldable pub layout_fault : Header → ℕ → Option LayoutFault
layout_fault header len = option_or (first_too_large header 0 header.vars) (first_outside header len 0 header.vars)
