-- What a dataset keeps beside what it shows, and what the code asks of a variable whose elements it looks up.
use Rattle.std.specs.Prelude.{◌≡◌, ℕ, ◌+◌, ◌*◌, ◌<◌, ◌≤◌, List, ◌∷◌, length, take, drop, filter, find, slice_get, slice_index, Bool, true, not, ◌&&◌, if◌then◌else◌, Some, All, false}
use Rattle.std.specs.Option.{option_map_or}
use Rattle.std.specs.Str.{bytes_eq}
use Rattle.nc_model.specs.declared.header.Dim.{Dim}
use Rattle.nc_model.specs.Kind.{size_of}
use Rattle.nc_model.specs.Layout.{product, rank_in, IsIndex}
use Rattle.fm_model.specs.declared.loaded.Slot.{Slot}
use Rattle.fm_model.specs.declared.proto.Proto.{Proto}
use Rattle.fm_model.specs.declared.proto.ProtoVar.{ProtoVar}
use Rattle.fm_model.specs.declared.row.Row.{Row}
use Rattle.fm_model.specs.Attribute.{is_char}
use Rattle.fm_model.specs.LoadTimes.{IsInstant}
use Rattle.fm_model.specs.LoadVars.{slotted_vars}
use Rattle.fm_model.specs.Prototype.{lengths_of, HasElements, IsSound}
use Rattle.fm_model.specs.Site.{IsPrototype}
use Rattle.dap_model.specs.declared.declaration.Decl.{Decl}
use Rattle.fm_dataset.specs.Declarations.{coordinate_of, decls_of, is_axis_of, is_coordinate_of}
use Rattle.fm_dataset.specs.Rows.{AreRows, IsRowOf}
use Rattle.fm_dataset.specs.Values.{element_in, element_of, row_dims, row_index, row_shape}

-- the length of the dimension of a number
abbrev pub length_at : Proto → ℕ → ℕ
length_at proto id = option_map_or (λ (dim : Dim). dim.size) (slice_get proto.dims id) 0

-- whether a variable has a slot in each file: it lies along the axis, and isn't the axis
abbrev pub has_slot : Proto → ProtoVar → Bool
has_slot proto var = var.timed && not (bytes_eq var.name proto.axis)

-- how many slots a variable has in each file
abbrev pub slots_in : Proto → ProtoVar → ℕ
slots_in proto var = if has_slot proto var then 1 else 0

-- how many of the first n variables have a slot, which is the number of the next one's
unfoldable pub slot_number : Proto → ℕ → ℕ
slot_number proto n = length (filter (has_slot proto) (take n proto.vars))

-- the numbers of the coordinate variables of all dimensions among the first n variables, each past the last where a
-- dimension has none among these
pub record AreFirstOf (proto : Proto) (n : ℕ) (numbers : List ℕ) : Type 0 where
  pub count : length numbers ≡ length proto.dims
  pub each : (id : ℕ) → id < length proto.dims
      → slice_get proto.vars (slice_index numbers id) ≡ find (is_coordinate_of proto id) (take n proto.vars)

-- the numbers of the coordinate variables of all dimensions, each one past the last where a dimension has none
pub record HasCoordinates (proto : Proto) (numbers : List ℕ) : Type 0 where
  pub count : length numbers ≡ length proto.dims
  pub each : (id : ℕ) → id < length proto.dims
      → slice_get proto.vars (slice_index numbers id) ≡ coordinate_of proto id

-- the numbers of the slots of all variables
pub record HasSlotNumbers (proto : Proto) (numbers : List ℕ) : Type 0 where
  pub count : length numbers ≡ length proto.vars
  pub each : (n : ℕ) → n < length proto.vars → slice_index numbers n ≡ slot_number proto n

-- what a dataset keeps beside the prototype and the rows, so that no value has to be searched for
pub record IsKept (proto : Proto) (rows : List Row) (decls : List Decl) (coordinates slots : List ℕ) : Type 0 where
  pub given : IsPrototype proto
  pub sound : IsSound proto
  pub rows_are : AreRows proto rows
  pub decls_are : decls ≡ decls_of proto (length rows)
  pub coordinates_are : HasCoordinates proto coordinates
  pub slots_are : HasSlotNumbers proto slots

-- the valid time and the run of a row are instants
pub record HasInstants (row : Row) : Type 0 where
  pub valid : IsInstant row.valid
  pub run : IsInstant row.run

-- where an element of a variable along the axis begins, by its slot
abbrev pub slot_offset : Proto → ProtoVar → Slot → ℕ → List ℕ → ℕ
slot_offset proto var slot index rest =
    slot.begin + index * slot.step + size_of var.kind * rank_in (drop 1 (lengths_of proto var.dims)) rest

-- a variable has a slot of this number in the file of a row of the prototype's collection
pub record HasSlotIn (proto : Proto) (row : Row) (var : ProtoVar) (number : ℕ) : Type 0 where
  pub sound : IsSound proto
  pub row_is : IsRowOf proto row
  pub slotted : slice_get (slotted_vars proto) number ≡ Some var

-- the elements that a variable has in a row's file, at the row's index, lie one after another in these bytes from this
-- offset on
pub record LiesInFile (proto : Proto) (row : Row) (var : ProtoVar) (bytes : List ℕ) (begin : ℕ) : Type 0 where
  pub within : begin + size_of var.kind * product (drop 1 (lengths_of proto var.dims)) ≤ length bytes
  pub each : (rest : List ℕ) → element_in row.file var.name (row.index ∷ rest) ≡ take (size_of var.kind)
      (drop (begin + size_of var.kind * rank_in (drop 1 (lengths_of proto var.dims)) rest) bytes)

-- a variable is one of a prototype's and isn't the axis; where it lies along the axis, it has a slot of this number,
-- and an index list picks one of the rows
pub record HasBlock (proto : Proto) (rows : List Row) (var : ProtoVar) (number : ℕ) (index : List ℕ) : Type 0 where
  pub sound : IsSound proto
  pub rows_are : AreRows proto rows
  pub elements : HasElements proto var
  pub slotted : var.timed ≡ true → slice_get (slotted_vars proto) number ≡ Some var
  pub row_there : var.timed ≡ true → slice_index index 0 < length rows

-- the elements of a variable that an index list's row has, or all of one without time, lie one after another in these
-- bytes from this offset on
pub record IsBlock (proto : Proto) (rows : List Row) (var : ProtoVar) (index bytes : List ℕ)
    (begin : ℕ) : Type 0 where
  pub within : begin + size_of var.kind * product (row_shape proto var) ≤ length bytes
  pub each : (other : List ℕ) → (var.timed ≡ true → slice_index other 0 ≡ slice_index index 0)
      → element_of proto rows var other ≡ take (size_of var.kind)
      (drop (begin + size_of var.kind * rank_in (row_shape proto var) (row_index var other)) bytes)

-- a variable has an element at an index list
pub record HasElement (proto : Proto) (rows : List Row) (var : ProtoVar) (number : ℕ)
    (index : List ℕ) : Type 0 where
  pub block : HasBlock proto rows var number index
  pub index_is : IsIndex (row_shape proto var) (row_index var index)

-- a variable of characters has a text at an index list: the index list is one of its array, which has all its
-- dimensions but the last
pub record HasCharacters (proto : Proto) (rows : List Row) (var : ProtoVar) (number : ℕ)
    (index : List ℕ) : Type 0 where
  pub block : HasBlock proto rows var number index
  pub small : size_of var.kind ≡ 1
  pub some : var.timed ≡ true → 0 < length index
  pub index_is : IsIndex (take (length (row_index var index)) (row_shape proto var)) (row_index var index)
  pub last : length (row_dims var) ≤ length (row_index var index) + 1

-- a variable has a number at an index list, where the axis has the times of the rows
pub record HasBits (proto : Proto) (rows : List Row) (var : ProtoVar) (number : ℕ) (index : List ℕ) : Type 0 where
  pub instants : All HasInstants rows
  pub kind : is_axis_of proto var ≡ false → is_char var.kind ≡ false
  pub element : is_axis_of proto var ≡ false → HasElement proto rows var number index
