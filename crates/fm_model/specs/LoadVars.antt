-- The variables of a file beside those of the prototype, and where their data lies.
use Rattle.std.specs.Prelude.{◌≡◌, ◌<◌, ◌≤◌, IsTrue, ℕ, ◌+◌, ◌*◌, List, [], ◌∷◌, ◌++◌, length, drop, map, filter, slice_index, Bool, not, ◌&&◌, ◌||◌, nat_eq, nat_lt, if◌then◌else◌, Result, Ok}
use Rattle.std.specs.List.{common_prefix_len}
use Rattle.std.specs.Str.{bytes_eq}
use Rattle.nc_model.specs.declared.header.Header.{Header as FileHeader}
use Rattle.nc_model.specs.declared.header.NcVar.{NcVar}
use Rattle.nc_model.specs.Kind.{size_of}
use Rattle.nc_model.specs.Layout.{shape_of, product, record_size, elements_of}
use Rattle.nc_model.specs.Reading.{names_record_dim}
use Rattle.fm_model.specs.declared.loaded.LoadFault.{LoadFault}
use Rattle.fm_model.specs.declared.loaded.LoadFault.TheVariants.{VariableDiffers, GridDiffers}
use Rattle.fm_model.specs.declared.loaded.Slot.{Slot}
use Rattle.fm_model.specs.declared.proto.Proto.{Proto}
use Rattle.fm_model.specs.declared.proto.ProtoVar.{ProtoVar}
use Rattle.fm_base.specs.Chain.{Check, ◌>>=◌, ◌>>◌, refuse_if}
use Rattle.fm_model.specs.Variable.{are_same, is_same_kind, is_coordinate, dim_of_axis, stands_first_alone}
use Rattle.fm_model.specs.LoadAxis.{file_var}
use Rattle.fm_model.specs.Packing.{same_packing, HaveSamePacking}
pub use Rattle.fm_model.specs.Prototype.{lengths_of}

-- whether a variable along the axis is like the prototype's: the same kind, the file's axis first, the same other
-- lengths
unfoldable pub is_like_timed : Proto → FileHeader → NcVar → ProtoVar → NcVar → Bool
is_like_timed proto header axis wanted var = is_same_kind wanted.kind var.kind && stands_first_alone
    (dim_of_axis axis) var.dims && are_same (drop 1 (lengths_of proto wanted.dims)) (drop 1 (shape_of header var))

-- where the data of a variable along the axis lies
unfoldable pub slot_in : FileHeader → NcVar → NcVar → Slot
slot_in header axis var = record {
  begin = var.begin;
  step = if names_record_dim header.dims
      (dim_of_axis axis) then record_size header else size_of var.kind * product (drop 1 (shape_of header var));
}

-- the slot of a variable of the prototype that lies along the axis
unfoldable pub file_slot : Proto → FileHeader → NcVar → ProtoVar → Result Slot LoadFault
file_slot proto header axis wanted = do
  var ← file_var header wanted.name
  refuse_if (not (is_like_timed proto header axis wanted var)) (VariableDiffers wanted.name)
  same_packing wanted var
  Ok (slot_in header axis var)

-- whether a coordinate variable is like the prototype's: the same kind and lengths
unfoldable pub is_like_fixed : Proto → FileHeader → ProtoVar → NcVar → Bool
is_like_fixed proto header wanted var = is_same_kind wanted.kind var.kind && are_same (lengths_of proto wanted.dims)
    (shape_of header var)

-- two lists of bytes are the same, or differ first at an index
unfoldable pub same_bytes : List ℕ → List ℕ → List ℕ → Check LoadFault
same_bytes name proto file =
    let index : ℕ = common_prefix_len nat_eq proto file in
    refuse_if (nat_lt index (length proto)) (GridDiffers name index (slice_index proto index) (slice_index file index))

-- the file's coordinate variable has the prototype's elements
unfoldable pub same_grid : Proto → List ℕ → FileHeader → ProtoVar → Check LoadFault
same_grid proto bytes header wanted = do
  var ← file_var header wanted.name
  refuse_if (not (is_like_fixed proto header wanted var)) (VariableDiffers wanted.name)
  same_bytes wanted.name wanted.fixed (elements_of bytes header var)

-- whether files are compared in a variable of the prototype: not the axis, and along the axis or a coordinate variable
unfoldable pub is_compared : Proto → ProtoVar → Bool
is_compared proto wanted = not (bytes_eq wanted.name proto.axis) &&
    (wanted.timed || is_coordinate proto.dims wanted.name wanted.kind wanted.dims)

-- the slots after one more variable: one where it lies along the axis, none where it is a coordinate variable
unfoldable pub slots_after : Proto → List ℕ → FileHeader → NcVar → List Slot → ProtoVar → Result (List Slot) LoadFault
slots_after proto bytes header axis found wanted =
    if wanted.timed then (file_slot proto header axis wanted >>= λ slot. Ok
    (found ++ slot ∷ [])) else (same_grid proto bytes header wanted >> Ok found)

-- a step for each item, which counts on what the earlier gave
unfoldable pub steps_from : {A S E : Type 0} → (S → A → Result S E) → List A → S → Result S E
steps_from step [] found = Ok found
steps_from step (item ∷ items) found = step found item >>= λ next. steps_from step items next

-- the slots of a file, in the prototype's order
unfoldable pub file_slots : Proto → List ℕ → FileHeader → NcVar → Result (List Slot) LoadFault
file_slots proto bytes header axis = steps_from (slots_after proto bytes header axis)
    (filter (is_compared proto) proto.vars) []

-- the variables that have a slot: those along the axis but for the axis itself, in the prototype's order
unfoldable pub slotted_vars : Proto → List ProtoVar
slotted_vars proto = filter (λ (wanted : ProtoVar). wanted.timed && not (bytes_eq wanted.name proto.axis)) proto.vars

-- a slot says where the file's variable of the name of a prototype's variable lies: it is of the same kind, has the
-- file's axis first and only there, and the same lengths otherwise; and its numbers are read as the prototype's
pub record IsSlotOf (proto : Proto) (header : FileHeader) (axis : NcVar) (wanted : ProtoVar)
    (slot : Slot) : Type 0 where
  pub var : NcVar
  pub named : file_var header wanted.name ≡ Ok var
  pub kind_is : var.kind ≡ wanted.kind
  pub along : IsTrue (stands_first_alone (dim_of_axis axis) var.dims)
  pub lengths : drop 1 (shape_of header var) ≡ drop 1 (lengths_of proto wanted.dims)
  pub packing : HaveSamePacking wanted.attrs var.attrs
  pub slot_is : slot ≡ slot_in header axis var

-- how many bytes a variable along the axis takes at one time
abbrev pub bytes_per_time : Proto → ProtoVar → ℕ
bytes_per_time proto wanted = size_of wanted.kind * product (drop 1 (lengths_of proto wanted.dims))

-- what a slot says of a variable lies within a length, at each of n times
abbrev pub LiesWithin : Proto → ℕ → ℕ → ProtoVar → Slot → Type 0
LiesWithin proto n len wanted slot = (k : ℕ) → k < n → slot.begin + k * slot.step + bytes_per_time proto wanted ≤ len

-- the file's variable of the name of a prototype's coordinate variable is of the same kind and length, and has the same
-- elements
pub record IsSameGrid (proto : Proto) (bytes : List ℕ) (header : FileHeader) (wanted : ProtoVar) : Type 0 where
  pub var : NcVar
  pub named : file_var header wanted.name ≡ Ok var
  pub kind_is : var.kind ≡ wanted.kind
  pub lengths : shape_of header var ≡ lengths_of proto wanted.dims
  pub elements : elements_of bytes header var ≡ wanted.fixed
