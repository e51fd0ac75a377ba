-- The prototype that some bytes are, or the first fault.
use Rattle.std.specs.Prelude.{◌≡◌, ◌≢◌, ◌<◌, ◌*◌, All, Any, IsTrue, true, false, ℕ, List, [], ◌∷◌, ◌++◌, codes, length, slice_get, drop, map, filter, find, Bool, false, not, ◌&&◌, ◌||◌, ◌==◌, if◌then◌else◌, Result, Ok}
use Rattle.std.specs.List.{list_all}
use Rattle.std.specs.Option.{ok_or, option_map, option_map_or}
use Rattle.std.specs.Str.{bytes_eq}
use Rattle.nc_model.specs.declared.header.Dim.{Dim}
use Rattle.nc_model.specs.declared.header.Header.{Header as FileHeader}
use Rattle.nc_model.specs.declared.header.NcVar.{NcVar}
use Rattle.nc_model.specs.Kind.{size_of}
use Rattle.nc_model.specs.Layout.{size_in, product, elements_of}
use Rattle.fm_base.specs.Name.{is_name_byte}
use Rattle.nc_model.specs.Spelling.{AreDistinct}
use Rattle.nc_model.specs.declared.fault.FormatFault.{FormatFault}
use Rattle.nc_model.specs.declared.fault.FormatFault.TheVariants.{OfHeader, OfLayout}
use Rattle.nc_model.specs.Sound.{sound_header}
use Rattle.fm_model.specs.declared.proto.Proto.{Proto}
use Rattle.fm_model.specs.declared.proto.ProtoFault.{ProtoFault}
use Rattle.fm_model.specs.declared.proto.ProtoFault.TheVariants.{Header, Layout, NoTimeAxis, TimeNotFirst, BadProtoName, NameTaken, EmptyDimension}
use Rattle.fm_model.specs.declared.proto.ProtoVar.{ProtoVar}
use Rattle.fm_model.specs.declared.site.Site.{Site}
use Rattle.fm_model.specs.Attribute.{has_text, is_char}
use Rattle.fm_base.specs.Chain.{Check, ◌>>=◌, ◌>>◌, refuse, fault_as}
use Rattle.fm_model.specs.Variable.{are_same, is_named, stands_first_alone, axis_of, dim_of_axis, lies_along, reference_of}

-- a fault of a file as one of a prototype
abbrev pub fault_of_proto : FormatFault → ProtoFault
fault_of_proto (OfHeader fault) = Header fault
fault_of_proto (OfLayout fault) = Layout fault

-- the header of a file that has no fault
unfoldable pub proto_header : List ℕ → Result FileHeader ProtoFault
proto_header bytes = fault_as fault_of_proto (sound_header bytes)

-- there is a time axis
unfoldable pub proto_axis : FileHeader → Result NcVar ProtoFault
proto_axis header = ok_or (axis_of header) NoTimeAxis

-- whether a variable has the axis's dimension after its first
abbrev pub has_time_later : NcVar → NcVar → Bool
has_time_later axis var = lies_along (dim_of_axis axis) (drop 1 var.dims)

-- each variable that lies along the axis has the axis's dimension first, and once
unfoldable pub time_stands_first : FileHeader → NcVar → Check ProtoFault
time_stands_first header axis =
    refuse (option_map (λ (var : NcVar). TimeNotFirst var.name) (find (has_time_later axis) header.vars))

-- whether a name is of such bytes alone
unfoldable pub is_plain_name : List ℕ → Bool
is_plain_name name = list_all is_name_byte name

-- the names of dimensions, and then those of variables
abbrev pub names_of : FileHeader → List (List ℕ)
names_of header = map (λ (dim : Dim). dim.name) header.dims ++ map (λ (var : NcVar). var.name) header.vars

-- all names are of letters, digits, `_` and `-`
unfoldable pub names_are_plain : FileHeader → Check ProtoFault
names_are_plain header =
    refuse (option_map BadProtoName (find (λ name. not (is_plain_name name)) (names_of header)))

-- whether a variable is that of the run's time
unfoldable pub is_reference : FileHeader → NcVar → Bool
is_reference header var = option_map_or (λ (reference : NcVar). bytes_eq reference.name var.name)
    (reference_of header) false

-- whether a variable has one character for each time
unfoldable pub is_char_per_time : NcVar → NcVar → Bool
is_char_per_time axis var = is_char var.kind && are_same var.dims (dim_of_axis axis ∷ [])

-- whether a variable is that of the bounds of an axis's times (CF Conventions, cell boundaries and climatology)
unfoldable pub is_bounds : NcVar → NcVar → Bool
is_bounds axis var = has_text axis.attrs (codes "bounds") var.name || has_text axis.attrs (codes "climatology") var.name

-- whether the views show a variable: the axis, and each that is neither that of the run's time nor one of a character
-- for each time nor that of the bounds of the axis
abbrev pub is_kept : FileHeader → NcVar → NcVar → Bool
is_kept header axis var =
    bytes_eq var.name axis.name || not (is_reference header var || is_char_per_time axis var || is_bounds axis var)

-- the variables that the views show
unfoldable pub kept_vars : FileHeader → NcVar → List NcVar
kept_vars header axis = filter (is_kept header axis) header.vars

-- the name under which the views show the run of each row
unfoldable pub run_name : List ℕ → List ℕ
run_name axis = axis ++ codes "_run"

-- the name under which the views show the offset of each row
unfoldable pub offset_name : List ℕ → List ℕ
offset_name axis = axis ++ codes "_offset"

-- whether a variable has one of these names
abbrev pub has_taken_name : NcVar → NcVar → Bool
has_taken_name axis var = bytes_eq var.name (run_name axis.name) || bytes_eq var.name (offset_name axis.name)

-- no variable that the views show has one of these names
unfoldable pub names_are_free : FileHeader → NcVar → Check ProtoFault
names_are_free header axis =
    refuse (option_map (λ (var : NcVar). NameTaken var.name) (find (has_taken_name axis) (kept_vars header axis)))

-- whether a dimension other than the axis's has no length
abbrev pub is_empty : FileHeader → NcVar → Dim → Bool
is_empty header axis dim = size_in header dim == 0 && not (bytes_eq dim.name axis.name)

-- each dimension other than the axis's has a length
unfoldable pub dims_have_lengths : FileHeader → NcVar → Check ProtoFault
dims_have_lengths header axis =
    refuse (option_map (λ (dim : Dim). EmptyDimension dim.name) (find (is_empty header axis) header.dims))

-- a variable as the views show it
unfoldable pub proto_var : List ℕ → FileHeader → NcVar → NcVar → ProtoVar
proto_var bytes header axis var =
    let timed : Bool = lies_along (dim_of_axis axis) var.dims in
    record {
      name = var.name;
      kind = var.kind;
      dims = var.dims;
      attrs = var.attrs;
      timed = timed;
      fixed = if timed then [] else elements_of bytes header var;
    }

-- a dimension with its length
abbrev pub with_length : FileHeader → Dim → Dim
with_length header dim = record { name = dim.name; size = size_in header dim }

-- what a prototype keeps of its file
unfoldable pub proto_with : List ℕ → Site → FileHeader → NcVar → Proto
proto_with bytes site header axis = record {
  site = site;
  axis = axis.name;
  dims = map (with_length header) header.dims;
  attrs = header.attrs;
  vars = map (proto_var bytes header axis) (kept_vars header axis);
}

-- the prototype that some bytes are at a site, or its first fault
unfoldable pub proto_of : List ℕ → Site → Result Proto ProtoFault
proto_of bytes site = do
  header ← proto_header bytes
  axis ← proto_axis header
  time_stands_first header axis
  names_are_plain header
  names_are_free header axis
  dims_have_lengths header axis
  Ok (proto_with bytes site header axis)

-- the lengths of a prototype's dimensions of these numbers
abbrev pub lengths_of : Proto → List ℕ → List ℕ
lengths_of proto ids = map (λ id. option_map_or (λ (dim : Dim). dim.size) (slice_get proto.dims id) 0) ids

-- a variable of a prototype lies along the axis with that dimension first and only there, and has no fixed elements; or
-- it has not that dimension
abbrev pub LiesFirst : ℕ → ProtoVar → Type 0
LiesFirst id var = (var.timed ≡ true → IsTrue (stands_first_alone id var.dims) × (var.fixed ≡ [])) × (var.timed
    ≡ false → lies_along id var.dims ≡ false)

-- a variable is a prototype's axis, over the dimension of this number
pub record IsAxis (proto : Proto) (id : ℕ) (var : ProtoVar) : Type 0 where
  pub name_is : var.name ≡ proto.axis
  pub dims_are : var.dims ≡ id ∷ []
  pub timed : var.timed ≡ true
  pub number : is_char var.kind ≡ false

-- a variable has neither of the names under which the views show the run and the offset of each row
pub record HasFreeName (proto : Proto) (var : ProtoVar) : Type 0 where
  pub run : var.name ≢ run_name proto.axis
  pub offset : var.name ≢ offset_name proto.axis

-- a variable without time has all its elements: as many bytes as its kind and its lengths say
abbrev pub HasElements : Proto → ProtoVar → Type 0
HasElements proto var = var.timed ≡ false → length var.fixed ≡ size_of var.kind * product (lengths_of proto var.dims)

-- the dimensions of a variable are there
abbrev pub HasDims : Proto → ProtoVar → Type 0
HasDims proto var = All (λ id. id < length proto.dims) var.dims

-- What a prototype keeps: its axis is among its variables, over the dimension of its name, and isn't of characters; a
-- variable along the axis has that dimension first and only there, and any other has all its elements; names differ and
-- are plain, and those of the views are free; the dimensions of variables are there, and all but the axis's have a
-- length.
pub record IsSound (proto : Proto) : Type 0 where
  pub id : ℕ
  pub named : IsTrue (is_named proto.dims proto.axis id)
  pub axis : Any (IsAxis proto id) proto.vars
  pub timed : All (LiesFirst id) proto.vars
  pub plain_dims : All (λ (dim : Dim). IsTrue (is_plain_name dim.name)) proto.dims
  pub plain_vars : All (λ (var : ProtoVar). IsTrue (is_plain_name var.name)) proto.vars
  pub free : All (HasFreeName proto) proto.vars
  pub lengths : All (λ (dim : Dim). dim.name ≢ proto.axis → 0 < dim.size) proto.dims
  pub dim_names : AreDistinct (map (λ (dim : Dim). dim.name) proto.dims)
  pub var_names : AreDistinct (map (λ (var : ProtoVar). var.name) proto.vars)
  pub in_range : All (HasDims proto) proto.vars
  pub fixed : All (HasElements proto) proto.vars
