-- What the variables of a file are: coordinate variables, the time axis, the run's time (CF Conventions, coordinate
-- variables and standard names).
use Rattle.std.specs.Prelude.{ℕ, List, [], ◌∷◌, codes, slice_get, slice_index, Bool, false, not, ◌&&◌, ◌||◌, ◌==◌, Option, find}
use Rattle.std.specs.List.{list_any}
use Rattle.std.specs.Option.{option_map_or}
use Rattle.std.specs.Str.{bytes_eq}
use Rattle.nc_model.specs.declared.header.Dim.{Dim}
use Rattle.nc_model.specs.declared.header.Header.{Header}
use Rattle.nc_model.specs.declared.header.NcVar.{NcVar}
use Rattle.nc_model.specs.declared.kind.Kind.{Kind}
use Rattle.nc_model.specs.Kind.{code_of}
use Rattle.fm_model.specs.Attribute.{is_char, has_text}

-- whether two kinds are the same
abbrev pub is_same_kind : Kind → Kind → Bool
is_same_kind kind other = code_of kind == code_of other

-- whether two lists of numbers are the same
abbrev pub are_same : List ℕ → List ℕ → Bool
are_same numbers others = bytes_eq numbers others

-- whether the dimension of this number has this name
unfoldable pub is_named : List Dim → List ℕ → ℕ → Bool
is_named dims name id = option_map_or (λ (dim : Dim). bytes_eq dim.name name) (slice_get dims id) false

-- whether a variable of this name, kind and dimensions is a coordinate variable: its one dimension has its name, and it
-- isn't of characters
unfoldable pub is_coordinate : List Dim → List ℕ → Kind → List ℕ → Bool
is_coordinate dims name kind [] = false
is_coordinate dims name kind (id ∷ []) = is_named dims name id && not (is_char kind)
is_coordinate dims name kind (id ∷ other ∷ ids) = false

-- whether a variable has this standard name
unfoldable pub has_standard_name : List ℕ → NcVar → Bool
has_standard_name text var = has_text var.attrs (codes "standard_name") text

-- whether a variable is a time axis: a coordinate variable with the name or the standard name `time`
unfoldable pub is_axis : Header → NcVar → Bool
is_axis header var = is_coordinate header.dims var.name var.kind var.dims &&
    (bytes_eq var.name (codes "time") || has_standard_name (codes "time") var)

-- the axis of a prototype: the first time axis
unfoldable pub axis_of : Header → Option NcVar
axis_of header = find (is_axis header) header.vars

-- the number of an axis's dimension
abbrev pub dim_of_axis : NcVar → ℕ
dim_of_axis axis = slice_index axis.dims 0

-- whether a variable lies along the dimension of this number
unfoldable pub lies_along : ℕ → List ℕ → Bool
lies_along id ids = list_any (λ other. other == id) ids

-- whether the dimension of this number stands first, and only there
unfoldable pub stands_first_alone : ℕ → List ℕ → Bool
stands_first_alone id [] = false
stands_first_alone id (first ∷ others) = first == id && not (lies_along id others)

-- the variable of the run's time: the first with the standard name of a reference time
unfoldable pub reference_of : Header → Option NcVar
reference_of header = find (has_standard_name (codes "forecast_reference_time")) header.vars

-- the first variable of this name
unfoldable pub var_named : Header → List ℕ → Option NcVar
var_named header name = find (λ (var : NcVar). bytes_eq var.name name) header.vars
