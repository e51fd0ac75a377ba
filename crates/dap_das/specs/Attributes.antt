-- The attributes of what a view shows (THREDDS Data Server, Forecast Model Run Collections; CF Conventions, time
-- coordinate and standard names).
use Rattle.std.specs.Prelude.{ℕ, List, [], ◌∷◌, ◌++◌, codes, map, if◌then◌else◌, ℤ}
use Rattle.std.specs.Str.{bytes_eq}
use Rattle.nc_model.specs.declared.header.Attr.{Attr}
use Rattle.nc_model.specs.declared.kind.Kind.TheVariants.{Char}
use Rattle.nc_model.specs.Instant.{instant_text_of}
use Rattle.fm_model.specs.declared.proto.Proto.{Proto}
use Rattle.fm_model.specs.declared.proto.ProtoVar.{ProtoVar}
use Rattle.fm_model.specs.declared.row.ViewName.{ViewName}
use Rattle.fm_model.specs.declared.row.ViewName.TheVariants.{Best, BestFrom, Run, Offset, Forecast}
use Rattle.fm_model.specs.Prototype.{offset_name, run_name}

-- an attribute of characters
unfoldable pub text_attribute : List ℕ → List ℕ → Attr
text_attribute name text = record { name = name; kind = Char; values = text }

-- the units of instants: `seconds since 2020-01-01T00:00:00Z`, with the instant of the collection's epoch
unfoldable pub units_since : ℤ → List ℕ
units_since epoch = codes "seconds since " ++ instant_text_of epoch

-- what is counted
unfoldable pub units_attribute : List ℕ → Attr
units_attribute units = text_attribute (codes "units") units

-- what is meant
unfoldable pub standard_name_attribute : List ℕ → Attr
standard_name_attribute standard_name = text_attribute (codes "standard_name") standard_name

-- the calendar of instants
unfoldable pub calendar_attribute : Attr
calendar_attribute = text_attribute (codes "calendar") (codes "proleptic_gregorian")

-- the attributes of instants in seconds from the collection's epoch
unfoldable pub instant_attributes : ℤ → List ℕ → List Attr
instant_attributes epoch standard_name =
    units_attribute (units_since epoch) ∷ standard_name_attribute standard_name ∷ calendar_attribute ∷ []

-- the standard name of the times of runs
unfoldable pub reference_time : List ℕ
reference_time = codes "forecast_reference_time"

-- the standard name of what the axis of a view holds: the times of runs where all rows have one valid time, and else
-- valid times
unfoldable pub axis_standard_name : ViewName → List ℕ
axis_standard_name Best = codes "time"
axis_standard_name (BestFrom offset) = codes "time"
axis_standard_name (Run run) = codes "time"
axis_standard_name (Offset offset) = codes "time"
axis_standard_name (Forecast time) = reference_time

-- the attributes of the axis of a view, whatever the prototype's axis has
unfoldable pub axis_attributes : Proto → ViewName → List Attr
axis_attributes proto view = instant_attributes proto.site.epoch (axis_standard_name view)

-- the attributes of the run of each row
unfoldable pub run_attributes : Proto → List Attr
run_attributes proto = instant_attributes proto.site.epoch reference_time

-- the attributes of the offset of each row
unfoldable pub offset_attributes : List Attr
offset_attributes =
    units_attribute (codes "seconds") ∷ standard_name_attribute (codes "forecast_period") ∷ []

-- the attributes of a variable: those of the prototype, but for the axis
unfoldable pub variable_attributes : Proto → ViewName → ProtoVar → List Attr
variable_attributes proto view var = if bytes_eq var.name proto.axis then axis_attributes proto view else var.attrs

-- a name and its attributes
pub record Container : Type 0 where
  pub name : List ℕ
  pub attrs : List Attr

-- a variable and its attributes
abbrev pub variable_container : Proto → ViewName → ProtoVar → Container
variable_container proto view var = record { name = var.name; attrs = variable_attributes proto view var }

-- the run of each row and its attributes
abbrev pub run_container : Proto → Container
run_container proto = record { name = run_name proto.axis; attrs = run_attributes proto }

-- the offset of each row and its attributes
abbrev pub offset_container : Proto → Container
offset_container proto = record { name = offset_name proto.axis; attrs = offset_attributes }

-- the attributes of each declaration of a view, in the order of the declarations: the prototype's variables, and then
-- the run and the offset of each row
unfoldable pub containers_of : Proto → ViewName → List Container
containers_of proto view =
    map (variable_container proto view) proto.vars ++ run_container proto ∷ offset_container proto ∷ []
