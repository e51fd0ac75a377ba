-- The attributes of the variables of a file: those that the attribute text of the view has under the variable's name
-- (ESE-RFC-004, DAS), as the prototype has them.
use Rattle.std.specs.Prelude.{ℕ, List, [], filter, find, Bool, not, ◌||◌, ◌==◌, if◌then◌else◌}
use Rattle.std.specs.Option.{option_map_or}
use Rattle.std.specs.Str.{bytes_eq}
use Rattle.nc_model.specs.declared.header.Attr.{Attr}
use Rattle.fm_model.specs.declared.proto.Proto.{Proto}
use Rattle.fm_model.specs.declared.proto.ProtoVar.{ProtoVar}
use Rattle.fm_model.specs.declared.row.ViewName.{ViewName}
use Rattle.fm_model.specs.Attribute.{is_char}
use Rattle.fm_model.specs.Prototype.{offset_name, run_name}
use Rattle.fm_dataset.specs.Values.{Shown}
use Rattle.dap_das.specs.Attributes.{offset_attributes, run_attributes, variable_attributes, Container}
use Rattle.dap_das.specs.AttributeText.{value_count}

-- whether a variable of a prototype has this name
abbrev pub is_of_name : List ℕ → ProtoVar → Bool
is_of_name name var = bytes_eq var.name name

-- the attributes of the run or of the offset of each row, under their names
unfoldable pub added_attributes : Proto → List ℕ → List Attr
added_attributes proto name =
    if bytes_eq (run_name proto.axis) name then run_attributes proto
    else (if bytes_eq (offset_name proto.axis) name then offset_attributes else [])

-- the attributes that a view of a prototype's collection shows under a name
unfoldable pub shown_attributes : Proto → ViewName → List ℕ → List Attr
shown_attributes proto view name = option_map_or (variable_attributes proto view)
    (find (is_of_name name) proto.vars) (added_attributes proto name)

-- the attributes that the container of a name has among some; none where there is no such container
abbrev pub attributes_under : List ℕ → List Container → List Attr
attributes_under name containers = option_map_or (λ (container : Container). container.attrs)
    (find (λ (container : Container). bytes_eq container.name name) containers) []

-- whether an attribute is written: one of numbers without values is left out, as it is of the attribute text
unfoldable pub is_written : Attr → Bool
is_written attr = is_char attr.kind || not (value_count attr.kind attr.values == 0)

-- the attributes of the variable of a name
unfoldable pub attributes_in : Proto → ViewName → List ℕ → List Attr
attributes_in proto view name = filter is_written (shown_attributes proto view name)

unfoldable pub attributes_of : Shown → List ℕ → List Attr
attributes_of shown name = attributes_in shown.proto shown.view name
