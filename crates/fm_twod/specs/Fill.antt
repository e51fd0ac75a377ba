-- The numbers that stand where a run has no value (NetCDF Users Guide, attribute conventions and fill values).
use Rattle.std.specs.Prelude.{ℕ, codes, if◌then◌else◌, Option, None, option_and_then, unwrap_or}
use Rattle.std.specs.Option.{option_map}
use Rattle.nc_model.specs.declared.header.Attr.{Attr}
use Rattle.nc_model.specs.declared.kind.Kind.{Kind}
use Rattle.nc_model.specs.declared.kind.Kind.TheVariants.{Byte, Char, Short, Int, Float, Double}
use Rattle.nc_model.specs.declared.pattern.Pattern.{Pattern}
use Rattle.nc_model.specs.Pattern.{pattern_of_bytes}
use Rattle.fm_model.specs.declared.proto.Proto.{Proto}
use Rattle.fm_model.specs.declared.proto.ProtoVar.{ProtoVar}
use Rattle.fm_model.specs.Attribute.{attr_named}
use Rattle.fm_model.specs.Variable.{is_same_kind}
use Rattle.fm_dataset.specs.Declarations.{is_axis_of}

-- the bits of the fill value of a kind: -127, -32767, -2147483647, and two numbers near 9.97e36; characters have none
unfoldable pub default_fill : Kind → ℕ
default_fill Byte = 129
default_fill Char = 0
default_fill Short = 32769
default_fill Int = 2147483649
default_fill Float = 2096103424
default_fill Double = 5160562223013167104

-- the bits of an attribute that has exactly one number, and of this kind
unfoldable pub only_value : Kind → Attr → Option ℕ
only_value kind attr =
    if is_same_kind attr.kind kind
    then option_map (λ (pattern : Pattern). pattern.bits) (pattern_of_bytes kind attr.values)
    else None

-- the bits that the attribute of a variable gives
abbrev pub given_fill : ProtoVar → Option ℕ
given_fill var = option_and_then (only_value var.kind) (attr_named var.attrs (codes "_FillValue"))

-- the bits of a variable's fill value: that of its attribute, where it has one number of the variable's kind
unfoldable pub fill_of : ProtoVar → ℕ
fill_of var = unwrap_or (given_fill var) (default_fill var.kind)

-- the bits that a variable has where a run has no value; the axis is sent in whole seconds, whatever its kind
unfoldable pub absent_bits : Proto → ProtoVar → ℕ
absent_bits proto var = if is_axis_of proto var then default_fill Int else fill_of var
