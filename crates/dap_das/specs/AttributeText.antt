-- The attribute text of a view (ESE-RFC-004, DAS).
use Rattle.std.specs.Prelude.{ℕ, ◌+◌, ◌*◌, ◌/◌, ◌%◌, List, [], ◌∷◌, ◌++◌, codes, drop, length, map, take, true, ◌==◌, if◌then◌else◌}
use Rattle.std.specs.Fmt.{digit_glyph}
use Rattle.std.specs.List.{flat_map, range_with_len}
use Rattle.std.specs.Option.{option_map_or}
use Rattle.nc_model.specs.declared.header.Attr.{Attr}
use Rattle.nc_model.specs.declared.kind.Kind.{Kind}
use Rattle.nc_model.specs.declared.kind.Kind.TheVariants.{Byte, Char, Short, Int, Float, Double}
use Rattle.nc_model.specs.Kind.{size_of}
use Rattle.fm_base.specs.Name.{is_name_byte}
use Rattle.nc_model.specs.Pattern.{pattern_of_bytes}
use Rattle.fm_bits.specs.Quoted.{quoted}
use Rattle.fm_bits.specs.Text.{pattern_text}
use Rattle.fm_model.specs.declared.proto.Proto.{Proto}
use Rattle.fm_model.specs.declared.row.ViewName.{ViewName}
use Rattle.fm_model.specs.Attribute.{is_char, trimmed}
use Rattle.dap_model.specs.StructureText.{indent, line_text}
use Rattle.dap_das.specs.Attributes.{Container, containers_of}

-- the percent sign
abbrev pub PERCENT : ℕ
PERCENT = 37

-- a byte of a name: a letter, a digit, `_` and `-` as they are, any other byte as `%` and two hexadecimal digits
unfoldable pub escaped_byte : ℕ → List ℕ
escaped_byte byte =
    if is_name_byte byte then byte ∷ []
    else PERCENT ∷ digit_glyph true (byte / 16) ∷ digit_glyph true (byte % 16) ∷ []

-- the name of an attribute
unfoldable pub escaped_name : List ℕ → List ℕ
escaped_name name = flat_map escaped_byte name

-- the word of a kind
unfoldable pub kind_word : Kind → List ℕ
kind_word Byte = codes "Byte"
kind_word Char = codes "String"
kind_word Short = codes "Int16"
kind_word Int = codes "Int32"
kind_word Float = codes "Float32"
kind_word Double = codes "Float64"

-- how many values of a kind some bytes are
abbrev pub value_count : Kind → List ℕ → ℕ
value_count kind values = length values / size_of kind

-- the bytes of the value of this number
abbrev pub value_at : Kind → List ℕ → ℕ → List ℕ
value_at kind values i = take (size_of kind) (drop (i * size_of kind) values)

-- the text of the number at this index
unfoldable pub number_at : Kind → List ℕ → ℕ → List ℕ
number_at kind values i = option_map_or pattern_text (pattern_of_bytes kind (value_at kind values i)) []

-- a text that isn't the first
unfoldable pub after_comma : List ℕ → List ℕ
after_comma text = codes ", " ++ text

-- texts with `, ` between them
abbrev pub separated : List (List ℕ) → List ℕ
separated [] = []
separated (text ∷ texts) = text ++ flat_map after_comma texts

-- the first numbers, up to this many
unfoldable pub numbers_text : Kind → List ℕ → ℕ → List ℕ
numbers_text kind values count = separated (map (number_at kind values) (range_with_len 0 count))

-- the line of an attribute, with this text of its values
unfoldable pub attribute_line : Attr → List ℕ → List ℕ
attribute_line attr shown =
    indent 2 ++ kind_word attr.kind ++ codes " " ++ escaped_name attr.name ++ codes " " ++ shown ++ codes ";\n"

-- the line of an attribute of characters: one quoted text of its bytes without the zero bytes at their end
unfoldable pub characters_line : Attr → List ℕ
characters_line attr = attribute_line attr (quoted (trimmed attr.values))

-- the line of an attribute of numbers; one without values is left out
unfoldable pub numbers_line : Attr → List ℕ
numbers_line attr =
    if value_count attr.kind attr.values == 0 then []
    else attribute_line attr (numbers_text attr.kind attr.values (value_count attr.kind attr.values))

-- an attribute
unfoldable pub attribute_text : Attr → List ℕ
attribute_text attr = if is_char attr.kind then characters_line attr else numbers_line attr

-- attributes, each on its line
unfoldable pub attributes_text : List Attr → List ℕ
attributes_text attrs = flat_map attribute_text attrs

-- the line before the attributes of a name
unfoldable pub open_text : List ℕ → List ℕ
open_text name = line_text 1 (name ++ codes " {")

-- a name and its attributes
unfoldable pub container_text : Container → List ℕ
container_text container = open_text container.name ++ attributes_text container.attrs ++ line_text 1 (codes "}")

-- containers one after the other
unfoldable pub containers_text : List Container → List ℕ
containers_text containers = flat_map container_text containers

-- the attributes of the prototype itself
unfoldable pub global_container : Proto → Container
global_container proto = record { name = codes "NC_GLOBAL"; attrs = proto.attrs }

-- the first line
unfoldable pub first_line : List ℕ
first_line = line_text 0 (codes "Attributes {")

-- the last line
unfoldable pub last_line : List ℕ
last_line = line_text 0 (codes "}")

-- the whole text: the attributes of each declaration, and then those of the prototype itself
unfoldable pub das_of : Proto → ViewName → List ℕ
das_of proto view =
    first_line
    ++ containers_text (containers_of proto view)
    ++ container_text (global_container proto)
    ++ last_line
