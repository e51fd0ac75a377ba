-- Reading a structure text.
use Rattle.std.specs.Prelude.{ℕ, ◌/◌, List, [], ◌∷◌, ◌++◌, codes, Bool, ◌==◌, if◌then◌else◌, Option, Some, None}
use Rattle.fm_base.specs.Name.{is_name_byte}
use Rattle.fm_base.specs.Parser.{◌>>=◌, pure}
use Rattle.nc_model.specs.declared.header.Dim.{Dim}
use Rattle.dap_model.specs.declared.declaration.Array.{Array}
use Rattle.dap_model.specs.declared.declaration.DapKind.{DapKind}
use Rattle.dap_model.specs.declared.declaration.DapKind.TheVariants.{Byte, Int16, Int32, Float32, Float64, Text}
use Rattle.dap_model.specs.declared.declaration.Decl.{Decl}
use Rattle.dap_model.specs.declared.declaration.Decl.TheVariants.{Plain, Grid, Structure}
use Rattle.dap_model.specs.StructureText.{close_text, dim_text, indent, line_text}
use Rattle.dap_client.specs.declared.shape.Shape.{Shape}
use Rattle.dap_client.specs.declared.opening.Opening.{Opening}
use Rattle.dap_client.specs.declared.opening.Opening.TheVariants as openings
use Rattle.dap_client.specs.declared.opening.Stem.{Stem}
use Rattle.dap_client.specs.declared.opening.Stem.TheVariants as stems
use Rattle.dap_client.specs.Message.{is_label_byte, map_of}
use Rattle.dap_client.specs.Reading.{Reader, byte_as, each_at, fixed_at, items_at, mark_at, size_at, word_at}

-- what the first letter of a kind stands for
unfoldable pub stem_of : ℕ → Option Stem
stem_of byte =
    if byte == 66 then Some stems.Byte
    else (if byte == 73 then Some stems.Int
    else (if byte == 70 then Some stems.Float
    else (if byte == 83 then Some stems.Str else None)))

-- the kind that the digit behind `Int` stands for
unfoldable pub int_kind : ℕ → Option DapKind
int_kind byte = if byte == 49 then Some Int16 else (if byte == 51 then Some Int32 else None)

-- the kind that the digit behind `Float` stands for
unfoldable pub float_kind : ℕ → Option DapKind
float_kind byte = if byte == 51 then Some Float32 else (if byte == 54 then Some Float64 else None)

-- what follows the byte that settles a kind
unfoldable pub kind_end : DapKind → List ℕ
kind_end Byte = codes "yte "
kind_end Int16 = codes "6 "
kind_end Int32 = codes "2 "
kind_end Float32 = codes "2 "
kind_end Float64 = codes "4 "
kind_end Text = codes "tring "

-- the end of a kind that is settled
unfoldable pub ended_at : DapKind → Reader DapKind
ended_at kind = fixed_at (kind_end kind) >>= λ done. pure kind

unfoldable pub int_at : Reader DapKind
int_at = do
  letters ← fixed_at (codes "nt")
  kind ← byte_as int_kind
  ended_at kind

unfoldable pub float_at : Reader DapKind
float_at = do
  letters ← fixed_at (codes "loat")
  kind ← byte_as float_kind
  ended_at kind

-- the kind of this first letter
unfoldable pub stem_at : Stem → Reader DapKind
stem_at stems.Byte = ended_at Byte
stem_at stems.Int = int_at
stem_at stems.Float = float_at
stem_at stems.Str = ended_at Text

-- the word of a kind, and a space
unfoldable pub kind_at : Reader DapKind
kind_at = byte_as stem_of >>= λ stem. stem_at stem

-- what the first letter of a declaration stands for: a kind, or a Grid
unfoldable pub head_of : ℕ → Option (Option Stem)
head_of byte =
    if byte == 66 then Some (Some stems.Byte)
    else (if byte == 73 then Some (Some stems.Int)
    else (if byte == 70 then Some (Some stems.Float)
    else (if byte == 83 then Some (Some stems.Str)
    else (if byte == 71 then Some None else None))))

-- the rest of `String`, or of the line that opens a Structure
unfoldable pub string_at : Reader Opening
string_at = do
  letters ← fixed_at (codes "tr")
  text ← mark_at 105 117
  if text then (fixed_at (codes "ng ") >>= λ done. pure (openings.Plain Text))
      else (fixed_at (codes "cture {\n") >>= λ done. pure openings.Structure)

-- the rest of what opens a declaration with this first letter
unfoldable pub opening_from : Option Stem → Reader Opening
opening_from None = fixed_at (codes "rid {\n") >>= λ done. pure openings.Grid
opening_from (Some stems.Byte) = ended_at Byte >>= λ kind. pure (openings.Plain kind)
opening_from (Some stems.Int) = int_at >>= λ kind. pure (openings.Plain kind)
opening_from (Some stems.Float) = float_at >>= λ kind. pure (openings.Plain kind)
opening_from (Some stems.Str) = string_at

-- what opens a declaration: the word of a kind and a space, or the line of a Grid or a Structure
unfoldable pub opening_at : Reader Opening
opening_at = byte_as head_of >>= λ head. opening_from head

-- the most values that an array may have
abbrev pub MOST_VALUES : ℕ
MOST_VALUES = 0xffff_ffff

-- no dimension yet
abbrev pub no_dims : Shape
no_dims = record { dims = []; room = MOST_VALUES }

-- one dimension more; the room is the greatest size of the next one
abbrev pub with_dim : Shape → List ℕ → ℕ → Shape
with_dim shape name size =
    record { dims = shape.dims ++ record { name = name; size = size } ∷ []; room = shape.room / size }

-- a dimension behind its opening bracket: `time = 3]`
unfoldable pub dim_at : Shape → Reader Shape
dim_at shape = do
  name ← word_at is_name_byte 32 32
  equals ← fixed_at (codes "= ")
  size ← size_at shape.room
  pure (with_dim shape name.0 size)

-- one dimension or more, the first behind its opening bracket, up to the semicolon
unfoldable pub some_dims_at : Reader (List Dim)
some_dims_at = do
  first ← dim_at no_dims
  shape ← items_at (mark_at 91 59) dim_at first
  pure shape.dims

-- dimensions behind the byte after a name: the bracket of the first one, or the semicolon
unfoldable pub dims_at : Bool → Reader (List Dim)
dims_at more = if more then some_dims_at else pure []

-- an array behind its kind, and the end of its line
unfoldable pub array_at : DapKind → Reader Array
array_at kind = do
  name ← word_at is_name_byte 91 59
  dims ← dims_at name.1
  end ← fixed_at (codes "\n")
  pure (record { name = name.0; kind = kind; dims = dims })

-- the array of a Grid, which has a dimension or more
unfoldable pub grid_array_at : Reader Array
grid_array_at = do
  kind ← kind_at
  name ← word_at is_name_byte 91 91
  dims ← some_dims_at
  end ← fixed_at (codes "\n")
  pure (record { name = name.0; kind = kind; dims = dims })

-- what stands between the kind of a map and the end of its line, by its dimension
unfoldable pub map_end : Dim → List ℕ
map_end dim = dim.name ++ dim_text dim ++ codes ";\n"

-- the map of a dimension
unfoldable pub map_at : Dim → Reader Array
map_at dim = do
  spaces ← fixed_at (indent 3)
  kind ← kind_at
  end ← fixed_at (map_end dim)
  pure (map_of dim kind)

-- the maps of dimensions, in their order
unfoldable pub maps_at : List Dim → Reader (List Array)
maps_at dims = each_at map_at dims []

-- a Grid behind the line that opens it
unfoldable pub grid_at : Reader Decl
grid_at = do
  above ← fixed_at (line_text 2 (codes "ARRAY:") ++ indent 3)
  array ← grid_array_at
  between ← fixed_at (line_text 2 (codes "MAPS:"))
  maps ← maps_at array.dims
  end ← fixed_at (close_text 1 array.name)
  pure (Grid array.name array maps)

-- four spaces, and whether a fifth follows, or the brace that closes a Structure
unfoldable pub member_mark_at : Reader Bool
member_mark_at = fixed_at (indent 1) >>= λ spaces. mark_at 32 125

-- an array, and then others
abbrev pub with_array : List Array → Array → List Array
with_array arrays array = arrays ++ array ∷ []

-- a member of a Structure behind its first five spaces
unfoldable pub member_at : List Array → Reader (List Array)
member_at found = do
  spaces ← fixed_at (codes "   ")
  kind ← kind_at
  array ← array_at kind
  pure (with_array found array)

-- a Structure behind the line that opens it
unfoldable pub structure_at : Reader Decl
structure_at = do
  spaces ← fixed_at (codes "     ")
  first ← member_at []
  members ← items_at member_mark_at member_at first
  space ← fixed_at (codes " ")
  name ← word_at is_name_byte 59 59
  end ← fixed_at (codes "\n")
  pure (Structure name.0 members)

-- a declaration of this opening
unfoldable pub opened_at : Opening → Reader Decl
opened_at (openings.Plain kind) = array_at kind >>= λ array. pure (Plain array)
opened_at openings.Grid = grid_at
opened_at openings.Structure = structure_at

-- a declaration behind its first space
unfoldable pub decl_at : List Decl → Reader (List Decl)
decl_at found = do
  spaces ← fixed_at (codes "   ")
  opening ← opening_at
  decl ← opened_at opening
  pure (found ++ decl ∷ [])

-- the structure text: the label and the declarations
unfoldable pub dataset_at : Reader (List ℕ × List Decl)
dataset_at = do
  above ← fixed_at (line_text 0 (codes "Dataset {"))
  decls ← items_at (mark_at 32 125) decl_at []
  space ← fixed_at (codes " ")
  label ← word_at is_label_byte 59 59
  end ← fixed_at (codes "\n")
  pure (label.0, decls)
