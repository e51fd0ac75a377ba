-- What the body of a data reply says, and how it is spelled (ESE-RFC-004, the data of DAP 2.0).
use Rattle.std.specs.Prelude.{◌≡◌, ◌≢◌, ℕ, ◌^◌, ◌<◌, ◌≤◌, List, [], ◌∷◌, ◌++◌, length, map, codes, slice_index, get_or, Bool, ◌||◌, ◌==◌, IsTrue}
use Rattle.std.specs.List.{AllByRecursion, flat_map, list_all}
use Rattle.fm_base.specs.Name.{is_name_byte}
use Rattle.nc_model.specs.declared.header.Dim.{Dim}
use Rattle.nc_model.specs.Format.{IsBytes}
use Rattle.nc_model.specs.Layout.{product}
use Rattle.dap_model.specs.declared.declaration.Array.{Array}
use Rattle.dap_model.specs.declared.declaration.DapKind.{DapKind}
use Rattle.dap_model.specs.declared.declaration.DapKind.TheVariants.{Text as TextKind}
use Rattle.dap_model.specs.declared.declaration.Decl.{Decl}
use Rattle.dap_model.specs.declared.declaration.Decl.TheVariants.{Plain, Grid, Structure}
use Rattle.dap_model.specs.Picking.{parts_of}
use Rattle.dap_model.specs.StructureText.{dds_of}
use Rattle.dap_model.specs.Xdr.{AreBitsOf, Values, number, numbers, text, texts, xdr_of}
use Rattle.dap_client.specs.declared.message.Column.{Column}
use Rattle.dap_client.specs.declared.message.Column.TheVariants.{Numbers, Texts}
use Rattle.dap_client.specs.declared.message.Message.{Message}

-- a byte of a label: one of a name, a point or a colon
unfoldable pub is_label_byte : ℕ → Bool
is_label_byte byte = is_name_byte byte || byte == 46 || byte == 58

-- one byte or more, each of which passes
pub record IsWord (test : ℕ → Bool) (word : List ℕ) : Type 0 where
  pub some : 0 < length word
  pub bytes : IsTrue (list_all test word)

-- a dimension has a name and a size of 1 or more
pub record IsDim (dim : Dim) : Type 0 where
  pub name : IsWord is_name_byte dim.name
  pub some : 1 ≤ dim.size

-- how many values an array has
abbrev pub count_of : List Dim → ℕ
count_of dims = product (map (λ (dim : Dim). dim.size) dims)

-- an array has a name and dimensions, and fewer than 2^32 values
pub record IsArray (array : Array) : Type 0 where
  pub name : IsWord is_name_byte array.name
  pub dims : AllByRecursion IsDim array.dims
  pub few : count_of array.dims < 2 ^ 32

-- the map of a dimension: it has its name, and lies along it alone
abbrev pub map_of : Dim → DapKind → Array
map_of dim kind = record { name = dim.name; kind = kind; dims = dim ∷ [] }

-- one map for each dimension, in their order
abbrev pub AreMapsOf : List Dim → List Array → Type 0
AreMapsOf [] [] = Unit {0}
AreMapsOf [] (first ∷ maps) = ⊥
AreMapsOf (dim ∷ dims) [] = ⊥
AreMapsOf (dim ∷ dims) (first ∷ maps) = (first ≡ map_of dim first.kind) × AreMapsOf dims maps

-- a Grid has the name of its array, a dimension or more, and a map for each of them
pub record IsGrid (name : List ℕ) (array : Array) (maps : List Array) : Type 0 where
  pub name_is : name ≡ array.name
  pub array_is : IsArray array
  pub some : 0 < length array.dims
  pub maps_are : AreMapsOf array.dims maps

-- a Structure has a name, and a member or more
pub record IsStructure (name : List ℕ) (members : List Array) : Type 0 where
  pub name_is : IsWord is_name_byte name
  pub some : 0 < length members
  pub members_are : AllByRecursion IsArray members

-- a declaration, by its case
abbrev pub IsDecl : Decl → Type 0
IsDecl (Plain array) = IsArray array
IsDecl (Grid name array maps) = IsGrid name array maps
IsDecl (Structure name members) = IsStructure name members

-- a text of a column: fewer than 2^32 bytes
pub record IsText (word : List ℕ) : Type 0 where
  pub bytes : IsBytes word
  pub few : length word < 2 ^ 32

-- a column has as many values as its array, each of its kind
abbrev pub FitsColumn : Array → Column → Type 0
FitsColumn array (Numbers bits) =
    (array.kind ≢ TextKind) × (length bits ≡ count_of array.dims) × AllByRecursion (AreBitsOf array.kind) bits
FitsColumn array (Texts words) =
    (array.kind ≡ TextKind) × (length words ≡ count_of array.dims) × AllByRecursion IsText words

-- a column for each array, in their order
abbrev pub AreColumnsOf : List Array → List Column → Type 0
AreColumnsOf [] [] = Unit {0}
AreColumnsOf [] (column ∷ columns) = ⊥
AreColumnsOf (array ∷ arrays) [] = ⊥
AreColumnsOf (array ∷ arrays) (column ∷ columns) = FitsColumn array column × AreColumnsOf arrays columns

-- a column of an array without a dimension, which is one value
abbrev pub value_alone : Column → Values
value_alone (Numbers bits) = number (slice_index bits 0)
value_alone (Texts words) = text (get_or words 0 [])

-- a column of an array with dimensions
abbrev pub values_along : Column → Values
values_along (Numbers bits) = numbers bits
values_along (Texts words) = texts words

-- the values of a column, by the dimensions of its array
abbrev pub values_in : List Dim → Column → Values
values_in [] column = value_alone column
values_in (dim ∷ dims) column = values_along column

-- the bytes of a column
unfoldable pub column_text : Array → Column → List ℕ
column_text array column = xdr_of array.kind (values_in array.dims column)

-- the bytes of columns, one after the other
unfoldable pub columns_text : List Array → List Column → List ℕ
columns_text [] columns = []
columns_text (array ∷ arrays) [] = []
columns_text (array ∷ arrays) (column ∷ columns) = column_text array column ++ columns_text arrays columns

-- the arrays whose values follow the structure text
abbrev pub arrays_of : List Decl → List Array
arrays_of decls = flat_map parts_of decls

-- a message has a label and declarations, and a column for each array
pub record IsMessage (message : Message) : Type 0 where
  pub label : IsWord is_label_byte message.label
  pub decls : AllByRecursion IsDecl message.decls
  pub columns : AreColumnsOf (arrays_of message.decls) message.columns

-- a message as the body of a reply: the structure text, a line that ends it, and the values
unfoldable pub message_text : Message → List ℕ
message_text message =
    dds_of message.label message.decls
    ++ codes "Data:\n"
    ++ columns_text (arrays_of message.decls) message.columns

-- the bytes spell this message
pub record Spells (bytes : List ℕ) (message : Message) : Type 0 where
  pub sound : IsMessage message
  pub text_is : bytes ≡ message_text message

-- some message begins with these bytes
pub record BeginsMessage (bytes : List ℕ) : Type 0 where
  pub more : List ℕ
  pub message : Message
  pub spelled : Spells (bytes ++ more) message

-- The bytes spell no message, and the offset is the greatest up to which some message begins so.
pub record IsBadData (bytes : List ℕ) (at : ℕ) : Type 0 where
  pub no_message : (message : Message) → ¬ Spells bytes message
  pub front : List ℕ
  pub rest : List ℕ
  pub split : bytes ≡ front ++ rest
  pub offset : at ≡ length front
  pub begun : BeginsMessage front
  pub greatest : (longer others : List ℕ) → bytes ≡ longer ++ others → BeginsMessage longer → length longer ≤ at
