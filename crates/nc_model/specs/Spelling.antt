-- How a header of the classic format is spelled, field by field, and which headers are sound (NetCDF Classic Format
-- Specification, "The Format in Detail"). Padding may be any bytes.
use Rattle.std.specs.Prelude.{◌≡◌, ◌⊎◌, ℕ, ◌*◌, ◌^◌, ◌<◌, ◌≤◌, List, [], ◌∷◌, ◌++◌, length, replicate, map, drop, slice_get, false, IsTrue, codes, count_by, IfSome}
use Rattle.std.specs.Int.{w32, w64, to_be_bytes}
use Rattle.std.specs.List.{AllByRecursion, IsDistinct}
use Rattle.std.specs.Str.{bytes_eq}
use Rattle.nc_model.specs.declared.header.Attr.{Attr}
use Rattle.nc_model.specs.declared.header.Dim.{Dim}
use Rattle.nc_model.specs.declared.header.Header.{Header}
use Rattle.nc_model.specs.declared.header.NcVar.{NcVar}
use Rattle.nc_model.specs.declared.kind.Kind.{Kind}
use Rattle.nc_model.specs.Format.{padded_len, DIMENSION_TAG, VARIABLE_TAG, ATTRIBUTE_TAG, MAX_RANK, is_name_text, is_record_dim}
use Rattle.nc_model.specs.Kind.{size_of, code_of}

-- a number of four bytes, the most significant first
pub record SpellsWord (text : List ℕ) (n : ℕ) : Type 0 where
  pub small : n < 2 ^ 32
  pub text_is : text ≡ to_be_bytes w32 n

-- a number of four bytes below 2^31 (NON_NEG)
pub record SpellsCount (text : List ℕ) (n : ℕ) : Type 0 where
  pub small : n < 2 ^ 31
  pub text_is : text ≡ to_be_bytes w32 n

-- some bytes, and any padding up to a multiple of four
pub record SpellsPadded (text bytes : List ℕ) : Type 0 where
  pub padding : List ℕ
  pub text_is : text ≡ bytes ++ padding
  pub length_is : length text ≡ padded_len (length bytes)

-- a kind, by its number (nc_type)
abbrev pub SpellsKind : List ℕ → Kind → Type 0
SpellsKind text kind = text ≡ to_be_bytes w32 (code_of kind)

-- the length of a name, and the name with padding
pub record SpellsName (text name : List ℕ) : Type 0 where
  pub count_text : List ℕ
  pub name_text : List ℕ
  pub count : SpellsCount count_text (length name)
  pub named : IsTrue (is_name_text name)
  pub bytes : SpellsPadded name_text name
  pub text_is : text ≡ count_text ++ name_text

-- items one after the other
abbrev pub Spelled : {A : Type 0} → (List ℕ → A → Type 0) → List ℕ → List A → Type 0
Spelled S text [] = text ≡ []
Spelled S text (item ∷ items) = (first : List ℕ) × (others : List ℕ) × S first item × Spelled S others items
    × (text ≡ first ++ others)

-- the tag of a list, the number of its items, and the items
pub record SpellsTagged {A : Type 0} (tag : ℕ) (S : List ℕ → A → Type 0) (text : List ℕ) (items : List A) : Type 0 where
  pub count_text : List ℕ
  pub items_text : List ℕ
  pub count : SpellsCount count_text (length items)
  pub each : Spelled S items_text items
  pub text_is : text ≡ to_be_bytes w32 tag ++ count_text ++ items_text

-- a list without items that is left out: eight zero bytes (ABSENT)
pub record SpellsAbsent {A : Type 0} (text : List ℕ) (items : List A) : Type 0 where
  pub none : items ≡ []
  pub text_is : text ≡ replicate 8 0

-- a list
abbrev pub SpellsList : {A : Type 0} → ℕ → (List ℕ → A → Type 0) → List ℕ → List A → Type 0
SpellsList tag S text items = SpellsAbsent text items ⊎ SpellsTagged tag S text items

-- a dimension: its name and its length
pub record SpellsDim (text : List ℕ) (dim : Dim) : Type 0 where
  pub name_text : List ℕ
  pub size_text : List ℕ
  pub name : SpellsName name_text dim.name
  pub size : SpellsCount size_text dim.size
  pub text_is : text ≡ name_text ++ size_text

-- an attribute: its name, the kind and the number of its values, and the values with padding
pub record SpellsAttr (text : List ℕ) (attr : Attr) : Type 0 where
  pub name_text : List ℕ
  pub kind_text : List ℕ
  pub count_text : List ℕ
  pub values_text : List ℕ
  pub count : ℕ
  pub name : SpellsName name_text attr.name
  pub kind : SpellsKind kind_text attr.kind
  pub counted : SpellsCount count_text count
  pub length_is : length attr.values ≡ count * size_of attr.kind
  pub values : SpellsPadded values_text attr.values
  pub text_is : text ≡ name_text ++ kind_text ++ count_text ++ values_text

-- the offset of a variable's data: four bytes in version 1, eight in version 2
abbrev pub SpellsBegin : ℕ → List ℕ → ℕ → Type 0
SpellsBegin version text begin = ((version ≡ 1) × (begin < 2 ^ 32) × (text ≡ to_be_bytes w32 begin))
    ⊎ ((version ≡ 2) × (begin < 2 ^ 64) × (text ≡ to_be_bytes w64 begin))

-- a variable: its name, its rank, the numbers of its dimensions, its attributes, its kind, a size of four bytes that
-- nothing is compared with (vsize), and the offset of its data
pub record SpellsVar (version : ℕ) (text : List ℕ) (var : NcVar) : Type 0 where
  pub name_text : List ℕ
  pub rank_text : List ℕ
  pub dims_text : List ℕ
  pub attrs_text : List ℕ
  pub kind_text : List ℕ
  pub size_text : List ℕ
  pub begin_text : List ℕ
  pub name : SpellsName name_text var.name
  pub rank : SpellsCount rank_text (length var.dims)
  pub dims : Spelled SpellsWord dims_text var.dims
  pub attrs : SpellsList ATTRIBUTE_TAG SpellsAttr attrs_text var.attrs
  pub kind : SpellsKind kind_text var.kind
  pub size : length size_text ≡ 4
  pub begin : SpellsBegin version begin_text var.begin
  pub text_is : text ≡ name_text ++ rank_text ++ dims_text ++ attrs_text ++ kind_text ++ size_text ++ begin_text

-- a header: `CDF` and the version, the number of records, the dimensions, the attributes of the file, the variables
pub record SpellsHeader (text : List ℕ) (header : Header) : Type 0 where
  pub numrecs_text : List ℕ
  pub dims_text : List ℕ
  pub attrs_text : List ℕ
  pub vars_text : List ℕ
  pub version : (header.version ≡ 1) ⊎ (header.version ≡ 2)
  pub numrecs : SpellsCount numrecs_text header.numrecs
  pub dims : SpellsList DIMENSION_TAG SpellsDim dims_text header.dims
  pub attrs : SpellsList ATTRIBUTE_TAG SpellsAttr attrs_text header.attrs
  pub vars : SpellsList VARIABLE_TAG (SpellsVar header.version) vars_text header.vars
  pub text_is : text ≡ codes "CDF" ++ header.version ∷ [] ++ numrecs_text ++ dims_text ++ attrs_text ++ vars_text

-- no two names are the same
abbrev pub AreDistinct : List (List ℕ) → Type 0
AreDistinct names = IsDistinct bytes_eq names

-- the dimension of this number isn't the record dimension
abbrev pub NamesNoRecord : List Dim → ℕ → Type 0
NamesNoRecord dims id = IfSome (slice_get dims id) (λ dim. is_record_dim dim ≡ false)

-- a variable of a file with these dimensions is sound: its rank is within the limit, its dimensions are there, the
-- record dimension stands first or not at all, and its attributes have different names
pub record IsSoundVar (dims : List Dim) (var : NcVar) : Type 0 where
  pub rank : length var.dims ≤ MAX_RANK
  pub named : AllByRecursion (λ id. id < length dims) var.dims
  pub record_first : AllByRecursion (NamesNoRecord dims) (drop 1 var.dims)
  pub attrs : AreDistinct (map (λ (a : Attr). a.name) var.attrs)

-- a header is sound: names differ within each list, there is at most one record dimension, the variables are sound
pub record IsSound (header : Header) : Type 0 where
  pub dims : AreDistinct (map (λ (d : Dim). d.name) header.dims)
  pub one_record : count_by is_record_dim header.dims ≤ 1
  pub attrs : AreDistinct (map (λ (a : Attr). a.name) header.attrs)
  pub vars : AreDistinct (map (λ (v : NcVar). v.name) header.vars)
  pub each : AllByRecursion (IsSoundVar header.dims) header.vars

-- the bytes begin with a spelling of this header, which is sound
pub record HeaderOf (bytes : List ℕ) (header : Header) : Type 0 where
  pub text : List ℕ
  pub rest : List ℕ
  pub spelled : SpellsHeader text header
  pub sound : IsSound header
  pub split : bytes ≡ text ++ rest
