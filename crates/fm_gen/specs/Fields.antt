-- How the fields of a made file are written (NetCDF Classic Format Specification, "The Format in Detail").
use Rattle.std.specs.Prelude.{ℕ, ◌%◌, ◌==◌, List, [], ◌∷◌, ◌++◌, length, replicate, if◌then◌else◌}
use Rattle.std.specs.Int.{w32, to_be_bytes}

-- a number of four bytes, the most significant first
unfoldable pub word : ℕ → List ℕ
word n = to_be_bytes w32 n

-- zero bytes up to a multiple of four, after n bytes
abbrev pub padding : ℕ → List ℕ
padding n = if n % 4 == 1 then replicate 3 0
    else (if n % 4 == 2 then replicate 2 0 else (if n % 4 == 3 then replicate 1 0 else []))

-- the number of some bytes, and the bytes with padding
unfoldable pub counted : List ℕ → List ℕ
counted bytes = word (length bytes) ++ bytes ++ padding (length bytes)

-- a dimension: its name and its length
unfoldable pub dim_text : List ℕ → ℕ → List ℕ
dim_text name size = counted name ++ word size

-- the tag of a list and the number of its items
abbrev pub tagged : ℕ → ℕ → List ℕ
tagged tag count = word tag ++ word count

-- a list without items: two zero words
abbrev pub no_list : List ℕ
no_list = tagged 0 0

-- an attribute of characters: its name, its kind and its text
unfoldable pub attr_text : List ℕ → List ℕ → List ℕ
attr_text name text = counted name ++ word 2 ++ counted text

-- the rank of a variable and the numbers of its dimensions
unfoldable pub shape_text : List ℕ → List ℕ
shape_text [] = []
shape_text (id ∷ ids) = word id ++ shape_text ids

-- what stands before a variable's attributes: its name, its rank and the numbers of its dimensions
unfoldable pub var_front : List ℕ → List ℕ → List ℕ
var_front name ids = counted name ++ word (length ids) ++ shape_text ids

-- the fields after a variable's attributes: the number of its kind, its bytes, and the offset of its data
unfoldable pub var_end : ℕ → ℕ → ℕ → List ℕ
var_end kind size begin = word kind ++ word size ++ word begin
