-- The first fault of a header, in the order of the fields in the file, and the header where there is none.
use Rattle.std.specs.Prelude.{◌≡◌, ℕ, zero, suc, ◌+◌, ◌*◌, ◌^◌, List, [], ◌∷◌, ◌++◌, length, take, drop, map, slice_get, slice_index, Option, Some, None, Result, Ok, Err, nat_lt, nat_le, ◌==◌, ◌&&◌, ◌||◌, not, Bool, false, if◌then◌else◌, codes}
use Rattle.std.specs.Int.{w32, w64, from_be_bytes}
use Rattle.std.specs.Option.{option_map_or}
use Rattle.std.specs.Str.{bytes_eq}
use Rattle.fm_base.specs.declared.fail.Fail.{Fail}
use Rattle.fm_base.specs.declared.fail.Fail.TheVariants as fails
use Rattle.nc_model.specs.declared.fault.HeaderFault.{HeaderFault}
use Rattle.nc_model.specs.declared.fault.HeaderFault.TheVariants.{BadMagic, BadVersion, Truncated, BadTag, BadCount, BadName, BadType, BadDimId, TwoRecordDims, RecordNotFirst, RepeatedName, Streaming}
use Rattle.nc_model.specs.declared.header.Attr.{Attr}
use Rattle.nc_model.specs.declared.header.Dim.{Dim}
use Rattle.nc_model.specs.declared.header.Header.{Header}
use Rattle.nc_model.specs.declared.header.NcVar.{NcVar}
use Rattle.nc_model.specs.declared.kind.Kind.{Kind}
use Rattle.nc_model.specs.declared.kind.Kind.TheVariants.{Byte, Char, Short, Int, Float, Double}
use Rattle.nc_model.specs.Format.{padded_len, DIMENSION_TAG, VARIABLE_TAG, ATTRIBUTE_TAG, STREAMING as STREAMING_COUNT, MAX_RANK, is_name_text, has_name, is_record_dim, has_record_dim}
use Rattle.fm_base.specs.Input.{Input, whole}
use Rattle.nc_model.specs.Kind.{size_of}
use Rattle.fm_base.specs.Parser.{Outcome, Parser, ◌>>=◌, pure, located, unless, known, value_of}

-- a parser of a part of a header
abbrev pub HeaderParser : Type 0 → Type 0
HeaderParser A = Parser A HeaderFault

-- n bytes, as one field
abbrev pub field : ℕ → HeaderParser (List ℕ)
field n = λ i. if nat_lt (length i.rest) n then Err (Truncated i.at)
    else Ok (take n i.rest, record { at = i.at + n; rest = drop n i.rest })

-- a number of four bytes
unfoldable pub word : HeaderParser ℕ
word = field 4 >>= λ bytes. pure (from_be_bytes w32 bytes)

-- a number of eight bytes
unfoldable pub long_word : HeaderParser ℕ
long_word = field 8 >>= λ bytes. pure (from_be_bytes w64 bytes)

-- a count, which is below 2^31
unfoldable pub count : HeaderParser ℕ
count = located (λ at. word >>= λ n. unless (nat_le (2 ^ 31) n) (BadCount at) n)

-- `len` bytes, with padding to a multiple of four
unfoldable pub padded : ℕ → HeaderParser (List ℕ)
padded len = field (padded_len len) >>= λ bytes. pure (take len bytes)

-- a name that isn't among these
unfoldable pub name_at : List (List ℕ) → HeaderParser (List ℕ)
name_at found = located (λ at. count >>= λ len. padded len
    >>= λ name. unless (not (is_name_text name)) (BadName at) name
    >>= λ name. unless (has_name found name) (RepeatedName at) name)

-- the kind of this number
abbrev pub kind_of : ℕ → Option Kind
kind_of code = if code == 1 then Some Byte
    else (if code == 2 then Some Char
    else (if code == 3 then Some Short
    else (if code == 4 then Some Int
    else (if code == 5 then Some Float
    else (if code == 6 then Some Double else None)))))

unfoldable pub kind_at : HeaderParser Kind
kind_at = located (λ at. word >>= λ code. known (BadType at) (kind_of code))

-- n items after those that were found; each may depend on those before it
unfoldable pub items_from : {A : Type 0} → (List A → HeaderParser A) → ℕ → List A → HeaderParser (List A)
items_from item zero found = pure found
items_from item (suc n) found = item found >>= λ next. items_from item n (found ++ next ∷ [])

-- the tag of a list, or 0 where it is left out
unfoldable pub tag_at : ℕ → HeaderParser ℕ
tag_at tag = located (λ at. word >>= λ found. unless (not (found == tag || found == 0)) (BadTag at) found)

-- the number of a list's items, which is 0 where the list is left out
unfoldable pub list_count : ℕ → HeaderParser ℕ
list_count tag = located (λ at. word >>= λ n. unless (nat_le (2 ^ 31) n || (tag == 0 && not (n == 0))) (BadCount at) n)

-- a list
unfoldable pub list_at : {A : Type 0} → ℕ → (List A → HeaderParser A) → HeaderParser (List A)
list_at tag item = tag_at tag >>= λ found. list_count found >>= λ n. items_from item n []

-- the length of a dimension after these, of which at most one is the record dimension
unfoldable pub dim_size : List Dim → HeaderParser ℕ
dim_size found = located (λ at. count >>= λ size. unless (size == 0 && has_record_dim found) (TwoRecordDims at) size)

unfoldable pub dim_at : List Dim → HeaderParser Dim
dim_at found = do
  name ← name_at (map (λ (d : Dim). d.name) found)
  size ← dim_size found
  pure (record { name = name; size = size })

unfoldable pub attr_at : List Attr → HeaderParser Attr
attr_at found = do
  name ← name_at (map (λ (a : Attr). a.name) found)
  kind ← kind_at
  n ← count
  values ← padded (n * size_of kind)
  pure (record { name = name; kind = kind; values = values })

-- the rank of a variable
unfoldable pub rank_at : HeaderParser ℕ
rank_at = located (λ at. word >>= λ rank. unless (nat_lt MAX_RANK rank) (BadCount at) rank)

-- whether the dimension of this number is the record dimension
unfoldable pub names_record_dim : List Dim → ℕ → Bool
names_record_dim dims id = option_map_or is_record_dim (slice_get dims id) false

-- the number of a dimension after these: it is there, and the record dimension stands first
unfoldable pub dim_id_at : List Dim → List ℕ → HeaderParser ℕ
dim_id_at dims found = located
    (λ at. word >>= λ id. unless (nat_le (length dims) id) (BadDimId at) id
    >>= λ id. unless (not (length found == 0) && names_record_dim dims id) (RecordNotFirst at) id)

-- the offset of a variable's data
unfoldable pub begin_at : ℕ → HeaderParser ℕ
begin_at version = if version == 1 then word else long_word

unfoldable pub var_at : ℕ → List Dim → List NcVar → HeaderParser NcVar
var_at version dims found = do
  name ← name_at (map (λ (v : NcVar). v.name) found)
  rank ← rank_at
  ids ← items_from (dim_id_at dims) rank []
  attrs ← list_at ATTRIBUTE_TAG attr_at
  kind ← kind_at
  size ← field 4
  begin ← begin_at version
  pure (record { name = name; dims = ids; attrs = attrs; kind = kind; begin = begin })

-- `CDF`, and the version
unfoldable pub version_at : HeaderParser ℕ
version_at = λ i. if nat_lt (length i.rest) 4 || not (bytes_eq (take 3 i.rest) (codes "CDF")) then Err BadMagic
    else (if slice_index i.rest 3 == 1 || slice_index i.rest 3 == 2
    then Ok (slice_index i.rest 3, record { at = i.at + 4; rest = drop 4 i.rest })
    else Err (BadVersion (slice_index i.rest 3)))

-- the number of records, which is known
unfoldable pub numrecs_at : HeaderParser ℕ
numrecs_at = located (λ at. word >>= λ n. unless (n == STREAMING_COUNT) Streaming n
    >>= λ n. unless (nat_le (2 ^ 31) n) (BadCount at) n)

unfoldable pub header_at : HeaderParser Header
header_at = do
  version ← version_at
  numrecs ← numrecs_at
  dims ← list_at DIMENSION_TAG dim_at
  attrs ← list_at ATTRIBUTE_TAG attr_at
  vars ← list_at VARIABLE_TAG (var_at version dims)
  pure (record { version = version; numrecs = numrecs; dims = dims; attrs = attrs; vars = vars })

-- the header that some bytes begin with, or its first fault
unfoldable pub header_or_fault : List ℕ → Result Header HeaderFault
header_or_fault bytes = value_of (header_at (whole bytes))

-- what a reader returned, and where it stands then, is the outcome of this parser, unless memory ran out
abbrev pub Reads : {X Y : Type 0} → (X → Y) → Outcome Y HeaderFault → Result X (Fail HeaderFault) → Input → Type 0
Reads view outcome (Ok x) new = outcome ≡ Ok (view x, new)
Reads view outcome (Err fails.NoMemory) new = Unit {0}
Reads view outcome (Err (fails.Fault fault)) new = outcome ≡ Err fault
