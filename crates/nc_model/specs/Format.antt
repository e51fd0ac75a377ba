-- The constants and the smallest parts of the classic format (NetCDF Classic Format Specification, "The Format in
-- Detail").
use Rattle.std.specs.Prelude.{ℕ, ◌+◌, ◌*◌, ◌/◌, ◌<◌, List, length, slice_index, Bool, not, ◌&&◌, ◌||◌, ◌==◌}
use Rattle.std.specs.List.{list_any}
use Rattle.std.specs.Str.{is_utf8, bytes_eq}
use Rattle.nc_model.specs.declared.header.Dim.{Dim}

-- each number of the list is a byte
abbrev pub IsBytes : List ℕ → Type 0
IsBytes bytes = (i : ℕ) → slice_index bytes i < 256

-- a length rounded up to a multiple of four
abbrev pub padded_len : ℕ → ℕ
padded_len n = (n + 3) / 4 * 4

-- the tags of the three lists
abbrev pub DIMENSION_TAG : ℕ
DIMENSION_TAG = 10

abbrev pub VARIABLE_TAG : ℕ
VARIABLE_TAG = 11

abbrev pub ATTRIBUTE_TAG : ℕ
ATTRIBUTE_TAG = 12

-- the number of records of a file that is still being written (STREAMING)
abbrev pub STREAMING : ℕ
STREAMING = 0xffff_ffff

-- the greatest rank of a variable (NC_MAX_VAR_DIMS)
abbrev pub MAX_RANK : ℕ
MAX_RANK = 1024

-- the bytes 0 and `/`, which no name has
abbrev pub is_barred : ℕ → Bool
is_barred byte = byte == 0 || byte == 47

-- whether a text may be a name: UTF-8, not empty, without a zero byte and without a slash
unfoldable pub is_name_text : List ℕ → Bool
is_name_text text = not (length text == 0) && is_utf8 text && not (list_any is_barred text)

-- whether the name is among these
unfoldable pub has_name : List (List ℕ) → List ℕ → Bool
has_name names name = list_any (λ other. bytes_eq other name) names

-- the record dimension is the one of size 0
abbrev pub is_record_dim : Dim → Bool
is_record_dim dim = dim.size == 0

-- whether the record dimension is among these
unfoldable pub has_record_dim : List Dim → Bool
has_record_dim dims = list_any is_record_dim dims
