-- Reading the values that a structure text declares, and a whole message.
use Rattle.std.specs.Prelude.{ℕ, ◌+◌, ◌*◌, List, [], ◌∷◌, ◌++◌, length, codes, slice_index, Bool, true, false, ◌==◌, nat_le, nat_lt, if◌then◌else◌, Option, Some, None, Result, Err}
use Rattle.std.specs.Int.{w32, w64, from_be_bytes, to_be_bytes}
use Rattle.fm_base.specs.Input.{whole}
use Rattle.fm_base.specs.Parser.{◌>>=◌, pure, value_of}
use Rattle.nc_model.specs.declared.header.Dim.{Dim}
use Rattle.nc_model.specs.UnitsReading.{byte_at, end_at}
use Rattle.dap_model.specs.declared.declaration.Array.{Array}
use Rattle.dap_model.specs.declared.declaration.DapKind.{DapKind}
use Rattle.dap_model.specs.declared.declaration.DapKind.TheVariants.{Byte, Int16, Int32, Float32, Float64, Text}
use Rattle.dap_model.specs.declared.declaration.Decl.{Decl}
use Rattle.dap_model.specs.Picking.{parts_of}
use Rattle.dap_model.specs.Xdr.{zeros_after}
use Rattle.dap_client.specs.declared.message.Column.{Column}
use Rattle.dap_client.specs.declared.message.Column.TheVariants.{Numbers, Texts}
use Rattle.dap_client.specs.declared.message.Message.{Message}
use Rattle.dap_client.specs.Reading.{Reader, byte_as, bytes_at, fixed_at, mark_at, repeat_at}
use Rattle.dap_client.specs.TextReading.{dataset_at, MOST_VALUES}

-- one byte
unfoldable pub octet_at : Reader ℕ
octet_at = bytes_at 1 >>= λ bytes. pure (slice_index bytes 0)

-- a number of four bytes
unfoldable pub word_of_4_at : Reader ℕ
word_of_4_at = bytes_at 4 >>= λ bytes. pure (from_be_bytes w32 bytes)

-- a number of eight bytes
unfoldable pub word_of_8_at : Reader ℕ
word_of_8_at = bytes_at 8 >>= λ bytes. pure (from_be_bytes w64 bytes)

-- the byte that fills a number of two bytes up to four, by whether the number is 0 or more
abbrev pub sign_byte : Bool → ℕ
sign_byte positive = if positive then 0 else 255

-- the upper byte of a number of two bytes that is 0 or more, or less
unfoldable pub upper_byte : Bool → ℕ → Option ℕ
upper_byte positive byte =
    if nat_lt byte 128 then (if positive then Some byte else None) else (if positive then None else Some byte)

-- a number of two bytes in four, with its sign
unfoldable pub short_at : Reader ℕ
short_at = do
  positive ← mark_at 0 255
  sign ← byte_at (sign_byte positive)
  upper ← byte_as (upper_byte positive)
  lower ← octet_at
  pure (upper * 256 + lower)

-- a byte in four
unfoldable pub octet_of_4_at : Reader ℕ
octet_of_4_at = fixed_at (0 ∷ 0 ∷ 0 ∷ []) >>= λ zeros. octet_at

-- a number of this kind alone
unfoldable pub number_at : DapKind → Reader ℕ
number_at Byte = octet_of_4_at
number_at Int16 = short_at
number_at Int32 = word_of_4_at
number_at Float32 = word_of_4_at
number_at Float64 = word_of_8_at
number_at Text = pure 0

-- a number of this kind in an array
unfoldable pub element_at : DapKind → Reader ℕ
element_at Byte = octet_at
element_at Int16 = short_at
element_at Int32 = word_of_4_at
element_at Float32 = word_of_4_at
element_at Float64 = word_of_8_at
element_at Text = pure 0

-- the zero bytes behind n numbers of this kind
unfoldable pub filler : DapKind → ℕ → List ℕ
filler Byte n = zeros_after n
filler Int16 n = []
filler Int32 n = []
filler Float32 n = []
filler Float64 n = []
filler Text n = []

-- n numbers of this kind in an array
unfoldable pub elements_at : DapKind → ℕ → Reader (List ℕ)
elements_at kind n = do
  bits ← repeat_at (element_at kind) n []
  zeros ← fixed_at (filler kind n)
  pure bits

-- a text: its length, its bytes and zero bytes
unfoldable pub text_at : Reader (List ℕ)
text_at = do
  len ← word_of_4_at
  word ← bytes_at len
  zeros ← fixed_at (zeros_after len)
  pure word

-- whether values of this kind are texts
unfoldable pub is_text : DapKind → Bool
is_text Byte = false
is_text Int16 = false
is_text Int32 = false
is_text Float32 = false
is_text Float64 = false
is_text Text = true

-- a column of one text
abbrev pub text_alone_at : Reader Column
text_alone_at = text_at >>= λ word. pure (Texts (word ∷ []))

-- a column of one number
abbrev pub number_alone_at : DapKind → Reader Column
number_alone_at kind = number_at kind >>= λ bits. pure (Numbers (bits ∷ []))

-- a column of one number or text
unfoldable pub alone_at : DapKind → Reader Column
alone_at kind = if is_text kind then text_alone_at else number_alone_at kind

-- n texts in an array
unfoldable pub texts_at : ℕ → Reader Column
texts_at n = do
  count ← fixed_at (to_be_bytes w32 n)
  words ← repeat_at text_at n []
  pure (Texts words)

-- n numbers in an array
unfoldable pub numbers_at : DapKind → ℕ → Reader Column
numbers_at kind n = do
  count ← fixed_at (to_be_bytes w32 n)
  again ← fixed_at (to_be_bytes w32 n)
  bits ← elements_at kind n
  pure (Numbers bits)

-- a column of n values in an array
unfoldable pub along_at : DapKind → ℕ → Reader Column
along_at kind n = if is_text kind then texts_at n else numbers_at kind n

-- how many values an array with these dimensions has times some, unless they are more than can be counted
unfoldable pub counted_from : ℕ → List Dim → Option ℕ
counted_from count [] = Some count
counted_from count (dim ∷ dims) =
    if nat_le (count * dim.size) MOST_VALUES then counted_from (count * dim.size) dims else None

-- how many values an array with these dimensions has, unless they are more than can be counted
unfoldable pub counted : List Dim → Option ℕ
counted dims = counted_from 1 dims

-- a column of this many values, which are no more than can be counted
unfoldable pub column_along : DapKind → Option ℕ → Reader Column
column_along kind None = λ i. Err i.at
column_along kind (Some n) = along_at kind n

-- the column of an array
unfoldable pub column_at : Array → Reader Column
column_at array =
    if length array.dims == 0 then alone_at array.kind else column_along array.kind (counted array.dims)

-- the column of an array, after others
unfoldable pub column_after : List Column → Array → Reader (List Column)
column_after found array = column_at array >>= λ next. pure (found ++ next ∷ [])

-- the columns of arrays, after others
unfoldable pub columns_after : List Column → List Array → Reader (List Column)
columns_after found [] = pure found
columns_after found (array ∷ arrays) = column_after found array >>= λ next. columns_after next arrays

-- the columns of the parts of declarations, after others
unfoldable pub columns_at : List Decl → List Column → Reader (List Column)
columns_at [] found = pure found
columns_at (decl ∷ decls) found = columns_after found (parts_of decl) >>= λ next. columns_at decls next

-- a message, whatever stands behind it
unfoldable pub body_at : Reader Message
body_at = do
  dataset ← dataset_at
  line ← fixed_at (codes "Data:\n")
  columns ← columns_at dataset.1 []
  pure (record { label = dataset.0; decls = dataset.1; columns = columns })

-- a message and nothing behind it
unfoldable pub message_at : Reader Message
message_at = body_at >>= λ message. end_at >>= λ end. pure message

-- the message that bytes spell, or the greatest offset up to which some message begins so
unfoldable pub message_or_fault : List ℕ → Result Message ℕ
message_or_fault bytes = value_of (message_at (whole bytes))
