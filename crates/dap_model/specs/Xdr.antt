-- Values as XDR (RFC 4506; ESE-RFC-004, the data of DAP 2.0).
use Rattle.std.specs.Prelude.{ℕ, ◌+◌, ◌-◌, ◌*◌, ◌^◌, ◌<◌, List, [], ◌∷◌, ◌++◌, length, map, replicate}
use Rattle.std.specs.Int.{w16, w32, w64, to_be_bytes, cast_signed, cast_unsigned}
use Rattle.std.specs.List.{flat_map, sum_by}
use Rattle.nc_model.specs.Format.{padded_len}
use Rattle.dap_model.specs.Box.{box_of}
use Rattle.dap_model.specs.declared.declaration.DapKind.{DapKind}
use Rattle.dap_model.specs.declared.declaration.DapKind.TheVariants.{Byte, Int16, Int32, Float32, Float64, Text}
use Rattle.dap_model.specs.declared.projection.Slab.{Slab}

-- a number by its bits: whole numbers of two bytes take four, with their sign
unfoldable pub number_bytes : DapKind → ℕ → List ℕ
number_bytes Byte bits = to_be_bytes w32 bits
number_bytes Int16 bits = to_be_bytes w32 (cast_unsigned w32 (cast_signed w16 bits))
number_bytes Int32 bits = to_be_bytes w32 bits
number_bytes Float32 bits = to_be_bytes w32 bits
number_bytes Float64 bits = to_be_bytes w64 bits
number_bytes Text bits = []

-- the zero bytes after n bytes, up to a multiple of four
abbrev pub zeros_after : ℕ → List ℕ
zeros_after n = replicate (padded_len n - n) 0

-- the elements of an array: bytes are packed, with zero bytes up to a multiple of four
unfoldable pub elements_bytes : DapKind → List ℕ → List ℕ
elements_bytes Byte numbers = numbers ++ zeros_after (length numbers)
elements_bytes Int16 numbers = flat_map (number_bytes Int16) numbers
elements_bytes Int32 numbers = flat_map (number_bytes Int32) numbers
elements_bytes Float32 numbers = flat_map (number_bytes Float32) numbers
elements_bytes Float64 numbers = flat_map (number_bytes Float64) numbers
elements_bytes Text numbers = []

-- how many elements an array has, twice: for DAP and for XDR
unfoldable pub count_twice : ℕ → List ℕ
count_twice n = to_be_bytes w32 n ++ to_be_bytes w32 n

-- an array of numbers
unfoldable pub array_bytes : DapKind → List ℕ → List ℕ
array_bytes kind numbers = count_twice (length numbers) ++ elements_bytes kind numbers

-- a text: its length, its bytes, and zero bytes up to a multiple of four
unfoldable pub text_bytes : List ℕ → List ℕ
text_bytes text = to_be_bytes w32 (length text) ++ text ++ zeros_after (length text)

-- an array of texts: how many there are, and each of them
unfoldable pub texts_bytes : List (List ℕ) → List ℕ
texts_bytes texts = to_be_bytes w32 (length texts) ++ flat_map text_bytes texts

-- how many bits a number has
unfoldable pub bits_in : DapKind → ℕ
bits_in Byte = 8
bits_in Int16 = 16
bits_in Int32 = 32
bits_in Float32 = 32
bits_in Float64 = 64
bits_in Text = 0

-- the bits are those of a number of this kind
abbrev pub AreBitsOf : DapKind → ℕ → Type 0
AreBitsOf kind bits = bits < 2 ^ bits_in kind

-- how many bytes a number takes alone
unfoldable pub number_len : DapKind → ℕ
number_len Byte = 4
number_len Int16 = 4
number_len Int32 = 4
number_len Float32 = 4
number_len Float64 = 8
number_len Text = 0

-- an element of an array: a byte takes one
unfoldable pub element_bytes : DapKind → ℕ → List ℕ
element_bytes Byte bits = bits ∷ []
element_bytes Int16 bits = number_bytes Int16 bits
element_bytes Int32 bits = number_bytes Int32 bits
element_bytes Float32 bits = number_bytes Float32 bits
element_bytes Float64 bits = number_bytes Float64 bits
element_bytes Text bits = []

-- how many bytes an element of an array takes
unfoldable pub element_len : DapKind → ℕ
element_len Byte = 1
element_len Int16 = 4
element_len Int32 = 4
element_len Float32 = 4
element_len Float64 = 8
element_len Text = 0

-- how many bytes n elements take, with zero bytes up to a multiple of four
unfoldable pub elements_len : DapKind → ℕ → ℕ
elements_len kind n = padded_len (n * element_len kind)

-- how many bytes a text of this length takes
abbrev pub text_len : ℕ → ℕ
text_len n = 4 + padded_len n

-- how many bytes texts take, one after the other
unfoldable pub texts_len : List (List ℕ) → ℕ
texts_len texts = sum_by (λ (text : List ℕ). text_len (length text)) texts

-- what a part holds: one value or an array of them, numbers by their bits
pub data Values : Type 0 where
  number : ℕ → Values
  numbers : List ℕ → Values
  text : List ℕ → Values
  texts : List (List ℕ) → Values

-- the values of a part: a number alone has no count, so a byte alone takes four bytes
unfoldable pub xdr_of : DapKind → Values → List ℕ
xdr_of kind (number bits) = number_bytes kind bits
xdr_of kind (numbers bits) = array_bytes kind bits
xdr_of kind (text bytes) = text_bytes bytes
xdr_of kind (texts each) = texts_bytes each

-- the numbers that slabs pick, or one where there is no dimension
abbrev pub numbers_at : List Slab → (List ℕ → ℕ) → Values
numbers_at [] bits = number (bits [])
numbers_at slabs bits = numbers (map bits (box_of slabs))

-- the texts that slabs pick, or one where there is no dimension
abbrev pub texts_at : List Slab → (List ℕ → List ℕ) → Values
texts_at [] words = text (words [])
texts_at slabs words = texts (map words (box_of slabs))

-- the values of a part of this kind with these slabs, by what gives the bits or the text at an index
abbrev pub values_at : DapKind → List Slab → (List ℕ → ℕ) → (List ℕ → List ℕ) → Values
values_at Text slabs bits words = texts_at slabs words
values_at kind slabs bits words = numbers_at slabs bits
