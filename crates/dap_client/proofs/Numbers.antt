-- Numbers as XDR are read exactly.
use Rattle.std.proofs.Common.{◌≡◌, ℕ, ◌/◌, ◌%◌, ◌<◌, false, List, [], ◌∷◌, ◌++◌, refl, sym, ap₂, ◌∙◌, arith}
use Rattle.std.proofs.lemmas.Nat.{be_bytes_4, be_bytes_8, from_be_bytes-to_be_bytes_4, from_be_bytes-to_be_bytes_8}
use Rattle.std.specs.Int.{w32, w64, from_be_bytes, to_be_bytes}
use Rattle.fm_base.proofs.Exact.{Then}
use Rattle.nc_model.specs.Format.{IsBytes}
use Rattle.nc_model.specs.Spelling.{SpellsWord}
use Rattle.nc_model.proofs.Fields.{SpellsLong}
use Rattle.dap_model.specs.declared.declaration.DapKind.{DapKind}
use Rattle.dap_model.specs.declared.declaration.DapKind.TheVariants.{Byte, Int16, Int32, Float32, Float64, Text}
use Rattle.dap_model.specs.Xdr.{AreBitsOf, bits_in, element_bytes, number_bytes}
use Rattle.dap_client.specs.DataReading.{element_at, is_text, number_at, octet_at, octet_of_4_at, short_at, word_of_4_at, word_of_8_at}
use Rattle.dap_client.specs.Reading.{bytes_at, fixed_at}
use Rattle.dap_client.proofs.Exactly.{ExactTo, ExactTo-as}
use Rattle.dap_client.proofs.Joined.{ExactTo-made, then_so}
use Rattle.dap_client.proofs.Octets.{ExactTo-octet, IsOctet}
use Rattle.dap_client.proofs.Shorts.{ExactTo-short, IsShort}
use Rattle.dap_client.proofs.Fixed.{AreBytes, IsBytes-append, IsFixed, bytes_of_4, ExactTo-bytes, ExactTo-fixed}

word_bytes : (n : ℕ) → IsBytes (to_be_bytes w32 n)
word_bytes n = bytes_of_4 (n / 16777216 % 256) (n / 65536 % 256) (n / 256 % 256) (n % 256)
    (omega arith) (omega arith) (omega arith) (omega arith)

long_bytes : (n : ℕ) → IsBytes (to_be_bytes w64 n)
long_bytes n =
    let a = n / 72057594037927936 % 256 in
    let b = n / 281474976710656 % 256 in
    let c = n / 1099511627776 % 256 in
    let d = n / 4294967296 % 256 in
    let e = n / 16777216 % 256 in
    let f = n / 65536 % 256 in
    let g = n / 256 % 256 in
    let h = n % 256 in
    let upper : IsBytes (a ∷ b ∷ c ∷ d ∷ []) =
    bytes_of_4 a b c d (omega arith) (omega arith) (omega arith) (omega arith) in
    let lower : IsBytes (e ∷ f ∷ g ∷ h ∷ []) =
    bytes_of_4 e f g h (omega arith) (omega arith) (omega arith) (omega arith) in
    IsBytes-append (a ∷ b ∷ c ∷ d ∷ []) (e ∷ f ∷ g ∷ h ∷ []) upper lower

pub ExactTo-word_of_4 : (n : ℕ) → ExactTo n SpellsWord word_of_4_at
unfolding word_of_4_at
ExactTo-word_of_4 n =
    ExactTo-made n (AreBytes 4) SpellsWord (bytes_at 4) (from_be_bytes w32)
    (λ text bytes s.
    let fits = s.bytes_are in
    record {
      small = omega (arith, fits 0, fits 1, fits 2, fits 3);
      text_is = s.text_is ∙ sym (be_bytes_4 bytes _ s.size fits refl);
    })
    (λ text bits t. (
      to_be_bytes w32 bits,
      record { size = refl; bytes_are = word_bytes bits; text_is = t.text_is },
      from_be_bytes-to_be_bytes_4 bits t.small,
    ))
    (ExactTo-bytes n 4)

ExactTo-word_of_8 : (n : ℕ) → ExactTo n SpellsLong word_of_8_at
unfolding word_of_8_at
ExactTo-word_of_8 n =
    ExactTo-made n (AreBytes 8) SpellsLong (bytes_at 8) (from_be_bytes w64)
    (λ text bytes s.
    let fits = s.bytes_are in
    record {
      small = omega (arith, fits 0, fits 1, fits 2, fits 3, fits 4, fits 5, fits 6, fits 7);
      text_is = s.text_is ∙ sym (be_bytes_8 bytes _ s.size fits refl);
    })
    (λ text bits t. (
      to_be_bytes w64 bits,
      record { size = refl; bytes_are = long_bytes bits; text_is = t.text_is },
      from_be_bytes-to_be_bytes_8 bits t.small,
    ))
    (ExactTo-bytes n 8)

-- a byte in four
record IsOctetOf4 (text : List ℕ) (bits : ℕ) : Type 0 where
  small : bits < 256
  text_is : text ≡ 0 ∷ 0 ∷ 0 ∷ bits ∷ []

ExactTo-octet_of_4 : (n : ℕ) → ExactTo n IsOctetOf4 octet_of_4_at
unfolding octet_of_4_at
ExactTo-octet_of_4 n =
    ExactTo-as n (Then (IsFixed (0 ∷ 0 ∷ 0 ∷ [])) (λ zeros. IsOctet)) IsOctetOf4 octet_of_4_at
    (λ text bits s. record {
      small = s.second.small;
      text_is = s.text_is ∙ ap₂ (λ (x y : List ℕ). x ++ y) s.first.text_is s.second.text_is;
    })
    (λ text bits t. record {
      a = tt;
      front = 0 ∷ 0 ∷ 0 ∷ [];
      back = bits ∷ [];
      first = record { text_is = refl };
      second = record { small = t.small; text_is = refl };
      text_is = t.text_is;
    })
    (then_so n (IsFixed (0 ∷ 0 ∷ 0 ∷ [])) (λ zeros. IsOctet) (fixed_at (0 ∷ 0 ∷ 0 ∷ [])) _
    (ExactTo-fixed n (0 ∷ 0 ∷ 0 ∷ [])) (λ zeros front s. ExactTo-octet n))

-- a number of a kind alone
pub record IsNumber (kind : DapKind) (text : List ℕ) (bits : ℕ) : Type 0 where
  pub small : AreBitsOf kind bits
  pub text_is : text ≡ number_bytes kind bits

-- a number of a kind in an array
pub record IsElement (kind : DapKind) (text : List ℕ) (bits : ℕ) : Type 0 where
  pub small : AreBitsOf kind bits
  pub text_is : text ≡ element_bytes kind bits

-- a byte in four, as a number
octet_text : (bits : ℕ) → bits < 256 → 0 ∷ 0 ∷ 0 ∷ bits ∷ [] ≡ number_bytes Byte bits
unfolding number_bytes
octet_text bits small = sym (be_bytes_4 (0 ∷ 0 ∷ 0 ∷ bits ∷ []) bits refl
    (bytes_of_4 0 0 0 bits (omega arith) (omega arith) (omega arith) small) (omega arith))

-- a number alone is read exactly
pub ExactTo-number : (n : ℕ) (kind : DapKind) → is_text kind ≡ false → ExactTo n (IsNumber kind) (number_at kind)
unfolding number_at number_bytes bits_in is_text
ExactTo-number n Byte isnt =
    ExactTo-as n IsOctetOf4 (IsNumber Byte) octet_of_4_at
    (λ text bits s. record { small = s.small; text_is = s.text_is ∙ octet_text bits s.small })
    (λ text bits t. record { small = t.small; text_is = t.text_is ∙ sym (octet_text bits t.small) })
    (ExactTo-octet_of_4 n)
ExactTo-number n Int16 isnt =
    ExactTo-as n IsShort (IsNumber Int16) short_at
    (λ text bits s. record { small = s.small; text_is = s.text_is })
    (λ text bits t. record { small = t.small; text_is = t.text_is })
    (ExactTo-short n)
ExactTo-number n Int32 isnt =
    ExactTo-as n SpellsWord (IsNumber Int32) word_of_4_at
    (λ text bits s. record { small = s.small; text_is = s.text_is })
    (λ text bits t. record { small = t.small; text_is = t.text_is })
    (ExactTo-word_of_4 n)
ExactTo-number n Float32 isnt =
    ExactTo-as n SpellsWord (IsNumber Float32) word_of_4_at
    (λ text bits s. record { small = s.small; text_is = s.text_is })
    (λ text bits t. record { small = t.small; text_is = t.text_is })
    (ExactTo-word_of_4 n)
ExactTo-number n Float64 isnt =
    ExactTo-as n SpellsLong (IsNumber Float64) word_of_8_at
    (λ text bits s. record { small = s.small; text_is = s.text_is })
    (λ text bits t. record { small = t.small; text_is = t.text_is })
    (ExactTo-word_of_8 n)
ExactTo-number n Text isnt = absurd cc

-- a number in an array is read exactly
pub ExactTo-element : (n : ℕ) (kind : DapKind) → is_text kind ≡ false → ExactTo n (IsElement kind) (element_at kind)
unfolding element_at element_bytes number_bytes bits_in is_text
ExactTo-element n Byte isnt =
    ExactTo-as n IsOctet (IsElement Byte) octet_at
    (λ text bits s. record { small = s.small; text_is = s.text_is })
    (λ text bits t. record { small = t.small; text_is = t.text_is })
    (ExactTo-octet n)
ExactTo-element n Int16 isnt =
    ExactTo-as n IsShort (IsElement Int16) short_at
    (λ text bits s. record { small = s.small; text_is = s.text_is })
    (λ text bits t. record { small = t.small; text_is = t.text_is })
    (ExactTo-short n)
ExactTo-element n Int32 isnt =
    ExactTo-as n SpellsWord (IsElement Int32) word_of_4_at
    (λ text bits s. record { small = s.small; text_is = s.text_is })
    (λ text bits t. record { small = t.small; text_is = t.text_is })
    (ExactTo-word_of_4 n)
ExactTo-element n Float32 isnt =
    ExactTo-as n SpellsWord (IsElement Float32) word_of_4_at
    (λ text bits s. record { small = s.small; text_is = s.text_is })
    (λ text bits t. record { small = t.small; text_is = t.text_is })
    (ExactTo-word_of_4 n)
ExactTo-element n Float64 isnt =
    ExactTo-as n SpellsLong (IsElement Float64) word_of_8_at
    (λ text bits s. record { small = s.small; text_is = s.text_is })
    (λ text bits t. record { small = t.small; text_is = t.text_is })
    (ExactTo-word_of_8 n)
ExactTo-element n Text isnt = absurd cc
