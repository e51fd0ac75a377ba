-- The text of each number, which denotes it exactly.
use Rattle.std.specs.Prelude.{ℕ, suc, ◌+◌, ◌-◌, ◌*◌, ◌/◌, ◌^◌, List, [], ◌++◌, codes, nat_lt, nat_le, ◌&&◌, ◌==◌, if◌then◌else◌, ℤ, pos, negsuc, ◌+ℤ◌, unsigned_abs}
use Rattle.std.specs.Fmt.{decimal, signed_decimal, sign_text}
use Rattle.std.specs.Int.{w16, w32, w64, cast_signed, is_negative, leading_zeros}
use Rattle.nc_model.specs.declared.kind.Kind.{Kind}
use Rattle.nc_model.specs.declared.kind.Kind.TheVariants as kinds
use Rattle.nc_model.specs.declared.pattern.Pattern.{Pattern}
use Rattle.nc_model.specs.declared.pattern.Value.{Value}
use Rattle.nc_model.specs.declared.pattern.Value.TheVariants.{Finite, Infinite, NotANumber}
use Rattle.nc_model.specs.Pattern.{value_of_bits}
use Rattle.fm_bits.specs.Digits.{fixed_digits}

-- a whole number: all its digits
unfoldable pub whole_text : ℕ → List ℕ
whole_text n = decimal n ++ codes ".0"

-- odd / 2^k = odd * 5^k / 10^k: its whole part, and exactly k decimals
unfoldable pub decimals_text : ℕ → ℕ → List ℕ
decimals_text odd k = decimal (odd / 2 ^ k) ++ codes "." ++ fixed_digits 10 k (odd * 5 ^ k)

-- the index of the highest bit of a number below 2^64
unfoldable pub high_index : ℕ → ℕ
high_index n = 63 - leading_zeros w64 n

-- how many hexadecimal digits this number of bits takes
abbrev pub hex_len : ℕ → ℕ
hex_len width = (width + 3) / 4

-- the bits below the highest, filled up with zeros to whole digits, after a point; nothing where there are none
unfoldable pub hex_fraction : ℕ → List ℕ
hex_fraction odd =
    let width = high_index odd in
    if width == 0 then [] else (codes "." ++ fixed_digits 16 (hex_len width) (odd * 2 ^ (4 * hex_len width - width)))

-- an exponent, always with its sign
unfoldable pub exponent_text : ℤ → List ℕ
exponent_text e = (if is_negative e then codes "-" else codes "+") ++ decimal (unsigned_abs e)

-- odd * 2^e as 1.f * 2^E
unfoldable pub hex_text : ℕ → ℤ → List ℕ
hex_text odd e = codes "0x1" ++ hex_fraction odd ++ codes "p" ++ exponent_text (e +ℤ pos (high_index odd))

-- the greatest number of decimals
abbrev pub MAX_DECIMALS : ℕ
MAX_DECIMALS = 40

-- the numbers below this one are printed by their digits
abbrev pub DIGITS_LIMIT : ℕ
DIGITS_LIMIT = 2 ^ 127

-- odd * 2^e: whole, in decimals, or in hexadecimal
unfoldable pub magnitude_text : ℕ → ℤ → List ℕ
magnitude_text odd (pos e) =
    if nat_lt (odd * 2 ^ e) DIGITS_LIMIT then whole_text (odd * 2 ^ e) else hex_text odd (pos e)
magnitude_text odd (negsuc j) =
    let k = suc j in
    if nat_le k MAX_DECIMALS && nat_lt (odd * 5 ^ k) DIGITS_LIMIT then decimals_text odd k else hex_text odd (negsuc j)

-- a value of a floating-point kind
abbrev pub value_text : Value → List ℕ
value_text (Finite negative odd exponent) = sign_text negative ++ magnitude_text odd exponent
value_text (Infinite negative) = sign_text negative ++ codes "Infinity"
value_text NotANumber = codes "NaN"

-- the text of these bits: bytes from 0 to 255, other whole numbers with their sign
abbrev pub text_of_bits : Kind → ℕ → List ℕ
text_of_bits kinds.Byte n = decimal n
text_of_bits kinds.Char n = []
text_of_bits kinds.Short n = signed_decimal (cast_signed w16 n)
text_of_bits kinds.Int n = signed_decimal (cast_signed w32 n)
text_of_bits kinds.Float n = value_text (value_of_bits kinds.Float n)
text_of_bits kinds.Double n = value_text (value_of_bits kinds.Double n)

-- the text of a pattern
abbrev pub pattern_text : Pattern → List ℕ
pattern_text p = text_of_bits p.kind p.bits
