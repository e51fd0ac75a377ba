-- What the bits of a number stand for, and how many whole seconds a time is (NetCDF Classic Format Specification,
-- external types; IEEE 754, binary interchange formats).
use Rattle.std.specs.Prelude.{◌≡◌, ◌≢◌, ◌⊎◌, ℕ, suc, ◌+◌, ◌-◌, ◌*◌, ◌/◌, ◌%◌, ◌^◌, ◌<◌, List, length, Option, Some, None, option_and_then, Bool, nat_lt, nat_le, ◌==◌, if◌then◌else◌, ℤ, pos, negsuc, neg_ℤ, ◌+ℤ◌, ◌-ℤ◌, ◌*ℤ◌, unsigned_abs}
use Rattle.std.specs.Int.{Width, w8, w16, w32, w64, cast_signed, from_be_bytes, is_negative, trailing_zeros}
use Rattle.nc_model.specs.declared.kind.Kind.{Kind}
use Rattle.nc_model.specs.declared.kind.Kind.TheVariants as kinds
use Rattle.nc_model.specs.declared.pattern.Pattern.{Pattern}
use Rattle.nc_model.specs.declared.pattern.Value.{Value}
use Rattle.nc_model.specs.declared.pattern.Value.TheVariants.{Finite, Infinite, NotANumber}
use Rattle.nc_model.specs.Kind.{size_of}

-- a pattern of a number: the kind isn't that of characters, and the bits fit its size
pub record IsPattern (p : Pattern) : Type 0 where
  pub numeric : p.kind ≢ kinds.Char
  pub fits : p.bits < 256 ^ size_of p.kind

-- how wide the values of a kind are
abbrev pub width_of : Kind → Width
width_of kinds.Byte = w8
width_of kinds.Char = w8
width_of kinds.Short = w16
width_of kinds.Int = w32
width_of kinds.Float = w32
width_of kinds.Double = w64

-- the pattern whose bytes these are, the most significant first
abbrev pub pattern_of_bytes : Kind → List ℕ → Option Pattern
pattern_of_bytes kinds.Char bytes = None
pattern_of_bytes kind bytes =
    if length bytes == size_of kind then Some (record { kind = kind; bits = from_be_bytes (width_of kind) bytes })
    else None

-- n * 2^e with a sign, written with an odd number, or with 0 and the exponent 0
unfoldable pub finite : Bool → ℕ → ℤ → Value
finite negative n e =
    if n == 0 then Finite negative 0 (pos 0) else (
    let twos = trailing_zeros w64 n in Finite negative (n / 2 ^ twos) (e +ℤ pos twos))

-- the number is odd, or it is 0 and so is the exponent
abbrev pub IsReduced : Value → Type 0
IsReduced (Finite negative odd exponent) = (odd % 2 ≡ 1) ⊎ ((odd ≡ 0) × (exponent ≡ pos 0))
IsReduced (Infinite negative) = Unit {0}
IsReduced NotANumber = Unit {0}

-- a whole number
abbrev pub whole_value : ℤ → Value
whole_value z = finite (is_negative z) (unsigned_abs z) (pos 0)

-- the exponent of the lowest bit of the significand: `width` is that of the exponent, and the bias 2^(width - 1) - 1
abbrev pub lowest_exponent : ℕ → ℕ → ℕ → ℤ
lowest_exponent width fraction_width biased = pos biased -ℤ pos (2 ^ (width - 1) - 1 + fraction_width)

-- the number of these fields: all ones in the exponent are infinities and NaNs, and all zeros are the numbers whose
-- significand has no leading one
unfoldable pub value_of_fields : ℕ → ℕ → Bool → ℕ → ℕ → Value
value_of_fields width fraction_width negative biased fraction =
    if biased == 2 ^ width - 1 then (if fraction == 0 then Infinite negative else NotANumber) else (
    if biased == 0 then finite negative fraction (lowest_exponent width fraction_width 1) else
    finite negative (2 ^ fraction_width + fraction) (lowest_exponent width fraction_width biased))

-- the bits with these fields, in the order sign, exponent, fraction
abbrev pub bits_of_fields : ℕ → ℕ → Bool → ℕ → ℕ → ℕ
bits_of_fields width fraction_width negative biased fraction =
    (if negative then 2 ^ (width + fraction_width) else 0) + biased * 2 ^ fraction_width + fraction

-- the number whose bits these are
abbrev pub float_value : ℕ → ℕ → ℕ → Value
float_value width fraction_width n =
    let negative = nat_le (2 ^ (width + fraction_width)) n in
    value_of_fields width fraction_width negative (n / 2 ^ fraction_width % 2 ^ width) (n % 2 ^ fraction_width)

-- what these bits stand for: two's complement, and the formats binary32 and binary64
abbrev pub value_of_bits : Kind → ℕ → Value
value_of_bits kinds.Byte n = whole_value (cast_signed w8 n)
value_of_bits kinds.Char n = NotANumber
value_of_bits kinds.Short n = whole_value (cast_signed w16 n)
value_of_bits kinds.Int n = whole_value (cast_signed w32 n)
value_of_bits kinds.Float n = float_value 8 23 n
value_of_bits kinds.Double n = float_value 11 52 n

-- what a pattern stands for
abbrev pub pattern_value : Pattern → Value
pattern_value p = value_of_bits p.kind p.bits

-- a number with a sign
abbrev pub with_sign : Bool → ℕ → ℤ
with_sign negative n = if negative then neg_ℤ (pos n) else pos n

-- n * 2^e, where it is whole
abbrev pub whole_part : ℕ → ℤ → Option ℕ
whole_part n (pos e) = Some (n * 2 ^ e)
whole_part n (negsuc e) = if n % 2 ^ suc e == 0 then Some (n / 2 ^ suc e) else None

-- a number with a sign, where it fits 64 bits in two's complement
abbrev pub in_i64 : Bool → ℕ → Option ℤ
in_i64 negative n = if nat_lt (if negative then 2 ^ 63 else 2 ^ 63 - 1) n then None else Some (with_sign negative n)

-- the value times this number, where that is a whole number and fits 64 bits
abbrev pub whole_times : Value → ℕ → Option ℤ
whole_times (Finite negative odd exponent) per = option_and_then (in_i64 negative) (whole_part (odd * per) exponent)
whole_times (Infinite negative) per = None
whole_times NotANumber per = None

-- a time in units of `per` seconds, in seconds
abbrev pub whole_seconds_of : Pattern → ℕ → Option ℤ
whole_seconds_of p per = whole_times (pattern_value p) per

-- z is the value times this number
abbrev pub IsTimes : Value → ℕ → ℤ → Type 0
IsTimes (Finite negative odd (pos e)) per z = z ≡ with_sign negative (odd * 2 ^ e * per)
IsTimes (Finite negative odd (negsuc e)) per z = z *ℤ pos (2 ^ suc e) ≡ with_sign negative (odd * per)
IsTimes (Infinite negative) per z = ⊥
IsTimes NotANumber per z = ⊥
