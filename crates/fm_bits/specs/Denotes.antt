-- What the text of a number denotes, read by its digits, its point and its exponent alone.
use Rattle.std.specs.Prelude.{◌≡◌, ◌⊎◌, ℕ, ◌+◌, ◌*◌, ◌^◌, List, [], ◌∷◌, ◌++◌, length, codes, Bool, if◌then◌else◌, ℤ, pos, ◌+ℤ◌}
use Rattle.std.specs.Fmt.{sign_text}
use Rattle.std.specs.Str.Parse.{AllDigits, IsNumeral, digits_value}
use Rattle.nc_model.specs.declared.kind.Kind.{Kind}
use Rattle.nc_model.specs.declared.kind.Kind.TheVariants as kinds
use Rattle.nc_model.specs.declared.pattern.Value.{Value}
use Rattle.nc_model.specs.declared.pattern.Value.TheVariants.{Finite, Infinite, NotANumber}
use Rattle.nc_model.specs.Pattern.{value_of_bits, whole_value, with_sign}

-- a * 2^d and b * 2^e are one number: as whole numbers, `up` above the one exponent and `other_up` above the other
pub record IsSameNumber (a : ℕ) (d : ℤ) (b : ℕ) (e : ℤ) : Type 0 where
  pub up : ℕ
  pub other_up : ℕ
  pub level : d +ℤ pos other_up ≡ e +ℤ pos up
  pub same : a * 2 ^ up ≡ b * 2 ^ other_up

-- decimal digits, which write the number odd * 2^exponent
pub record DenotesWhole (text : List ℕ) (odd : ℕ) (exponent : ℤ) : Type 0 where
  pub digits : IsNumeral 10 text
  pub number : IsSameNumber (digits_value 10 text) (pos 0) odd exponent

-- decimal digits on both sides of a point: all of them, read as one number, over 10 to the power of how many stand
-- after the point
pub record DenotesDecimal (text : List ℕ) (odd : ℕ) (exponent : ℤ) : Type 0 where
  pub front : List ℕ
  pub back : List ℕ
  pub front_digits : IsNumeral 10 front
  pub back_digits : IsNumeral 10 back
  pub text_is : text ≡ front ++ codes "." ++ back
  pub number : IsSameNumber (digits_value 10 (front ++ back)) (pos 0) (odd * 10 ^ length back) exponent

-- digits after a point, or nothing where there are none
abbrev pub after_point : List ℕ → List ℕ
after_point [] = []
after_point (digit ∷ digits) = codes "." ++ digit ∷ digits

-- `0x1.H` and `pE`: the number 1.H in hexadecimal, times 2 to the power of E
pub record DenotesHexadecimal (text : List ℕ) (odd : ℕ) (exponent : ℤ) : Type 0 where
  pub back : List ℕ
  pub is_below : Bool
  pub power : List ℕ
  pub back_digits : AllDigits 16 back
  pub power_digits : IsNumeral 10 power
  pub text_is : text
      ≡ codes "0x1" ++ after_point back ++ codes "p" ++ (if is_below then codes "-" else codes "+") ++ power
  pub number : IsSameNumber (16 ^ length back + digits_value 16 back) (with_sign is_below (digits_value 10 power))
      (odd * 16 ^ length back) exponent

-- a number without its sign
abbrev pub DenotesMagnitude : List ℕ → ℕ → ℤ → Type 0
DenotesMagnitude text odd exponent =
    DenotesWhole text odd exponent ⊎ (DenotesDecimal text odd exponent ⊎ DenotesHexadecimal text odd exponent)

-- a number after its sign
pub record DenotesSigned (text : List ℕ) (negative : Bool) (odd : ℕ) (exponent : ℤ) : Type 0 where
  pub magnitude_text : List ℕ
  pub text_is : text ≡ sign_text negative ++ magnitude_text
  pub magnitude : DenotesMagnitude magnitude_text odd exponent

-- the text denotes this value
abbrev pub Denotes : List ℕ → Value → Type 0
Denotes text (Finite negative odd exponent) = DenotesSigned text negative odd exponent
Denotes text (Infinite negative) = text ≡ sign_text negative ++ codes "Infinity"
Denotes text NotANumber = text ≡ codes "NaN"

-- the value of bits as texts show it: a byte is unsigned (DAP 2.0, Byte)
abbrev pub shown_value : Kind → ℕ → Value
shown_value kinds.Byte bits = whole_value (pos bits)
shown_value kind bits = value_of_bits kind bits
