-- Patterns of one kind with the same text have the same value.
use Rattle.std.proofs.Common.{◌≡◌, ℕ, zero, suc, ◌+◌, ◌-◌, ◌/◌, ◌^◌, ◌%◌, ◌<◌, ◌≤◌, inl, inr, ◌==◌, Bool, nat_le, nat_lt, sym, ap, ◌∙◌, arith, refl, subst, ℤ, pos, ◌-ℤ◌, unsigned_abs, w8, w16, w32, w64}
use Rattle.std.specs.Int.{cast_signed, trailing_zeros}
use Rattle.std.proofs.Math.Nat.{div-le_self}
use lib.Signed.{mag}
use Rattle.std.proofs.lemmas.Bool.{cond_both, eqb-false}
use Rattle.std.proofs.lemmas.Fmt.{signed_decimal_injective}
use Rattle.std.proofs.lemmas.Nat.Bits.{bit_at-trailing_zeros}
use Rattle.nc_model.specs.Pattern.{IsPattern, finite, value_of_fields, lowest_exponent, float_value, pattern_value, value_of_bits, whole_value}
use Rattle.nc_model.specs.declared.kind.Kind.{Kind}
use Rattle.nc_model.specs.declared.kind.Kind.TheVariants as kinds
use Rattle.nc_model.specs.declared.pattern.Pattern.{Pattern}
use Rattle.nc_model.specs.Kind.{size_of}
use Rattle.fm_bits.specs.Text.{pattern_text, text_of_bits}
use Rattle.fm_bits.proofs.DigitLemmas.{decimal_injective}
use Rattle.fm_bits.proofs.HexLemmas.{abs-add}
use Rattle.fm_bits.proofs.ValueLemmas.{IsSmallValue, value_text_injective}

abs-sub : (a b : ℕ) → unsigned_abs (pos a -ℤ pos b) ≤ a + b
abs-sub a zero = omega arith
abs-sub a (suc b) =
    cond_both (nat_lt a (suc b)) _ _ (λ z. unsigned_abs z ≤ a + suc b) (λ t. omega arith) (λ f. omega arith)

-- the odd part is within the number, and takes at most 64 factors of two
finite_small : (negative : Bool) (n : ℕ) (e : ℤ) → n < 2 ^ 64 → unsigned_abs e < 2 ^ 32
    → IsSmallValue (finite negative n e)
unfolding finite
finite_small negative n e small low =
    cond_both (n == 0) _ _ IsSmallValue (λ z. record {
      reduced = inr (refl, refl);
      odd_in = omega arith;
      exponent_in =
          omega arith;
    }) (λ f.
    let twos = trailing_zeros w64 n in
    let bit = bit_at-trailing_zeros w64 n (omega (arith, eqb-false n 0 f)) small in
    record {
      reduced = inl bit.1;
      odd_in = omega (arith, div-le_self n (2 ^ twos));
      exponent_in =
          omega (arith, abs-add e twos, bit.0);
    })

fields_small : (width fraction_width : ℕ) (negative : Bool) (biased fraction : ℕ)
    → 2 ^ fraction_width + fraction < 2 ^ 64 → biased + 1 + (2 ^ (width - 1) - 1 + fraction_width) < 2 ^ 32
    → IsSmallValue (value_of_fields width fraction_width negative biased fraction)
unfolding value_of_fields
fields_small w f negative b x p q =
    let low : (y : ℕ) → y ≤ b + 1 → unsigned_abs (lowest_exponent w f y) < 2 ^ 32 =
    λ y h. omega (arith, abs-sub y (2 ^ (w - 1) - 1 + f)) in
    cond_both (b == 2 ^ w - 1) _ _ IsSmallValue
    (λ t. cond_both (x == 0) _ _ IsSmallValue (λ z. tt) (λ n. tt))
    (λ t. cond_both (b == 0) _ _ IsSmallValue
    (λ z. finite_small negative x (lowest_exponent w f 1) (omega arith) (low 1 (omega arith)))
    (λ n. finite_small negative (2 ^ f + x) (lowest_exponent w f b) p (low b (omega arith))))

pub float_small : (n : ℕ) → IsSmallValue (float_value 8 23 n)
float_small n = fields_small 8 23 (nat_le (2 ^ 31) n) (n / 2 ^ 23 % 2 ^ 8) (n % 2 ^ 23) (omega arith) (omega arith)

pub double_small : (n : ℕ) → IsSmallValue (float_value 11 52 n)
double_small n = fields_small 11 52 (nat_le (2 ^ 63) n) (n / 2 ^ 52 % 2 ^ 11) (n % 2 ^ 52) (omega arith) (omega arith)

-- two's complement of 16 and of 32 bits
pub short_mag : (n : ℕ) → n < 2 ^ 16 → mag (cast_signed w16 n) < 2 ^ 63
short_mag n p = cond_both (nat_lt n (2 ^ 15)) _ _ (λ z. mag z < 2 ^ 63) (λ t. omega arith) (λ f. omega arith)

pub int_mag : (n : ℕ) → n < 2 ^ 32 → mag (cast_signed w32 n) < 2 ^ 63
int_mag n p = cond_both (nat_lt n (2 ^ 31)) _ _ (λ z. mag z < 2 ^ 63) (λ t. omega arith) (λ f. omega arith)

-- the same for the bits of one kind
text_of_bits_injective : (kind : Kind) (m n : ℕ) → m < 256 ^ size_of kind → n < 256 ^ size_of kind
    → text_of_bits kind m ≡ text_of_bits kind n → value_of_bits kind m ≡ value_of_bits kind n
text_of_bits_injective kinds.Byte m n p q e =
    ap (λ x. whole_value (cast_signed w8 x)) (decimal_injective m n (omega arith) (omega arith) e)
text_of_bits_injective kinds.Char m n p q e = refl
text_of_bits_injective kinds.Short m n p q e =
    ap whole_value (signed_decimal_injective (cast_signed w16 m) (cast_signed w16 n) (short_mag m p) (short_mag n q) e)
text_of_bits_injective kinds.Int m n p q e =
    ap whole_value (signed_decimal_injective (cast_signed w32 m) (cast_signed w32 n) (int_mag m p) (int_mag n q) e)
text_of_bits_injective kinds.Float m n p q e =
    value_text_injective (float_value 8 23 m) (float_value 8 23 n) (float_small m) (float_small n) e
text_of_bits_injective kinds.Double m n p q e =
    value_text_injective (float_value 11 52 m) (float_value 11 52 n) (double_small m) (double_small n) e

pub pattern_text_injective : (p q : Pattern) → IsPattern p → IsPattern q → p.kind ≡ q.kind
    → pattern_text p ≡ pattern_text q
    → pattern_value p ≡ pattern_value q
pattern_text_injective p q h i k e =
    let Fits : Kind → Type 0 = λ x. q.bits < 256 ^ size_of x in
    text_of_bits_injective p.kind p.bits q.bits h.fits (subst Fits (sym k) i.fits) (e
    ∙ ap (λ x. text_of_bits x q.bits) (sym k)) ∙ ap (λ x. value_of_bits x q.bits) k
