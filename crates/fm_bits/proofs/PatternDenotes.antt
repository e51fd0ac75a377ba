-- The text of a pattern denotes the value that it shows.
use Rattle.std.proofs.Common.{◌≡◌, ◌≢◌, inl, ℕ, ◌/◌, ◌^◌, ◌<◌, ◌==◌, Bool, List, ◌++◌, sym, ap, arith, refl, ℤ, pos, negsuc, ◌+ℤ◌, unsigned_abs, w16, w32, w64}
use Rattle.std.specs.Fmt.{decimal, sign_text, signed_decimal}
use Rattle.std.specs.Int.{cast_signed, is_negative, trailing_zeros}
use Rattle.std.proofs.lemmas.Bool.{cond_both, cond-false, le-ltb, eqb-true}
use Rattle.std.proofs.lemmas.Fmt.{decimal_is_IsNumeral_wide}
use Rattle.std.proofs.lemmas.Int.{ints}
use Rattle.nc_model.specs.declared.kind.Kind.{Kind}
use Rattle.nc_model.specs.declared.kind.Kind.TheVariants as kinds
use Rattle.nc_model.specs.declared.pattern.Pattern.{Pattern}
use Rattle.nc_model.specs.declared.pattern.Value.{Value}
use Rattle.nc_model.specs.declared.pattern.Value.TheVariants.{Finite, Infinite, NotANumber}
use Rattle.nc_model.specs.Kind.{size_of}
use Rattle.nc_model.specs.Pattern.{IsPattern, finite, float_value, whole_value}
use Rattle.fm_bits.specs.Denotes.{Denotes, DenotesWhole, shown_value}
use Rattle.fm_bits.specs.Text.{value_text, text_of_bits, pattern_text}
use Rattle.fm_bits.proofs.DenotesLemmas.{magnitude_denotes}
use Rattle.fm_bits.proofs.OddLemmas.{odd_part_keeps}
use Rattle.fm_bits.proofs.PatternLemmas.{float_small, double_small, short_mag, int_mag}
use Rattle.fm_bits.proofs.ValueLemmas.{IsSmallValue}
use lib.Signed.{mag}

-- a value of a floating-point kind
value_denotes : (v : Value) → IsSmallValue v → Denotes (value_text v) v
value_denotes (Finite negative odd e) m =
    record { magnitude_text = _; text_is = refl; magnitude = magnitude_denotes odd e m }
value_denotes (Infinite negative) m = refl
value_denotes NotANumber m = refl

-- a whole number's digits, with the factors of two taken out of the number
digits_denote : (n : ℕ) → n < 2 ^ 64
    → DenotesWhole (decimal n) (n / 2 ^ trailing_zeros w64 n) (pos 0 +ℤ pos (trailing_zeros w64 n))
digits_denote n small =
    let digits = decimal_is_IsNumeral_wide n (omega arith) in
    record {
      digits = digits.0;
      number = record {
        up = 0;
        other_up = trailing_zeros w64 n;
        level = omega (arith, ints);
        same =
            omega (arith, digits.1, odd_part_keeps n);
      };
    }

zero_denotes : (n : ℕ) → n ≡ 0 → DenotesWhole (decimal n) 0 (pos 0)
zero_denotes n none =
    let digits = decimal_is_IsNumeral_wide n (omega arith) in
    record {
      digits = digits.0;
      number =
          record { up = 0; other_up = 0; level = refl; same = omega (arith, digits.1, none) };
    }

finite_denotes : (negative : Bool) (n : ℕ) (text : List ℕ) → n < 2 ^ 64 → text ≡ sign_text negative ++ decimal n
    → Denotes text (finite negative n (pos 0))
unfolding finite
finite_denotes negative n text small is =
    cond_both (n == 0) _ _ (Denotes text)
    (λ z. record { magnitude_text = decimal n; text_is = is; magnitude = inl (zero_denotes n (eqb-true n 0 z)) })
    (λ f. record { magnitude_text = decimal n; text_is = is; magnitude = inl (digits_denote n small) })

-- a whole number with its sign
whole_denotes : (z : ℤ) → mag z < 2 ^ 63 → Denotes (signed_decimal z) (whole_value z)
whole_denotes (pos n) small =
    let unsigned : decimal n ≡ sign_text (is_negative (pos n)) ++ decimal n =
    ap (λ x. x ++ decimal n) (sym (cond-false _ _ _ (le-ltb n 0 (omega arith)))) in
    finite_denotes (is_negative (pos n)) n (decimal n) (omega arith) unsigned
whole_denotes (negsuc n) small =
    finite_denotes (is_negative (negsuc n)) (unsigned_abs (negsuc n)) (signed_decimal (negsuc n)) (omega arith) refl

-- a byte
byte_denotes : (n : ℕ) → n < 256 → Denotes (decimal n) (whole_value (pos n))
byte_denotes n small = whole_denotes (pos n) (omega arith)

bits_denote : (kind : Kind) (n : ℕ) → kind ≢ kinds.Char → n < 256 ^ size_of kind
    → Denotes (text_of_bits kind n) (shown_value kind n)
bits_denote kinds.Byte n k p = byte_denotes n p
bits_denote kinds.Char n k p = absurd (k refl)
bits_denote kinds.Short n k p = whole_denotes (cast_signed w16 n) (short_mag n p)
bits_denote kinds.Int n k p = whole_denotes (cast_signed w32 n) (int_mag n p)
bits_denote kinds.Float n k p = value_denotes (float_value 8 23 n) (float_small n)
bits_denote kinds.Double n k p = value_denotes (float_value 11 52 n) (double_small n)

pub pattern_denotes : (p : Pattern) → IsPattern p → Denotes (pattern_text p) (shown_value p.kind p.bits)
pattern_denotes p h = bits_denote p.kind p.bits h.numeric h.fits
