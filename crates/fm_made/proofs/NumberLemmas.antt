-- A whole number of seconds below 2^31, by its bytes.
use Rattle.std.proofs.Common.{◌≡◌, ℕ, ◌-◌, ◌*◌, ◌/◌, ◌^◌, ◌<◌, inl, inr, Bool, false, Some, ℤ, pos, sym, ap, ◌∙◌, arith}
use Rattle.std.specs.Prelude.{◌==◌, ◌+ℤ◌, option_and_then}
use Rattle.std.specs.Int.{w32, w64, cast_signed, is_negative, trailing_zeros}
use Rattle.std.proofs.lemmas.Bool.{cases_Bool, cond-true, cond-false, eqb-true, le-ltb}
use Rattle.std.proofs.lemmas.Int.{ints}
use Rattle.std.proofs.lemmas.Nat.{from_be_bytes-to_be_bytes_4, div-add-mod'}
use Rattle.nc_model.specs.declared.kind.Kind.TheVariants.{Int}
use Rattle.nc_model.specs.declared.pattern.Value.{Value}
use Rattle.nc_model.specs.declared.pattern.Value.TheVariants.{Finite}
use Rattle.nc_model.specs.Pattern.{finite, in_i64, pattern_of_bytes, whole_seconds_of, whole_times, whole_value}
use Rattle.fm_base.proofs.NumberLemmas.{two_pow_divides}
use Rattle.fm_gen.specs.Fields.{word}

odd_part_keeps : (n : ℕ) → n / 2 ^ trailing_zeros w64 n * 1 * 2 ^ trailing_zeros w64 n ≡ n
odd_part_keeps n = omega (arith, div-add-mod' n (2 ^ trailing_zeros w64 n), two_pow_divides 64 n)

in_i64-small : (n : ℕ) → n < 2 ^ 31 → in_i64 false n ≡ Some (pos n)
in_i64-small n small = cond-false _ _ _ (le-ltb (2 ^ 63 - 1) n (omega (arith, small)))

none_before : (t : ℕ) → pos 0 +ℤ pos t ≡ pos t
none_before t = omega (arith, ints)

seconds-finite : (n : ℕ) → n < 2 ^ 31 → whole_times (finite false n (pos 0)) 1 ≡ Some (pos n)
unfolding finite
seconds-finite n small =
    elim (cases_Bool (n == 0)) [
      | inl is ↦
          let none : n ≡ 0 = eqb-true n 0 is in
          ap (λ (value : Value). whole_times value 1) (cond-true _ _ _ is) ∙ ap (λ (m : ℕ). Some (pos m)) (sym none)
      | inr is ↦
          let odd : ℕ = n / 2 ^ trailing_zeros w64 n in
          ap (λ (value : Value). whole_times value 1) (cond-false _ _ _ is)
          ∙ ap (λ (e : ℤ). whole_times (Finite false odd e) 1) (none_before (trailing_zeros w64 n))
          ∙ ap (in_i64 false) (odd_part_keeps n) ∙ in_i64-small n small
    ]

signed_small : (n : ℕ) → n < 2 ^ 31 → cast_signed w32 n ≡ pos n
signed_small n small = omega (arith, ints, small)

not_negative : (n : ℕ) → is_negative (pos n) ≡ false
not_negative n = grind (arith, ints)

-- the seconds of a number of four bytes
pub seconds-word : (n : ℕ) → n < 2 ^ 31
    → option_and_then (λ pattern. whole_seconds_of pattern 1) (pattern_of_bytes Int (word n)) ≡ Some (pos n)
unfolding word
seconds-word n small =
    ap (λ (bits : ℕ). whole_times (whole_value (cast_signed w32 bits)) 1)
    (from_be_bytes-to_be_bytes_4 n (omega (arith, small)))
    ∙ ap (λ (z : ℤ). whole_times (whole_value z) 1) (signed_small n small)
    ∙ ap (λ (negative : Bool). whole_times (finite negative n (pos 0)) 1) (not_negative n) ∙ seconds-finite n small
