-- An instant whose year has four digits fits eight bytes.
use Rattle.std.proofs.Common.{◌≡◌, ◌∙◌, sym, ap, Bool, true, ℕ, ℤ, pos, negsuc, List, Result, Ok, Err, IfOk, if◌then◌else◌, codes, FitsSigned, w64, arith}
use Rattle.std.proofs.lemmas.Bool.{and_parts}
use Rattle.std.proofs.lemmas.Int.{ints}
use Rattle.std.specs.Prelude.{int_le, neg_ℤ}
use Rattle.fm_base.proofs.NumberLemmas.{at_most_from_test}
use Rattle.nc_model.specs.Instant.{HasFourDigitYear, instant_text_of}
use Rattle.srv_ingest.specs.Lines.{has_four_digits, shown_instant}

-- an instant that passes the test
pub HasFourDigitYear-test : (t : ℤ) → has_four_digits t ≡ true → HasFourDigitYear t
unfolding has_four_digits
HasFourDigitYear-test t is =
    let parts = and_parts (int_le (neg_ℤ (pos 62_167_219_200)) t) (int_le t (pos 253_402_300_799)) is in (
      at_most_from_test (neg_ℤ (pos 62_167_219_200)) t parts.0,
      at_most_from_test t (pos 253_402_300_799) parts.1,
    )

fits : (t : ℤ) → HasFourDigitYear t → FitsSigned w64 t
fits (pos n) is = record { sfits = omega (arith, ints, is.1) }
fits (negsuc n) is = record { sfits = omega (arith, ints, is.0) }

-- it fits
pub four_digits-fit : (t : ℤ) → has_four_digits t ≡ true → FitsSigned w64 t
four_digits-fit t is = fits t (HasFourDigitYear-test t is)

-- its text is the one that is shown
pub shown-written : {E : Type 0} (result : Result (List ℕ) E) (t u : ℤ) → has_four_digits t ≡ true → u ≡ t
    → IfOk result (λ text. text ≡ instant_text_of u) → IfOk result (λ text. text ≡ shown_instant t)
unfolding shown_instant
shown-written (Ok text) t u is same text_is =
    text_is ∙ ap instant_text_of same
    ∙ sym (ap (λ (b : Bool). if b then instant_text_of t else codes "a year without four digits") is)
shown-written (Err fault) t u is same text_is = tt
