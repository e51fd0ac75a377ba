-- A text is read as the number of 64 bits of which it is the decimal, and no other text is read as it.
use Rattle.std.proofs.Common.{◌≡◌, ℕ, suc, ◌<◌, ◌^◌, true, false, List, [], ◌∷◌, length, Some, None, Ok, Err, Result, refl, sym, ap, subst, ◌∙◌, inl, inr, arith, ℤ, pos, negsuc, neg_ℤ, FitsSigned, w64}
use Rattle.std.proofs.lemmas.Bool.{cond-true, cond-false, cases_Bool, ltb-true, lt-ltb, eqb-true}
use Rattle.std.proofs.lemmas.Str.{IsUtf8-from_ascii}
use Rattle.std.proofs.lemmas.Fmt.{IsAscii-signed, parse-signed_decimal, decimal_is_IsNumeral}
use Rattle.std.proofs.lemmas.Option.{same_Some}
use Rattle.std.specs.Char.{digit_value}
use Rattle.std.specs.Fmt.{decimal, signed_decimal}
use Rattle.std.specs.Str.{IsAscii, IsUtf8, bytes_eq}
use Rattle.std.specs.Str.Parse.{AllDigits, ParsesSigned, starts_with_minus}
use Rattle.fm_base.proofs.ListLemmas.{same_bytes, bytes_same}
use Rattle.fm_base.proofs.OptionLemmas.{chosen, none_unless}
use Rattle.web_path.specs.Path.{fits_i64}
use Rattle.web_path.specs.Reading.{if_fits, seconds_of, signed_number}

fitting : (z : ℤ) → fits_i64 z ≡ true → FitsSigned w64 z
fitting (pos n) is = record { sfits = ltb-true n (2 ^ 63) is }
fitting (negsuc n) is = record { sfits = ltb-true n (2 ^ 63) is }

pub if_fits-some : (z : ℤ) → fits_i64 z ≡ true → if_fits z ≡ Some z
unfolding if_fits
if_fits-some z fits = cond-true _ _ _ fits

pub some-if_fits : (y z : ℤ) → if_fits y ≡ Some z → (y ≡ z) × (fits_i64 z ≡ true)
unfolding if_fits
some-if_fits y z is =
    let there = chosen (fits_i64 y) (Some y) z is in
    let same : y ≡ z = same_Some _ _ there.1 in
    (same, ap fits_i64 (sym same) ∙ there.0)

-- a decimal doesn't begin with `-`
plain : (digits : List ℕ) → AllDigits 10 digits → 0 < length digits → starts_with_minus digits ≡ false
plain [] all some = absurd (omega (arith, some))
plain (digit ∷ digits) all some =
    elim (cases_Bool (starts_with_minus (digit ∷ digits))) [
      | inl is ↦ absurd (not_minus digit all.0 (eqb-true digit 45 is))
      | inr is ↦ is
    ]
  where
    not_minus : (d : ℕ) → digit_value d < 10 → d ≡ 45 → ⊥
    not_minus d small is =
        let big : digit_value 45 < 10 = subst (λ (n : ℕ). digit_value n < 10) is small in omega (arith, big)

signed_number-decimal : (z : ℤ) → fits_i64 z ≡ true → signed_number (signed_decimal z) ≡ z
unfolding signed_number
signed_number-decimal (pos n) fits =
    let k = decimal_is_IsNumeral n (omega (arith, ltb-true n (2 ^ 63) fits)) in
    cond-false _ _ _ (plain (decimal n) k.0.1 k.0.0) ∙ ap pos k.1
signed_number-decimal (negsuc n) fits =
    let k = decimal_is_IsNumeral (suc n) (omega (arith, ltb-true n (2 ^ 63) fits)) in
    ap (λ (m : ℕ). neg_ℤ (pos m)) k.1

pub seconds_of-decimal : (z : ℤ) (text : List ℕ) → fits_i64 z ≡ true → text ≡ signed_decimal z
    → seconds_of text ≡ Some z
unfolding seconds_of
seconds_of-decimal z text fits is =
    let number : signed_number text ≡ z = ap signed_number is ∙ signed_number-decimal z fits in
    cond-true _ _ _ (same_bytes text (signed_decimal (signed_number text)) (is ∙ ap signed_decimal (sym number)))
    ∙ ap if_fits number ∙ if_fits-some z fits

pub seconds_of-some : (text : List ℕ) (z : ℤ) → seconds_of text ≡ Some z
    → (text ≡ signed_decimal z) × (fits_i64 z ≡ true)
unfolding seconds_of
seconds_of-some text z is =
    let there =
    chosen (bytes_eq text (signed_decimal (signed_number text))) (if_fits (signed_number text)) z is in
    let number = some-if_fits (signed_number text) z there.1 in
    (bytes_same text (signed_decimal (signed_number text)) there.0 ∙ ap signed_decimal number.0, number.1)

-- a text that is read is ASCII, and parses as its number
pub ascii_if_read : (text : List ℕ) (z : ℤ) → seconds_of text ≡ Some z → IsAscii text
ascii_if_read text z is =
    let read = seconds_of-some text z is in
    subst IsAscii (sym read.0) (IsAscii-signed z (fitting z read.1).sfits)

pub parses_if_read : {E : Type 0} (text : List ℕ) (z : ℤ) (r : Result ℤ E) → ParsesSigned w64 10 text r
    → seconds_of text ≡ Some z → r ≡ Ok z
parses_if_read text z r h is =
    let read = seconds_of-some text z is in
    let fits = fitting z read.1 in
    parse-signed_decimal w64 z text r fits fits.sfits read.0 h

fits_if_fitting : (z : ℤ) → FitsSigned w64 z → fits_i64 z ≡ true
fits_if_fitting (pos n) fits = lt-ltb n (2 ^ 63) fits.sfits
fits_if_fitting (negsuc n) fits = lt-ltb n (2 ^ 63) fits.sfits

-- what isn't UTF-8 is no number
pub none_not_utf8 : (text : List ℕ) → ¬ IsUtf8 text → None ≡ seconds_of text
none_not_utf8 text other =
    none_unless (seconds_of text) (λ (z : ℤ) is. other (IsUtf8-from_ascii text (ascii_if_read text z is)))

not_both : {E : Type 0} (r : Result ℤ E) (e : E) (z : ℤ) → r ≡ Err e → r ≡ Ok z → ⊥
not_both r e z failed parsed = cc

same_number : {E : Type 0} (r : Result ℤ E) (n z : ℤ) → r ≡ Ok n → r ≡ Ok z → z ≡ n
same_number r n z first second = cc

-- nor is what doesn't parse
pub none_not_parsed : {E : Type 0} (text : List ℕ) (e : E) → ParsesSigned w64 10 text (Err e) → None ≡ seconds_of text
none_not_parsed text e h =
    none_unless (seconds_of text) (λ (z : ℤ) is. not_both (Err e) e z refl (parses_if_read text z (Err e) h is))

-- nor is a text other than the decimal of what it parses as
pub none_not_same : {E : Type 0} (text : List ℕ) (n : ℤ) (r : Result ℤ E) → ParsesSigned w64 10 text r → r ≡ Ok n
    → (text ≡ signed_decimal n → ⊥) → None ≡ seconds_of text
none_not_same text n r h parsed other =
    none_unless (seconds_of text) (λ (z : ℤ) is.
    other ((seconds_of-some text z is).0 ∙ ap signed_decimal (same_number r n z parsed (parses_if_read text z r h is))))

pub some_same : (text : List ℕ) (n : ℤ) → FitsSigned w64 n → text ≡ signed_decimal n → Some n ≡ seconds_of text
some_same text n fits is = sym (seconds_of-decimal n text (fits_if_fitting n fits) is)
