-- The year, month and day of a day number.
use Rattle.std.proofs.Common.{◌≡◌, ℕ, zero, suc, ◌+◌, ◌-◌, ◌<◌, ◌≤◌, inl, inr, Bool, true, false, refl, sym, ap, subst, ◌∙◌, arith, ℤ, pos, negsuc, neg_ℤ, ◌-ℤ◌, ◌<ℤ◌, ◌≤ℤ◌, unsigned_abs, int_le}
use Rattle.std.proofs.lemmas.Bool.{cases_order}
use Rattle.std.proofs.lemmas.Int.{by_lt_z}
use Rattle.jiff_core.specs.declared.civil.date.Date.{Date}
use Rattle.jiff_core.specs.Date.{epoch_day}
use Rattle.jiff_core.specs.Calendar.{day_count, days_from_civil, IsCivilDate}
use Rattle.jiff_core.proofs.CalendarLemmas.{days_from_civil-day_count, day_count-day_of_year, day_count-lt_year, day_count-lt_month, day_count-day}
use Rattle.jiff_core.proofs.DateLemmas.{civil}
use Rattle.jiff_core.proofs.MarchLemmas.{day_count-early}
use Rattle.jiff_core.proofs.SignedLemmas.{signed_arith}
use Rattle.nc_model.specs.Instant.{last_passing, year_of, month_of, day_of}
use Rattle.tm_units.specs.Parts.{HasParts}
use borrow.Author.Differences.{up, down}

-- the greatest that passes is the one that passes while none after it does
pub last_passing-is : (test : ℕ → Bool) (most k : ℕ) → k ≤ most → test k ≡ true
    → ((later : ℕ) → k < later → later ≤ most → test later ≡ false) → last_passing test most ≡ k
last_passing-is test zero k within passes none = omega arith
last_passing-is test (suc n) k within passes none =
    elim (cases_order k (suc n)) [
      | inl same ↦ let e : test (suc n) ≡ true = sym (ap test same) ∙ passes in rw e (sym same)
      | inr (inl lt) ↦ let e : test (suc n) ≡ false = none (suc n) lt (omega arith) in
          rw e (last_passing-is test n k (omega arith) passes (λ later after inside. none later after (omega arith)))
      | inr (inr gt) ↦ absurd (omega arith)
    ]

le_test : (a b : ℤ) (t : Bool) → t ≡ int_le a b → a ≤ℤ b → int_le a b ≡ true
le_test a b true e h = sym e
le_test a b false e h = absurd (omega (arith, signed_arith))

not_le_test : (a b : ℤ) (t : Bool) → t ≡ int_le a b → b <ℤ a → int_le a b ≡ false
not_le_test a b true e h = absurd (omega (arith, signed_arith))
not_le_test a b false e h = sym e

le-first_of_year : (y m d : ℕ) → 1 ≤ d → int_le (days_from_civil (pos y) 1 1) (days_from_civil (pos y) m d) ≡ true
le-first_of_year y m d low =
    le_test (days_from_civil (pos y) 1 1) (days_from_civil (pos y) m d) _ refl
    (omega (arith, signed_arith, days_from_civil-day_count, day_count-day_of_year (pos y) m d low))

not_le-later_year : (y m d later : ℕ) → IsCivilDate (pos y) m d → y < later
    → int_le (days_from_civil (pos later) 1 1) (days_from_civil (pos y) m d) ≡ false
not_le-later_year y m d later civil lt =
    not_le_test (days_from_civil (pos later) 1 1) (days_from_civil (pos y) m d) _ refl
    (omega (
      arith,
      signed_arith,
      days_from_civil-day_count,
      day_count-lt_year (pos y) m d (pos later) 1 1 civil (omega arith) (omega (arith, signed_arith)),
    ))

le-first_of_month : (y m d : ℕ) → 1 ≤ d → int_le (days_from_civil (pos y) m 1) (days_from_civil (pos y) m d) ≡ true
le-first_of_month y m d low =
    le_test (days_from_civil (pos y) m 1) (days_from_civil (pos y) m d) _ refl
    (omega (arith, signed_arith, days_from_civil-day_count, day_count-day (pos y) m d 1 low (omega arith)))

not_le-later_month : (y m d later : ℕ) → IsCivilDate (pos y) m d → m < later
    → int_le (days_from_civil (pos y) later 1) (days_from_civil (pos y) m d) ≡ false
not_le-later_month y m d later civil lt =
    not_le_test (days_from_civil (pos y) later 1) (days_from_civil (pos y) m d) _ refl
    (omega (
      arith,
      signed_arith,
      days_from_civil-day_count,
      day_count-lt_month (pos y) m d later 1 civil (omega arith) lt,
    ))

abs-gap : (z : ℤ) (k : ℕ) → up z ≡ down z + k → unsigned_abs z ≡ k
abs-gap (pos n) k e = omega arith
abs-gap (negsuc n) k e = absurd (omega arith)

-- the parts of the day number of a date are the date's
pub year_of-days_from_civil : (y m d : ℕ) → y ≤ 9999 → IsCivilDate (pos y) m d → year_of (days_from_civil (pos y) m d)
    ≡ y
unfolding year_of
year_of-days_from_civil y m d small civil =
    last_passing-is (λ year. int_le (days_from_civil (pos year) 1 1) (days_from_civil (pos y) m d)) 9999 y small
    (le-first_of_year y m d civil.2.0) (λ later lt inside. not_le-later_year y m d later civil lt)

pub month_of-days_from_civil : (y m d : ℕ) → y ≤ 9999 → IsCivilDate (pos y) m d
    → month_of (days_from_civil (pos y) m d) ≡ m
unfolding month_of
month_of-days_from_civil y m d small civil =
    rw (year_of-days_from_civil y m d small civil)
    (last_passing-is (λ month. int_le (days_from_civil (pos y) month 1) (days_from_civil (pos y) m d)) 12 m civil.1.1
    (le-first_of_month y m d civil.2.0) (λ later lt inside. not_le-later_month y m d later civil lt))

pub day_of-days_from_civil : (y m d : ℕ) → y ≤ 9999 → IsCivilDate (pos y) m d → day_of (days_from_civil (pos y) m d) ≡ d
unfolding day_of
day_of-days_from_civil y m d small civil =
    rw (month_of-days_from_civil y m d small civil, year_of-days_from_civil y m d small civil) (let low = civil.2.0 in
    let gap =
    abs-gap (days_from_civil (pos y) m d -ℤ days_from_civil (pos y) m 1) (d - 1)
    (omega (arith, signed_arith, days_from_civil-day_count, day_count-day (pos y) m d 1 low (omega arith))) in
    omega (arith, gap))

pub first_count : day_count (pos 0) 1 1 ≡ 3_652_425
first_count = day_count-early (pos 0) 9999 1 1 refl (omega arith) (omega arith) (omega arith)

-- no date from 0000-01-01 on has a negative year
pub year_from_zero : (date : Date) → neg_ℤ (pos 719_528) ≤ℤ epoch_day date → pos (unsigned_abs date.year) ≡ date.year
year_from_zero date low =
    by_lt_z date.year (pos 0)
    (λ before. absurd (omega (
      arith,
      signed_arith,
      days_from_civil-day_count date.year date.month date.day,
      first_count,
      day_count-lt_year date.year date.month date.day (pos 0) 1 1 (civil date) (omega arith) before,
    )))
    (λ from. pos-abs date.year from)
  where
    pos-abs : (z : ℤ) → pos 0 ≤ℤ z → pos (unsigned_abs z) ≡ z
    pos-abs (pos n) h = refl
    pos-abs (negsuc n) h = absurd (omega (arith, signed_arith))

-- the parts of a date's day number are the date's
pub HasParts-date : (date : Date) → neg_ℤ (pos 719_528) ≤ℤ epoch_day date
    → HasParts (epoch_day date) (unsigned_abs date.year) date.month date.day
HasParts-date date low =
    let year = year_from_zero date low in
    let is = civil date in
    let small : unsigned_abs date.year ≤ 9999 = omega (arith, signed_arith, is.0) in
    let there : IsCivilDate (pos (unsigned_abs date.year)) date.month date.day =
    subst (λ (y : ℤ). IsCivilDate y date.month date.day) (sym year) is in
    let e : days_from_civil (pos (unsigned_abs date.year)) date.month date.day ≡ epoch_day date =
    ap (λ (y : ℤ). days_from_civil y date.month date.day) year in
    record {
      year_is = ap year_of (sym e) ∙ year_of-days_from_civil _ _ _ small there;
      month_is = ap month_of (sym e) ∙ month_of-days_from_civil _ _ _ small there;
      day_is = ap day_of (sym e) ∙ day_of-days_from_civil _ _ _ small there;
    }
