-- Each day number of the years 0 to 9999 is that of a date.
use Rattle.std.proofs.Common.{◌≡◌, ℕ, zero, suc, ◌+◌, ◌<◌, ◌≤◌, inl, inr, refl, subst, arith, rules, pos}
use Rattle.std.proofs.lemmas.Bool.{cases_lt}
use Rattle.jiff_core.specs.Calendar.{day_count, days_in_month, IsCivilDate, IsYear}
use Rattle.jiff_core.proofs.CalendarLemmas.{days_in_month_bounds, day_count-day, day_count-next_month, day_count-next_year, day_count-last_of_year, day_count-end}
use Rattle.jiff_core.proofs.SignedLemmas.{signed_arith}
use Rattle.tm_units.proofs.DayLemmas.{first_count}

-- a date of the years 0 to 9999, this number of days after the first of the year -10000
pub record DateAt (count : ℕ) : Type 0 where
  pub year : ℕ
  pub month : ℕ
  pub day : ℕ
  pub small : year ≤ 9999
  pub is_civil : IsCivilDate (pos year) month day
  pub count_is : day_count (pos year) month day ≡ count

pub is_year : (year : ℕ) → year ≤ 9999 → IsYear (pos year)
is_year year small = (omega (arith, signed_arith), omega (arith, signed_arith))

next_day : (count : ℕ) (at : DateAt count) → at.day < days_in_month (pos at.year) at.month → DateAt (suc count)
next_day count at later =
    let month_in = at.is_civil.1 in
    let day_in = at.is_civil.2 in
    record {
      year = at.year;
      month = at.month;
      day = at.day + 1;
      small = at.small;
      is_civil = (is_year at.year at.small, month_in, (omega arith, omega arith));
      count_is = let low = day_in.0 in
          let one = day_count-day (pos at.year) at.month at.day (at.day + 1) low (omega arith) in
          omega (arith, at.count_is);
    }

next_month : (count : ℕ) (at : DateAt count) → days_in_month (pos at.year) at.month ≤ at.day → at.month < 12
    → DateAt (suc count)
next_month count at last later =
    let month_in = at.is_civil.1 in
    let day_in = at.is_civil.2 in
    let long = days_in_month_bounds (pos at.year) (at.month + 1) in
    record {
      year = at.year;
      month = at.month + 1;
      day = 1;
      small = at.small;
      is_civil = (is_year at.year at.small, (omega arith, omega arith), (omega arith, omega arith));
      count_is =
          omega (
            arith,
            at.count_is,
            day_count-next_month (pos at.year) at.month month_in.0,
            day_count-day (pos at.year) at.month at.day 1 day_in.0 (omega arith),
          );
    }

last_of_year : (count : ℕ) (at : DateAt count) → days_in_month (pos at.year) at.month ≤ at.day → 12 ≤ at.month
    → day_count (pos (at.year + 1)) 1 1 ≡ suc count
last_of_year count at last past =
    let month_in = at.is_civil.1 in
    let day_in = at.is_civil.2 in
    let december : at.month ≡ 12 = omega arith in
    let long : days_in_month (pos at.year) at.month ≡ 31 = rw december refl in
    let end : at.day ≡ 31 = omega arith in
    let count_is : day_count (pos at.year) 12 31 ≡ count = rw (december, end) at at.count_is in
    let next = day_count-next_year (pos at.year) (pos (at.year + 1)) (search rules) (omega (arith, signed_arith)) in
    omega (arith, next, day_count-last_of_year (pos at.year))

next_year : (count : ℕ) (at : DateAt count) → suc count ≤ 7_304_849 → days_in_month (pos at.year) at.month ≤ at.day
    → 12 ≤ at.month → DateAt (suc count)
next_year count at room last past =
    let is = last_of_year count at last past in
    let small : at.year + 1 ≤ 9999 = elim (cases_lt at.year 9999) [
      | inl lt ↦ omega arith
      | inr ge ↦
          let below = at.small in
          let end : at.year + 1 ≡ 10000 = omega arith in
          let whole = rw end at is in
          absurd (omega (arith, whole, day_count-end))
    ] in
    record {
      year = at.year + 1;
      month = 1;
      day = 1;
      small = small;
      is_civil = (is_year (at.year + 1) small, (omega arith, omega arith), (omega arith, search rules));
      count_is = is;
    }

-- the date after another
next_date : (count : ℕ) → suc count ≤ 7_304_849 → DateAt count → DateAt (suc count)
next_date count room at =
    elim (cases_lt at.day (days_in_month (pos at.year) at.month)) [
      | inl later ↦ next_day count at later
      | inr last ↦ elim (cases_lt at.month 12) [
        | inl later ↦ next_month count at last later
        | inr past ↦ next_year count at room last past
      ]
    ]

-- this number of days after 0000-01-01 there is a date
pub date_exists : (days : ℕ) → days ≤ 3_652_424 → DateAt (days + 3_652_425)
date_exists zero within = record {
  year = 0;
  month = 1;
  day = 1;
  small = omega arith;
  is_civil =
      (is_year 0 (omega arith), (omega arith, omega arith), (omega arith, search rules));
  count_is = first_count;
}
date_exists (suc days) within =
    let e : suc (days + 3_652_425) ≡ suc days + 3_652_425 = omega arith in
    subst DateAt e (next_date (days + 3_652_425) (omega arith) (date_exists days (omega arith)))
