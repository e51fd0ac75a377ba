-- The text of each instant of the years 0 to 9999 is read as that instant, and no other text is.
use Rattle.std.proofs.Common.{◌≡◌, ℕ, ◌+◌, ◌-◌, ◌/◌, ◌%◌, ◌<◌, ◌≤◌, true, ◌&&◌, ◌==◌, nat_le, nat_lt, List, length, Option, Some, None, IfSome, refl, sym, ap, subst, ◌∙◌, inl, inr, arith, rules, ℤ, pos, unsigned_abs}
use Rattle.std.proofs.lemmas.Bool.{cases_lt, leb-true, ltb-true, le-leb, lt-ltb, eqb-true}
use Rattle.std.proofs.lemmas.Option.{same_Some}
use Rattle.std.specs.Int.{int_div_euclid, int_rem_euclid}
use Rattle.jiff_core.specs.Calendar.{day_count, days_from_civil, days_in_month, IsCivilDate}
use Rattle.jiff_core.proofs.CalendarLemmas.{days_from_civil-day_count, days_in_month_bounds, day_count-lt_year, day_count-day_of_year, day_count_bounds}
use Rattle.jiff_core.proofs.SignedLemmas.{signed_arith}
use Rattle.nc_model.specs.Calendar.{is_date, is_time, time_seconds, unix_seconds, moment_of}
use Rattle.nc_model.specs.Stamp.{number_at, begins_in_form}
use Rattle.nc_model.specs.Instant.{HasFourDigitYear, instant_form, instant_of, instant_text_of, text_of_day, spelled_instant}
use Rattle.fm_base.proofs.OptionLemmas.{chosen}
use Rattle.tm_units.proofs.DayLemmas.{first_count, year_of-days_from_civil, month_of-days_from_civil, day_of-days_from_civil}
use Rattle.tm_units.proofs.DayExists.{date_exists, is_year}
use Rattle.tm_units.proofs.InstantLemmas.{and_parts, instant_of-spelled_instant, spelled_instant-form}
use borrow.Author.Differences.{up, down}

-- what the test of a date means
pub is_date-true : (year month day : ℕ) → is_date year month day ≡ true
    → (year ≤ 9999) × IsCivilDate (pos year) month day
is_date-true year month day h =
    let whole =
    and_parts (nat_le year 9999 && (nat_le 1 month && nat_le month 12))
    (nat_le 1 day && nat_le day (days_in_month (pos year) month)) h in
    let front = and_parts (nat_le year 9999) (nat_le 1 month && nat_le month 12) whole.0 in
    let month_in = and_parts (nat_le 1 month) (nat_le month 12) front.1 in
    let day_in = and_parts (nat_le 1 day) (nat_le day (days_in_month (pos year) month)) whole.1 in (
      leb-true _ _ front.0,
      (
        is_year year (leb-true _ _ front.0),
        (leb-true _ _ month_in.0, leb-true _ _ month_in.1),
        (leb-true _ _ day_in.0, leb-true _ _ day_in.1),
      ),
    )

-- a date of the calendar passes the test
pub is_date-civil : (year month day : ℕ) → year ≤ 9999 → IsCivilDate (pos year) month day
    → is_date year month day ≡ true
is_date-civil year month day small is =
    rw (le-leb _ _ small, le-leb _ _ is.1.0, le-leb _ _ is.1.1, le-leb _ _ is.2.0, le-leb _ _ is.2.1) refl

pub is_time-true : (hour minute second : ℕ) → is_time hour minute second ≡ true
    → (hour < 24) × (minute < 60) × (second < 60)
is_time-true hour minute second h =
    let whole = and_parts (nat_lt hour 24 && nat_lt minute 60) (nat_lt second 60) h in
    let front = and_parts (nat_lt hour 24) (nat_lt minute 60) whole.0 in
    (ltb-true _ _ front.0, ltb-true _ _ front.1, ltb-true _ _ whole.1)

-- hours, minutes and seconds below their limits pass the test
pub is_time-below : (hour minute second : ℕ) → hour < 24 → minute < 60 → second < 60 → is_time hour minute second ≡ true
is_time-below hour minute second h m s = rw (lt-ltb _ _ h, lt-ltb _ _ m, lt-ltb _ _ s) refl

-- what the parts of a moment are
pub moment_of-some : (year month day hour minute second : ℕ) (t : ℤ) → moment_of year month day hour minute second
    ≡ Some t → (is_date year month day ≡ true) × (is_time hour minute second ≡ true)
    × (unix_seconds (days_from_civil (pos year) month day) (pos (time_seconds hour minute second)) ≡ t)
unfolding moment_of
moment_of-some year month day hour minute second t h =
    let there =
    chosen (is_date year month day && is_time hour minute second)
    (Some (unix_seconds (days_from_civil (pos year) month day) (pos (time_seconds hour minute second)))) t h in
    let both = and_parts (is_date year month day) (is_time hour minute second) there.0 in
    (both.0, both.1, same_Some _ _ there.1)

-- the moment of a date and a time of day
pub moment_of-there : (year month day hour minute second : ℕ) → is_date year month day ≡ true
    → is_time hour minute second ≡ true → moment_of year month day hour minute second
    ≡ Some (unix_seconds (days_from_civil (pos year) month day) (pos (time_seconds hour minute second)))
unfolding moment_of
moment_of-there year month day hour minute second date time =
    let both : (is_date year month day && is_time hour minute second) ≡ true = rw (date, time) refl in rw both refl

-- the day of an instant, and its second
pub unix_seconds-split : (day : ℤ) (seconds : ℕ) → seconds < 86_400
    → (int_div_euclid (unix_seconds day (pos seconds)) (pos 86_400) ≡ day)
    × (unsigned_abs (int_rem_euclid (unix_seconds day (pos seconds)) (pos 86_400)) ≡ seconds)
unix_seconds-split day seconds small = (omega (arith, signed_arith), omega (arith, signed_arith))

pub unix_seconds-join : (t : ℤ)
    → unix_seconds (int_div_euclid t (pos 86_400)) (pos (unsigned_abs (int_rem_euclid t (pos 86_400)))) ≡ t
unix_seconds-join t = omega (arith, signed_arith)

-- where a text is read as an instant, it has that instant's parts
pub record Written (text : List ℕ) (t : ℤ) : Type 0 where
  pub year : ℕ
  pub month : ℕ
  pub day : ℕ
  pub hour : ℕ
  pub minute : ℕ
  pub second : ℕ
  pub small : year ≤ 9999
  pub is_civil : IsCivilDate (pos year) month day
  pub clock : (hour < 24) × (minute < 60) × (second < 60)
  pub instant_is : unix_seconds (days_from_civil (pos year) month day) (pos (time_seconds hour minute second)) ≡ t
  pub text_is : text ≡ spelled_instant year month day hour minute second

-- a text that is read as an instant is a way to write it
pub Written-instant_of : (text : List ℕ) (t : ℤ) → instant_of text ≡ Some t → Written text t
unfolding instant_of
Written-instant_of text t h =
    let there =
    chosen (begins_in_form instant_form text && length text == 20)
    (moment_of (number_at text 0 4) (number_at text 5 2) (number_at text 8 2) (number_at text 11 2)
    (number_at text 14 2) (number_at text 17 2)) t h in
    let form = and_parts (begins_in_form instant_form text) (length text == 20) there.0 in
    let moment =
    moment_of-some (number_at text 0 4) (number_at text 5 2) (number_at text 8 2) (number_at text 11 2)
    (number_at text 14 2) (number_at text 17 2) t there.1 in
    let date = is_date-true _ _ _ moment.0 in
    record {
      year = number_at text 0 4;
      month = number_at text 5 2;
      day = number_at text 8 2;
      hour = number_at text 11 2;
      minute = number_at text 14 2;
      second = number_at text 17 2;
      small = date.0;
      is_civil = date.1;
      clock = is_time-true _ _ _ moment.1;
      instant_is = moment.2;
      text_is = spelled_instant-form text form.0 (eqb-true _ _ form.1);
    }

from_zero : (year month day : ℕ) → IsCivilDate (pos year) month day
    → day_count (pos 0) 1 1 ≤ day_count (pos year) month day
from_zero year month day is =
    elim (cases_lt 0 year) [
      | inl later ↦ let lt =
          day_count-lt_year (pos 0) 1 1 (pos year) month day (
            is_year 0 (omega arith),
            (omega arith, omega arith),
            (omega arith, search rules),
          ) is.2.0 (omega (arith, signed_arith)) in omega arith
      | inr first ↦ let e : year ≡ 0 = omega arith in let low = is.2.0 in
          rw e (omega (arith, day_count-day_of_year (pos 0) month day low))
    ]

-- the instants that are read have a year of four digits
pub HasFourDigitYear-written : (text : List ℕ) (t : ℤ) → Written text t → HasFourDigitYear t
HasFourDigitYear-written text t w =
    let low = from_zero w.year w.month w.day w.is_civil in
    let high = day_count_bounds (pos w.year) w.month w.day w.is_civil in
    let count = days_from_civil-day_count (pos w.year) w.month w.day in
    let is = w.instant_is in
    let clock = w.clock in
    (omega (arith, signed_arith, first_count), omega (arith, signed_arith, first_count))

-- the text of an instant, from its date and time
instant_text_of-parts : (year month day hour minute second : ℕ) (t : ℤ) → year ≤ 9999
    → IsCivilDate (pos year) month day → hour < 24 → minute < 60 → second < 60
    → unix_seconds (days_from_civil (pos year) month day) (pos (time_seconds hour minute second)) ≡ t
    → instant_text_of t ≡ spelled_instant year month day hour minute second
unfolding instant_text_of text_of_day
instant_text_of-parts year month day hour minute second t small is h m s instant =
    let seconds = time_seconds hour minute second in
    let split = unix_seconds-split (days_from_civil (pos year) month day) seconds (omega arith) in
    let the_hour : seconds / 3600 ≡ hour = omega arith in
    let the_minute : seconds / 60 % 60 ≡ minute = omega arith in
    let the_second : seconds % 60 ≡ second = omega arith in
    subst (λ (t : ℤ). instant_text_of t ≡ spelled_instant year month day hour minute second) instant
    (rw (
      split.0,
      split.1,
      year_of-days_from_civil year month day small is,
      month_of-days_from_civil year month day small is,
      day_of-days_from_civil year month day small is,
      the_hour,
      the_minute,
      the_second,
    ) refl)

-- what is read is what would be written
pub instant_text_of-instant_of : (text : List ℕ) (t : ℤ) → instant_of text ≡ Some t → text ≡ instant_text_of t
instant_text_of-instant_of text t h =
    let w = Written-instant_of text t h in
    w.text_is
    ∙ sym (instant_text_of-parts w.year w.month w.day w.hour w.minute w.second t w.small w.is_civil w.clock.0
    w.clock.1 w.clock.2 w.instant_is)

-- what is written is read
pub instant_of-instant_text_of : (t : ℤ) → HasFourDigitYear t → instant_of (instant_text_of t) ≡ Some t
instant_of-instant_text_of t within =
    let day = int_div_euclid t (pos 86_400) in
    let seconds = unsigned_abs (int_rem_euclid t (pos 86_400)) in
    let days = up day + 719_528 - down day in
    let at = date_exists days (omega (arith, signed_arith)) in
    let number : days_from_civil (pos at.year) at.month at.day ≡ day =
    omega (arith, signed_arith, days_from_civil-day_count (pos at.year) at.month at.day, at.count_is) in
    let small : seconds < 86_400 = omega (arith, signed_arith) in
    let whole : time_seconds (seconds / 3600) (seconds / 60 % 60) (seconds % 60) ≡ seconds = omega arith in
    let instant : unix_seconds (days_from_civil (pos at.year) at.month at.day)
    (pos (time_seconds (seconds / 3600) (seconds / 60 % 60) (seconds % 60))) ≡ t =
    rw (number, whole) (unix_seconds-join t) in
    let hour : seconds / 3600 < 24 = omega arith in
    let minute : seconds / 60 % 60 < 60 = omega arith in
    let second : seconds % 60 < 60 = omega arith in
    let year_in = at.small in
    let month_in = at.is_civil.1 in
    let day_in = at.is_civil.2 in
    let long = days_in_month_bounds (pos at.year) at.month in
    rw (
      instant_text_of-parts at.year at.month at.day (seconds / 3600) (seconds / 60 % 60)
          (seconds % 60) t at.small at.is_civil hour minute second instant,
      instant_of-spelled_instant at.year at.month at.day (seconds / 3600) (seconds / 60 % 60) (seconds % 60)
          (omega arith) (omega arith) (omega arith) (omega arith) (omega arith) (omega arith),
    )
    (moment_of-there at.year at.month at.day (seconds / 3600) (seconds / 60 % 60) (seconds % 60)
    (is_date-civil at.year at.month at.day at.small at.is_civil) (is_time-below _ _ _ hour minute second)
    ∙ ap Some instant)

-- no other text is read as the instant that this one is read as
pub written_if_read : (text : List ℕ) (r : Option ℤ) → r ≡ instant_of text → IfSome r (λ t. text ≡ instant_text_of t)
written_if_read text None e = tt
written_if_read text (Some t) e = instant_text_of-instant_of text t (sym e)

pub year_if_read : (text : List ℕ) (r : Option ℤ) → r ≡ instant_of text → IfSome r HasFourDigitYear
year_if_read text None e = tt
year_if_read text (Some t) e = HasFourDigitYear-written text t (Written-instant_of text t (sym e))

pub ruleset instants = (year_if_read, instant_of-instant_text_of)
