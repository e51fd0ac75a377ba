-- Instants, and their texts `YYYY-MM-DDThh:mm:ssZ` (RFC 3339, in UTC and without fractions).
use Rattle.std.specs.Prelude.{ℕ, zero, suc, ◌+◌, ◌/◌, ◌%◌, List, [], ◌∷◌, ◌++◌, length, codes, Bool, ◌&&◌, ◌==◌, if◌then◌else◌, Option, None, ℤ, pos, neg_ℤ, ◌-ℤ◌, int_le, unsigned_abs}
use Rattle.std.specs.Int.{int_div_euclid, int_rem_euclid}
use Rattle.jiff_core.specs.Calendar.{IsBetween, days_from_civil}
use Rattle.nc_model.specs.Calendar.{moment_of}
use Rattle.nc_model.specs.Stamp.{begins_in_form, number_at}

-- the form `YYYY-MM-DDThh:mm:ssZ`
unfoldable pub instant_form : List ℕ
instant_form = codes "0000-00-00T00:00:00Z"

-- the Unix seconds of the instant that a text writes
unfoldable pub instant_of : List ℕ → Option ℤ
instant_of text = if begins_in_form instant_form text && length text == 20
    then moment_of (number_at text 0 4) (number_at text 5 2) (number_at text 8 2)
    (number_at text 11 2) (number_at text 14 2) (number_at text 17 2)
    else None

-- the instants of the years 0 to 9999
abbrev pub HasFourDigitYear : ℤ → Type 0
HasFourDigitYear instant = IsBetween (neg_ℤ (pos 62_167_219_200)) (pos 253_402_300_799) instant

-- the greatest number that passes up to this one, and 0 where none does
abbrev pub last_passing : (ℕ → Bool) → ℕ → ℕ
last_passing test zero = 0
last_passing test (suc n) = if test (suc n) then suc n else last_passing test n

-- the last year from 0 to 9999 that begins on this day or before it
unfoldable pub year_of : ℤ → ℕ
year_of day = last_passing (λ year. int_le (days_from_civil (pos year) 1 1) day) 9999

-- the last month of that year that begins on this day or before it
unfoldable pub month_of : ℤ → ℕ
month_of day = last_passing (λ month. int_le (days_from_civil (pos (year_of day)) month 1) day) 12

-- the number of this day in its month, from 1
unfoldable pub day_of : ℤ → ℕ
day_of day = unsigned_abs (day -ℤ days_from_civil (pos (year_of day)) (month_of day) 1) + 1

-- the last two decimal digits of a number
abbrev pub two_digits : ℕ → List ℕ
two_digits n = (48 + n / 10 % 10) ∷ (48 + n % 10) ∷ []

-- the last four decimal digits of a number
abbrev pub four_digits : ℕ → List ℕ
four_digits n = two_digits (n / 100) ++ two_digits n

-- the text of a date and a time
abbrev pub spelled_instant : ℕ → ℕ → ℕ → ℕ → ℕ → ℕ → List ℕ
spelled_instant year month day hour minute second =
    four_digits year ++ codes "-" ++ two_digits month ++ codes "-" ++ two_digits day ++ codes "T" ++ two_digits hour
    ++ codes ":" ++ two_digits minute ++ codes ":" ++ two_digits second ++ codes "Z"

-- the text of an instant, by its day and the seconds from the midnight that begins it
unfoldable pub text_of_day : ℤ → ℕ → List ℕ
text_of_day day seconds = spelled_instant (year_of day) (month_of day) (day_of day) (seconds / 3600) (seconds / 60 % 60)
    (seconds % 60)

-- the text of an instant of the years 0 to 9999
unfoldable pub instant_text_of : ℤ → List ℕ
instant_text_of instant = text_of_day (int_div_euclid instant (pos 86_400))
    (unsigned_abs (int_rem_euclid instant (pos 86_400)))
