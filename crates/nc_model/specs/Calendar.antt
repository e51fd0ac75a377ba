-- Days and seconds of the proleptic Gregorian calendar, counted from 1970-01-01T00:00:00Z. There are no leap seconds.
use Rattle.std.specs.Prelude.{ℕ, ◌+◌, ◌*◌, Bool, ◌&&◌, nat_lt, nat_le, if◌then◌else◌, Option, Some, None, ℤ, pos, ◌+ℤ◌, ◌*ℤ◌}
use Rattle.jiff_core.specs.Calendar.{days_in_month, days_from_civil}

-- whether the calendar has this day of the years 0 to 9999
abbrev pub is_date : ℕ → ℕ → ℕ → Bool
is_date year month day = nat_le year 9999 && (nat_le 1 month && nat_le month 12)
    && (nat_le 1 day && nat_le day (days_in_month (pos year) month))

-- the days from 1970-01-01 to this day, where there is such a day
unfoldable pub day_number : ℕ → ℕ → ℕ → Option ℤ
day_number year month day = if is_date year month day then Some (days_from_civil (pos year) month day) else None

-- whether a clock shows this hour, minute and second
abbrev pub is_time : ℕ → ℕ → ℕ → Bool
is_time hour minute second = nat_lt hour 24 && nat_lt minute 60 && nat_lt second 60

-- the seconds from midnight to this time
abbrev pub time_seconds : ℕ → ℕ → ℕ → ℕ
time_seconds hour minute second = hour * 3600 + minute * 60 + second

-- the seconds from 1970-01-01T00:00:00Z to the moment that is `seconds` after the midnight that begins this day
abbrev pub unix_seconds : ℤ → ℤ → ℤ
unix_seconds day seconds = day *ℤ pos 86_400 +ℤ seconds

-- the Unix seconds of this date and time in UTC, where both exist
unfoldable pub moment_of : ℕ → ℕ → ℕ → ℕ → ℕ → ℕ → Option ℤ
moment_of year month day hour minute second =
    if is_date year month day && is_time hour minute second
    then Some (unix_seconds (days_from_civil (pos year) month day) (pos (time_seconds hour minute second)))
    else None
