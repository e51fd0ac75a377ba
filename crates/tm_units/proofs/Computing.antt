-- What the check computes in worked examples: `unfolding(..::texts)` opens all that `texts` opens.
use Rattle.nc_model.specs.Calendar.{day_number}
use Rattle.nc_model.specs.Units.{units_of}
use Rattle.nc_model.specs.UnitsReading.{written_or_fault, units_at, unit_at, date_at, after_year_at, joined_day_at, dashed_day_at, day_at, after_date_at, clock_at, last_zone_at, zone_after, shift_at, zone_at, distance_at, zone_minute_at, colon_minute_at, time_of_day_at, past_hour_at, second_at, fraction_at, number_at, digits_at, many_at, some_at, byte_at, letter_at, end_at, seconds_per, is_second, is_minute, is_hour, is_day, is_same_word}

unfoldable pub texts : Unit {0}
unfolding day_number units_of written_or_fault units_at unit_at date_at after_year_at joined_day_at dashed_day_at day_at
    after_date_at clock_at last_zone_at zone_after shift_at zone_at distance_at zone_minute_at colon_minute_at
    time_of_day_at past_hour_at second_at fraction_at number_at digits_at many_at some_at byte_at letter_at end_at
    seconds_per is_second is_minute is_hour is_day is_same_word
texts = tt
