-- The definitions compute.
use Rattle.std.proofs.Common.{refl}
use Rattle.nc_model.specs.Calendar.{day_number}
use Rattle.nc_model.specs.Units.{is_gregorian, in_calendar, units_of}
use Rattle.nc_model.specs.UnitsReading.{end_at, byte_at, letter_at, many_at, some_at, digits_at, number_at, is_same_word, is_second, is_minute, is_hour, is_day, seconds_per, unit_at, day_at, dashed_day_at, joined_day_at, after_year_at, date_at, after_date_at, units_at, written_or_fault}
use Rattle.fm_model.specs.Attribute.{attr_text, text_of, trimmed}
use Rattle.fm_model.specs.LoadTimes.{file_units}
use Rattle.fm_model.proofs.examples.times.units_are_read_from_the_attributes.Goals as goal

pub returns-clause-missing : goal.returns-clause-missing
unfolding day_number is_gregorian in_calendar units_of end_at byte_at letter_at many_at some_at digits_at number_at
    is_same_word is_second is_minute is_hour is_day seconds_per unit_at day_at dashed_day_at joined_day_at
    after_year_at date_at after_date_at units_at written_or_fault attr_text text_of trimmed file_units
returns-clause-missing c = refl

pub returns-clause-calendar : goal.returns-clause-calendar
unfolding day_number is_gregorian in_calendar units_of end_at byte_at letter_at many_at some_at digits_at number_at
    is_same_word is_second is_minute is_hour is_day seconds_per unit_at day_at dashed_day_at joined_day_at
    after_year_at date_at after_date_at units_at written_or_fault attr_text text_of trimmed file_units
returns-clause-calendar c = refl
