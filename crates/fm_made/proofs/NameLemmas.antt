-- The marks of names, by computing.
use Rattle.std.proofs.Common.{◌≡◌, ◌+◌, ◌*◌, Some, pos, refl}
use Rattle.std.specs.Prelude.{codes}
use Rattle.nc_model.specs.Calendar.{day_number, moment_of}
use Rattle.nc_model.specs.Stamp.{mark_of, number_at, stamp_form, stamp_of}
use Rattle.fm_model.specs.Computed.{day_count, days_from_civil, days_of_months, days_of_years}

pub first_mark : mark_of (codes "load_20200101_0000.nc") (codes "load_") ≡ Some (pos (1577836800 + 21600 * 0))
unfolding day_number moment_of mark_of number_at stamp_form stamp_of day_count days_from_civil days_of_months
    days_of_years
first_mark = refl

pub leap_mark : mark_of (codes "load_20200229_0600.nc") (codes "load_") ≡ Some (pos (1577836800 + 21600 * 237))
unfolding day_number moment_of mark_of number_at stamp_form stamp_of day_count days_from_civil days_of_months
    days_of_years
leap_mark = refl

pub last_mark : mark_of (codes "load_20200409_1800.nc") (codes "load_") ≡ Some (pos (1577836800 + 21600 * 399))
unfolding day_number moment_of mark_of number_at stamp_form stamp_of day_count days_from_civil days_of_months
    days_of_years
last_mark = refl

pub ruleset marks = (first_mark, leap_mark, last_mark)
