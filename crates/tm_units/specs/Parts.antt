-- The parts of a day number.
use Rattle.std.specs.Prelude.{◌≡◌, ℕ, ℤ}
use Rattle.nc_model.specs.Instant.{year_of, month_of, day_of}

-- the day of this number lies in this year and month, and is this day of the month
pub record HasParts (day : ℤ) (year month day_in_month : ℕ) : Type 0 where
  pub year_is : year_of day ≡ year
  pub month_is : month_of day ≡ month
  pub day_is : day_of day ≡ day_in_month
