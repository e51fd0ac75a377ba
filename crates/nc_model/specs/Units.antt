-- The units that a text and a calendar give (CF Conventions, time coordinate).
use Rattle.std.specs.Prelude.{◌≡◌, ℕ, List, codes, Bool, true, false, not, ◌&&◌, ◌||◌, if◌then◌else◌, Option, Some, None, Result, Ok, Err, ℤ, pos, int_lt}
use Rattle.nc_model.specs.declared.units.Units.{Units}
use Rattle.nc_model.specs.declared.units.UnitsFault.{UnitsFault}
use Rattle.nc_model.specs.declared.units.UnitsFault.TheVariants.{BadUnits, Calendar, MixedCalendar}
use Rattle.jiff_core.specs.Calendar.{days_from_civil}
use Rattle.nc_model.specs.Calendar.{unix_seconds}
use Rattle.fm_base.specs.Chain.{◌>>=◌}
use Rattle.nc_model.specs.UnitsFaults.{GoesWrongFirst}
use Rattle.nc_model.specs.UnitsSpelling.{SpellsUnits}
use Rattle.nc_model.specs.UnitsReading.{Written, is_same_word, written_or_fault}

-- whether the Gregorian calendar holds at every date
unfoldable pub is_proleptic : Option (List ℕ) → Bool
is_proleptic None = false
is_proleptic (Some calendar) = is_same_word calendar (codes "proleptic_gregorian")

-- whether the Gregorian calendar holds from 1582-10-15 on, as where no calendar is named
unfoldable pub is_gregorian : Option (List ℕ) → Bool
is_gregorian None = true
is_gregorian (Some calendar) =
    is_same_word calendar (codes "standard") || is_same_word calendar (codes "gregorian")
    || is_same_word calendar (codes "proleptic_gregorian")

-- whether a day lies before 1582-10-15
unfoldable pub is_before_gregorian : ℤ → Bool
is_before_gregorian day = int_lt day (days_from_civil (pos 1582) 10 15)

-- the units of what a text says, in a calendar
unfoldable pub in_calendar : Option (List ℕ) → Written → Result Units UnitsFault
in_calendar calendar written = if not (is_gregorian calendar) then Err Calendar
    else (if not (is_proleptic calendar) && is_before_gregorian written.day then Err MixedCalendar
    else Ok (record { per = written.per; origin = unix_seconds written.day written.seconds }))

-- the units of a text in a calendar, or the first fault
unfoldable pub units_of : List ℕ → Option (List ℕ) → Result Units UnitsFault
units_of text calendar = written_or_fault text >>= in_calendar calendar

-- what an answer says of a text and a calendar: units are those that the text spells; a text with a bad offset spells
-- none, and goes wrong there first; and a calendar is refused only beside a text that spells units
abbrev pub Settles : List ℕ → Option (List ℕ) → Result Units UnitsFault → Type 0
Settles text calendar (Ok units) = (written : Written) × SpellsUnits true text written
    × (in_calendar calendar written ≡ Ok units)
Settles text calendar (Err (BadUnits offset)) =
    GoesWrongFirst offset text × ((written : Written) → ¬ SpellsUnits true text written)
Settles text calendar (Err Calendar) = (written : Written) × SpellsUnits true text written
    × (is_gregorian calendar ≡ false)
Settles text calendar (Err MixedCalendar) = (written : Written) × SpellsUnits true text written
    × (is_proleptic calendar ≡ false) × (is_before_gregorian written.day ≡ true)
